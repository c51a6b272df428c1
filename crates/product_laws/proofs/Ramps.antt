-- The reports of rollouts in steps.
use Rattle.std.proofs.Common.{◌≡◌, ℕ, Bool, true, List, Option, Some, None, Result, Ok, Err}
use Rattle.flag_defs.specs.Document.{Definitions}
use Rattle.flag_defs.specs.Floats.{Marks, are_unmarked}
use Rattle.flagops_files.specs.declared.refusal.Refusal.{Refusal}
use Rattle.flagops_ramps.specs.Apply.{IsStepApplied, IsStepOver, IsStepPut, IsStepReport}
use Rattle.flagops_ramps.specs.Judging.{Found, IsFoundAt}
use Rattle.flagops_ramps.specs.Ramp.{IsRampReport}
use Rattle.flagops_ramps.specs.Report.{Came}
use Rattle.flagops_ramps.specs.Verify.{IsVerdictReport}
use Rattle.flagops_ramps.specs.Words.{Applying, Verifying}
use Rattle.flagops_ramps.specs.declared.refusal.RampRefusal.{RampRefusal}
use Rattle.flagops_shell.specs.Files.{Holding}
use Rattle.plan_text.specs.Answer.{Answer}
use Rattle.product_laws.specs.Documents.{MeaningsStay, NoneIsMarked, TreesStay}
use Rattle.product_laws.specs.Ramps.{RampVerdictsStay, RampsStay, verified_as}
use Rattle.product_laws.specs.Whole.{IsWholeAt}
use Rattle.product_laws.specs.FloatWhole.{IsWholeText}
use Rattle.product_laws.proofs.Applied.{some_marks, told_so}
use Rattle.product_laws.proofs.Read.{document_so, question_so}

module _ (meanings : MeaningsStay) where
  pub ramps_stay : RampsStay
  unfolding IsRampReport
  ramps_stay other at a r whole h = (h.0, question_so meanings a.floats other at a.document a.steps a.book h.0 whole h.1, h.2)

  pub found_so : (other : Bool) (at : Holding) (v : Verifying) (r : Found) → IsWholeAt at v.rollout.document → IsFoundAt at v r → IsFoundAt at (verified_as other v) r
  unfolding IsFoundAt
  found_so other at v r whole h = (h.0, question_so meanings v.rollout.floats other at v.rollout.document v.rollout.steps v.rollout.book h.0 whole h.1, h.2)

  pub ramp_verdicts_stay : RampVerdictsStay
  unfolding IsVerdictReport
  ramp_verdicts_stay other at v r whole h = (h.0, found_so other at v h.0 whole h.1, h.2)

  module _ (trees : TreesStay) (none : NoneIsMarked) (other : Bool) (at : Holding) (a : Applying) (r : Came) (whole : IsWholeAt at a.document) where
    module _ (document : List ℕ) (text : IsWholeText document) (flags : Definitions) (marks others : Marks) (one : are_unmarked marks ≡ true) (two : are_unmarked others ≡ true) where
      put_so : (answer : Option Answer) → IsStepPut a document flags marks answer r → IsStepPut (record a { floats = other }) document flags others answer r
      put_so None h = h
      put_so (Some answer) h = (h.0, told_so a.floats other marks others one two trees document text flags a.key a.site a.strict answer h.0 h.1, h.2)

      over_so : (answers : Result (List Answer) RampRefusal) → IsStepOver a document flags marks answers r → IsStepOver (record a { floats = other }) document flags others answers r
      over_so (Err e) h = h
      over_so (Ok answers) h = put_so _ h

    step_so : (flags : Result Definitions Refusal) → IsStepApplied at a flags r → IsStepApplied at (record a { floats = other }) flags r
    step_so (Err e) h = h
    step_so (Ok flags) h =
        let document : List ℕ = h.0 in
        let text = whole document h.1 in
        let others = some_marks other document flags in (
          document,
          h.1,
          others.0,
          others.1,
          over_so document text flags h.2 others.0 (none a.floats document flags h.2 text h.3) (none other document flags others.0 text others.1) _ h.4,
        )

    pub steps_stay : IsStepReport at a r → IsStepReport at (record a { floats = other }) r
    unfolding IsStepReport
    steps_stay h = (h.0, document_so meanings a.floats other at a.document h.0 whole h.1, step_so h.0 h.2)
