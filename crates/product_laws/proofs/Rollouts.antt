-- The reports of rollouts on documents whose numbers are all whole.
use Rattle.std.proofs.Common.{ℕ, Bool, List, Option, Some, Result, Ok, Err}
use Rattle.flag_defs.specs.Document.{Definitions}
use Rattle.flagops_compare.specs.Drawn.{pages_drawn}
use Rattle.flagops_compare.specs.Loaded as compare
use Rattle.flagops_compare.specs.Report as compare_report
use Rattle.flagops_compare.specs.Report.{IsCompareReport, IsWithCompared, IsWithLoaded, IsWithPages}
use Rattle.flagops_compare.specs.Words.{Comparing}
use Rattle.flagops_files.specs.declared.refusal.Refusal.{Refusal}
use Rattle.flagops_rollouts.specs.Apply.{IsApplied, IsApplyReport}
use Rattle.flagops_rollouts.specs.Plan.{IsPlanReport}
use Rattle.flagops_rollouts.specs.Verify.{IsVerifyReport}
use Rattle.flagops_rollouts.specs.declared.refusal.RolloutRefusal.{RolloutRefusal}
use Rattle.flagops_shell.specs.Files.{Holding}
use Rattle.flagops_shell.specs.Report.{Report}
use Rattle.rule_switches.specs.Found.{PageFound}
use Rattle.rule_switches.specs.declared.fault.TallyFault.{TallyFault}
use Rattle.picture.specs.Spelling.{Pictures}
use Rattle.plan_text.specs.Answer.{Answer}
use Rattle.product_laws.specs.Documents.{MeaningsStay, NoneIsMarked, TreesStay}
use Rattle.product_laws.specs.Rollouts.{AppliedStay, ComparedStay, PlansStay, VerdictsStay}
use Rattle.product_laws.specs.Whole.{IsWholeAt}
use Rattle.product_laws.proofs.Applied.{some_marks, told_so}
use Rattle.product_laws.proofs.Read.{document_so, rolled_document, rolled_question}

module _ (meanings : MeaningsStay) where
  pub plans_stay : PlansStay
  unfolding IsPlanReport
  plans_stay floats other at document request book refine strict explain r whole h = (h.0, rolled_question meanings floats other at document request book h.0 whole h.1, h.2)

  pub verdicts_stay : VerdictsStay
  unfolding IsVerifyReport
  verdicts_stay floats other at document request book plan refine strict json r whole h = (h.0, rolled_question meanings floats other at document request book h.0 whole h.1, h.2)

  pub loaded_so : (floats other : Bool) (at : Holding) (old new book : List ℕ) (r : Result compare.Loaded Refusal) → IsWholeAt at old → IsWholeAt at new
      → compare.IsLoadedAt floats at old new book r → compare.IsLoadedAt other at old new book r
  unfolding compare.IsLoadedAt
  loaded_so floats other at old new book r before after h = (h.0, document_so meanings floats other at old h.0 before h.1, by h.0 h.2)
    where
      by : (document : Result Definitions Refusal) → compare.IsWithOld floats at document new book r → compare.IsWithOld other at document new book r
      by (Err e) h = h
      by (Ok flags) h = (h.0, document_so meanings floats other at new h.0 after h.1, h.2)

  with_pages : (other : Bool) (old new : Option Holding) (a : Comparing) (ps : Pictures) (pages : List PageFound) (r : compare_report.Came) → IsWithPages old new a ps pages r → IsWithPages old new (record a { floats = other }) ps pages r
  with_pages other old new a ps pages (Ok report) h = h
  with_pages other old new a ps pages (Err e) h = h

  with_compared : (other : Bool) (old new : Option Holding) (a : Comparing) (l : compare.Loaded) (pages : Result (List PageFound) TallyFault) (r : compare_report.Came) → IsWithCompared old new a l pages r
      → IsWithCompared old new (record a { floats = other }) l pages r
  with_compared other old new a l (Err e) r h = h
  with_compared other old new a l (Ok pages) r h = with_pages other old new a (pages_drawn l.old l.new pages) pages r h

  with_loaded : (other : Bool) (old new : Option Holding) (a : Comparing) (loaded : Result compare.Loaded Refusal) (r : compare_report.Came) → IsWithLoaded old new a loaded r → IsWithLoaded old new (record a { floats = other }) loaded r
  with_loaded other old new a (Err e) r h = h
  with_loaded other old new a (Ok l) r h = (h.0, h.1, with_compared other old new a l h.0 r h.2)

  pub compared_stay : ComparedStay
  unfolding IsCompareReport
  compared_stay other at after a r old new h = (h.0, loaded_so a.floats other at a.old a.new a.book h.0 old new h.1, with_loaded other (Some at) after a h.0 r h.2)

  module _ (trees : TreesStay) (none : NoneIsMarked) where
    applied_so : (floats other : Bool) (at : Holding) (path key : List ℕ) (site : ℕ) (strict : Bool) (r : Result Report RolloutRefusal) → IsWholeAt at path
        → (document : Result Definitions RolloutRefusal) (answer : Result Answer RolloutRefusal) → IsApplied floats at path key site strict document answer r → IsApplied other at path key site strict document answer r
    applied_so floats other at path key site strict r whole (Err e) answer h = h
    applied_so floats other at path key site strict r whole (Ok flags) (Err e) h = h
    applied_so floats other at path key site strict r whole (Ok flags) (Ok answer) h =
        let document : List ℕ = h.0 in
        let text = whole document h.1 in
        let others = some_marks other document flags in (
          document,
          h.1,
          others.0,
          others.1,
          told_so floats other h.2 others.0 (none floats document flags h.2 text h.3) (none other document flags others.0 text others.1) trees document text flags key site strict answer r h.4,
        )

    pub applied_stay : AppliedStay
    unfolding IsApplyReport
    applied_stay floats other at document plan key site strict r whole h =
        (h.0, rolled_document meanings floats other at document h.0 whole h.1, applied_so floats other at document key site strict r whole h.0 _ h.2)
