-- The same of a step of a rollout.
use Rattle.std.proofs.Common.{ℕ, zero, suc, ◌-◌, Bool, true, false, List, [], ◌∷◌, drop, Option, Result, Ok, Err}
use Rattle.std.specs.List.{AllByRecursion}
use Rattle.bucket_core.specs.Rule.{Entries}
use Rattle.flag_defs.specs.Document.{Definitions}
use Rattle.product_laws.specs.Documents.{MeaningsStay, TreesStay}
use Rattle.flagops_files.specs.Question.{Question}
use Rattle.flagops_files.specs.declared.refusal.Refusal.{Refusal}
use Rattle.flagops_ramps.specs.Judging.{answers_at}
use Rattle.flagops_ramps.specs.Keep.{IsKeepAsked, IsKeepOf, IsKeepOver, IsKeepReport, IsKeptBy, IsKeptFrom, IsKeptOnto, IsKeptWith, IsPut, from_step, is_left, settled}
use Rattle.flagops_ramps.specs.Report.{Came}
use Rattle.flagops_ramps.specs.Words.{Keeping}
use Rattle.flagops_ramps.specs.declared.refusal.RampRefusal.{RampRefusal}
use Rattle.flagops_rollouts.specs.Keep.{Kept}
use Rattle.flagops_shell.specs.Files.{Holding}
use Rattle.product_laws.specs.FloatKept.{IsWritable, WholeNumbersStay}
use Rattle.plan_text.specs.Answer.{Answer, emit, none_exists}
use Rattle.price_core.specs.Request.{Asked}
use Rattle.ramp.specs.declared.fault.RampFault.{RampFault}
use Rattle.ramp.specs.Steps.{steps_of}
use Rattle.ramp.specs.declared.file_fault.StepsFault.{StepsFault}
use Rattle.product_laws.specs.Ramps.{KeptStepsStay, verified_as}
use Rattle.product_laws.specs.Whole.{IsWholeAt}
use Rattle.product_laws.specs.FloatWhole.{IsWholeText}
use Rattle.product_laws.proofs.Kept.{kept_at}
use Rattle.product_laws.proofs.Read.{question_so}
use Rattle.product_laws.proofs.Writable.{IsWritableAnswer}
use Rattle.product_laws.proofs.WritableSteps.{AreWritable, answers_writable}

all-drop : {X : Type 0} (P : X → Type 0) (n : ℕ) (xs : List X) → AllByRecursion P xs → AllByRecursion P (drop n xs)
all-drop P zero xs h = h
all-drop P (suc n) [] h = h
all-drop P (suc n) (x ∷ xs) h = all-drop P n xs h.1

module _ (meanings : MeaningsStay) (trees : TreesStay) (stay : WholeNumbersStay) (other : Bool) where
  module _ (floats : Bool) (document : List ℕ) (text : IsWholeText document) (flags : Definitions) where
    onto_so : (asked : Asked) (rule : Entries) → IsWritable rule → (left : Bool) (r : Result Kept RampRefusal) → IsKeptOnto floats document flags asked rule left r → IsKeptOnto other document flags asked rule left r
    onto_so asked rule writable false r h = h
    onto_so asked rule writable true r h = (h.0, kept_at meanings trees stay document text floats other flags asked.flag asked.site rule writable h.0 h.1, h.2)

    with_so : (request : List ℕ) (before : Option Answer) (answer : Answer) → IsWritableAnswer answer → (r : Result Kept RampRefusal) → IsKeptWith floats document flags request before answer r → IsKeptWith other document flags request before answer r
    with_so request before (emit rule c) writable r h = (h.0, h.1, onto_so h.0 rule writable (is_left flags h.0 before) r h.2)
    with_so request before (none_exists kind names) writable r h = h

    by_so : (requests : List (List ℕ)) (before : Option Answer) (answer : Answer) → IsWritableAnswer answer → (told : Result (Unit {0}) RampFault) (r : Result Kept RampRefusal)
        → IsKeptBy floats document flags requests before answer told r → IsKeptBy other document flags requests before answer told r
    by_so requests before answer writable (Err e) r h = h
    by_so requests before answer writable (Ok u) r h = with_so _ before answer writable r h

  from_so : (floats : Bool) (document : List ℕ) → IsWholeText document → (refine : Option ℕ) (q : Question) (requests : List (List ℕ)) (before : Option Answer) (answers : List Answer) → AllByRecursion IsWritableAnswer answers → (r : Result Kept RampRefusal)
      → IsKeptFrom floats refine document q requests before answers r → IsKeptFrom other refine document q requests before answers r
  from_so floats document text refine q requests before [] writable r h = h
  from_so floats document text refine q requests before (answer ∷ answers) writable r h = (h.0, h.1, by_so floats document text q.flags requests before answer writable.0 h.0 r h.2)

  module _ (at : Holding) (after : Option Holding) (k : Keeping) (whole : IsWholeAt at k.answered.rollout.document) where
    put_so : (settled : Result Bool RampRefusal) (kept : Result Kept RampRefusal) (r : Came) → IsPut at after k settled kept r → IsPut at after (record k { answered = verified_as other k.answered }) settled kept r
    put_so settled (Err e) r h = h
    put_so (Err e) (Ok kept) r h = h
    put_so (Ok told) (Ok kept) r h = h

    over_so : (document : List ℕ) → IsWholeText document → (q : Question) (answers : List Answer) → AllByRecursion IsWritableAnswer answers → (requests : Result (List (List ℕ)) StepsFault) (r : Came)
        → IsKeepOver at after k document q answers requests r → IsKeepOver at after (record k { answered = verified_as other k.answered }) document q answers requests r
    over_so document text q answers writable (Err e) r h = h
    over_so document text q answers writable (Ok requests) r h =
        (h.0, from_so k.answered.rollout.floats document text k.answered.rollout.refine q _ _ (from_step k.step answers) (all-drop IsWritableAnswer (k.step - 1) answers writable) h.0 h.1, put_so (settled k q requests answers) h.0 r h.2)

    of_so : (document : List ℕ) → IsWholeText document → (q : Question) (answers : Result (List Answer) RampRefusal) → AreWritable answers → (r : Came)
        → IsKeepOf at after k document q answers r → IsKeepOf at after (record k { answered = verified_as other k.answered }) document q answers r
    of_so document text q (Err e) writable r h = h
    of_so document text q (Ok answers) writable r h = over_so document text q answers writable (steps_of q.request) r h

    asked_so : (question : Result Question Refusal) (r : Came) → IsKeepAsked at after k question r → IsKeepAsked at after (record k { answered = verified_as other k.answered }) question r
    asked_so (Err e) r h = h
    asked_so (Ok q) r h = (h.0, h.1, of_so h.0 (whole h.0 h.1) q (answers_at at k.answered.ramp) (answers_writable at k.answered.ramp) r h.2)

pub kept_steps_stay : MeaningsStay → TreesStay → WholeNumbersStay → KeptStepsStay
unfolding IsKeepReport
kept_steps_stay meanings trees stay other at after k r whole h = (
  h.0,
  question_so meanings k.answered.rollout.floats other at k.answered.rollout.document k.answered.rollout.steps k.answered.rollout.book h.0 whole h.1,
  asked_so meanings trees stay other at after k whole h.0 r h.2,
)
