-- What a person is told beside the reports of rollouts.
use Rattle.std.proofs.Common.{ℕ, Bool, List, ◌++◌, Option, Ok, subst}
use Rattle.bucket_core.specs.Rule.{total_weight}
use Rattle.flag_defs.specs.Document.{Definitions}
use Rattle.flagops_rollouts.specs.Beside.{Tells, part_if}
use Rattle.flagops_rollouts.specs.Finer.{finer_part, times_at}
use Rattle.flagops_rollouts.specs.Omitted.{TellsOmitted}
use Rattle.flagops_rollouts.specs.Remarks.{TellsAppliedAt, TellsDoubtsAt, TellsKeptAt, TellsPlanAt, applied_parts}
use Rattle.flagops_shell.specs.Files.{Holding}
use Rattle.flagops_shell.specs.declared.refused.Remark.{Remark}
use Rattle.product_laws.specs.Documents.{MeaningsStay, TreesStay}
use Rattle.product_laws.specs.FloatWhole.{IsWholeText}
use Rattle.plan_text.specs.Answer.{Answer, emit, none_exists}
use Rattle.product_laws.specs.Whole.{IsWholeAt}
use Rattle.product_laws.proofs.Applied.{omitting_so}
use Rattle.product_laws.proofs.Read.{rolled_document, rolled_question}

-- what is left out of a document, and finer points
pub parts_so : TreesStay → (floats other : Bool) (document : List ℕ) → IsWholeText document → (path : List ℕ) (flags : Definitions) (key : List ℕ) (site : ℕ) (answer : Answer) (told : Option Remark)
    → Tells (applied_parts floats path document flags key site answer) told → Tells (applied_parts other path document flags key site answer) told
parts_so trees floats other document whole path flags key site (emit rule c) told h =
    subst (λ (b : Bool). Tells (part_if b (TellsOmitted path flags) ++ finer_part path (times_at flags key site (total_weight rule)) (total_weight rule)) told) (omitting_so trees floats other document whole flags) h
parts_so trees floats other document whole path flags key site (none_exists kind names) told h = h

module _ (meanings : MeaningsStay) (floats other : Bool) (at : Holding) (document : List ℕ) (whole : IsWholeAt at document) where
  pub plan_told : (request book : List ℕ) (m : ℕ) (explain : Bool) (text : List ℕ) (told : Option Remark) → TellsPlanAt floats at document request book m explain text told → TellsPlanAt other at document request book m explain text told
  unfolding TellsPlanAt
  plan_told request book m explain text told h = (h.0, rolled_question meanings floats other at document request book (Ok h.0) whole h.1, h.2)

  pub doubts_told : (request book : List ℕ) (told : Option Remark) → TellsDoubtsAt floats at document request book told → TellsDoubtsAt other at document request book told
  unfolding TellsDoubtsAt
  doubts_told request book told h = (h.0, rolled_question meanings floats other at document request book (Ok h.0) whole h.1, h.2)

  pub kept_told : (plan request book : List ℕ) (told : Option Remark) → TellsKeptAt floats at document plan request book told → TellsKeptAt other at document plan request book told
  unfolding TellsKeptAt
  kept_told plan request book told h = (h.0, h.1, rolled_question meanings floats other at document request book (Ok h.0) whole h.2, h.3, h.4)

  pub applied_told : TreesStay → (plan key : List ℕ) (site : ℕ) (told : Option Remark) → TellsAppliedAt floats at document plan key site told → TellsAppliedAt other at document plan key site told
  unfolding TellsAppliedAt
  applied_told trees plan key site told h = (
    h.0,
    h.1,
    h.2,
    h.3,
    rolled_document meanings floats other at document (Ok h.1) whole h.4,
    h.5,
    parts_so trees floats other h.0 (whole h.0 h.3) document h.1 key site h.2 told h.6,
  )
