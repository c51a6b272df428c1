-- That a tally stands for the book whose inputs it counts.
use Rattle.std.specs.Prelude.{◌≡◌, ◌≢◌, ◌↔◌, ℕ, Bool, false, List, unwrap_or, Option, Result, Ok, Err}
use Rattle.book_core.specs.Book.{Contents, inputs_on}
use Rattle.flag_defs.specs.Document.{Definitions}
use Rattle.page_tally.specs.Foreign.{has_foreign}
use Rattle.plan_text.specs.Answer.{Answer}
use Rattle.rollout.specs.CheckedTally.{tally_problem_of}
use Rattle.rollout.specs.declared.fault.RolloutFault.TheVariants.{OtherTally}
use Rattle.rollout.specs.declared.refining.Refining.TheVariants.{Times}
use Rattle.note_tallies.specs.JoinLaw.{IsTallyOf}
use Rattle.note_tallies.specs.Tally.{PageTally}
use Rattle.flagops_rollouts.specs.Plan.{IsPlanOf}
use Rattle.flagops_rollouts.specs.Verify.{IsVerdict, tally_problem_checked}
use Rattle.flagops_files.specs.Question.{Question}
use Rattle.flagops_shell.specs.Outcomes.{beside}
use Rattle.flagops_shell.specs.Report.{Report}
use Rattle.flagops_files.specs.declared.evidence.Evidence.{Evidence}
use Rattle.flagops_files.specs.declared.evidence.Evidence.TheVariants.{Book, Tally}
use Rattle.flagops_rollouts.specs.declared.refusal.RolloutRefusal.{RolloutRefusal}

-- the question over what was recorded
abbrev pub over : Definitions → List ℕ → Evidence → Question
over flags request evidence = record { flags = flags; request = request; evidence = evidence }

-- On a book with no input on a page that is none of the page's flag, and on the tally of that page, which is not refused as another tally, `plan` may report the same.
abbrev pub TalliesPlanAsBooks : Type 0
TalliesPlanAsBooks =
    (strict explain : Bool) (refine : Option ℕ) (flags : Definitions) (request : List ℕ) (book : Contents) (tally : PageTally) (r : Result Report RolloutRefusal)
    → IsTallyOf (inputs_on book tally.page) tally → tally_problem_of (Times (unwrap_or refine 1)) flags request tally ≢ Err OtherTally → has_foreign tally.page (inputs_on book tally.page) ≡ false
    → IsPlanOf strict explain refine (Ok (over flags request (Tally tally))) r ↔ IsPlanOf strict explain refine (Ok (over flags request (Book book))) r

-- and what `verify` tells on the tally it may tell on the book
abbrev pub TalliesTellAsBooks : Type 0
TalliesTellAsBooks =
    (strict json : Bool) (refine : Option ℕ) (flags : Definitions) (request : List ℕ) (book : Contents) (tally : PageTally) (answer : Answer) (r : Result Report RolloutRefusal)
    → IsTallyOf (inputs_on book tally.page) tally → tally_problem_checked refine answer flags request tally ≢ Err OtherTally → has_foreign tally.page (inputs_on book tally.page) ≡ false
    → IsVerdict strict json refine (Ok (over flags request (Tally tally))) (Ok answer) r → IsVerdict strict json refine (Ok (over flags request (Book book))) (Ok answer) r

-- Whatever inputs the page has: where no doubt is refused, `plan` may report the same on both but for whether a person is told something, since a tally does not show whose inputs it counts.
abbrev pub TalliesPlanAsAnyBooks : Type 0
TalliesPlanAsAnyBooks =
    (explain : Bool) (refine : Option ℕ) (flags : Definitions) (request : List ℕ) (book : Contents) (tally : PageTally) (r : Result Report RolloutRefusal)
    → IsTallyOf (inputs_on book tally.page) tally → tally_problem_of (Times (unwrap_or refine 1)) flags request tally ≢ Err OtherTally
    → (IsPlanOf false explain refine (Ok (over flags request (Tally tally))) r → (noted : Bool) × IsPlanOf false explain refine (Ok (over flags request (Book book))) (beside noted r))
    × (IsPlanOf false explain refine (Ok (over flags request (Book book))) r → (noted : Bool) × IsPlanOf false explain refine (Ok (over flags request (Tally tally))) (beside noted r))

-- and so with what `verify` tells
abbrev pub TalliesTellAsAnyBooks : Type 0
TalliesTellAsAnyBooks =
    (json : Bool) (refine : Option ℕ) (flags : Definitions) (request : List ℕ) (book : Contents) (tally : PageTally) (answer : Answer) (r : Result Report RolloutRefusal)
    → IsTallyOf (inputs_on book tally.page) tally → tally_problem_checked refine answer flags request tally ≢ Err OtherTally
    → IsVerdict false json refine (Ok (over flags request (Tally tally))) (Ok answer) r → (noted : Bool) × IsVerdict false json refine (Ok (over flags request (Book book))) (Ok answer) (beside noted r)
