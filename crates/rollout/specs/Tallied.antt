-- What is planned on a tally is planned on the books that have its inputs.
use Rattle.std.specs.Prelude.{◌≡◌, ℕ, List, Ok}
use Rattle.book_core.specs.Book.{Contents, Inputs, inputs_on}
use Rattle.flag_defs.specs.Document.{Definitions}
use Rattle.plan_text.specs.Answer.{Answer}
use Rattle.plan_text.specs.declared.planned.Planned.{Planned}
use Rattle.rollout.specs.Lawful.{problem_of}
use Rattle.rollout.specs.Plan.{IsPlan, IsPlanned, IsTallyPlanned}
use Rattle.rollout.specs.CheckedTally.{AreTallied, TallyProblem, tally_problem_of, with_inputs}
use Rattle.rollout.specs.declared.refining.Refining.{Refining}
use Rattle.note_tallies.specs.JoinLaw.{IsTallyOf}
use Rattle.note_tallies.specs.Tally.{PageTally}

-- A plan is one for all inputs of which equally many fall on each point: it knows of them no more than these numbers.
abbrev pub PlansAreByCounts : Type 0
PlansAreByCounts = (p : TallyProblem) (some more : Inputs) (answer : Answer) → AreTallied p some → AreTallied p more → IsPlan (with_inputs p some) answer → IsPlan (with_inputs p more) answer

-- A request asks of the tally of a page's inputs what it asks of the book that has them.
abbrev pub TalliesAskAsBooks : Type 0
TalliesAskAsBooks =
    (refining : Refining) (flags : Definitions) (request : List ℕ) (book : Contents) (t : PageTally) (p : TallyProblem)
    → IsTallyOf (inputs_on book t.page) t → tally_problem_of refining flags request t ≡ Ok p
    → (problem_of refining flags request book ≡ Ok (with_inputs p (inputs_on book t.page))) × AreTallied p (inputs_on book t.page)

-- So what is planned on the tally is planned on the book.
abbrev pub TallyPlansAreOfBooks : Type 0
TallyPlansAreOfBooks =
    (refining : Refining) (flags : Definitions) (request : List ℕ) (book : Contents) (t : PageTally) (p : TallyProblem) (planned : Planned)
    → IsTallyOf (inputs_on book t.page) t → tally_problem_of refining flags request t ≡ Ok p
    → IsTallyPlanned (Ok p) (Ok planned) → IsPlanned (problem_of refining flags request book) (Ok planned)
