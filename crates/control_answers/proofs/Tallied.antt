-- A request asks of the tally of inputs what it asks of the book that has them.
use Rattle.std.proofs.Common.{◌≡◌, ℕ, Bool, true, cond, unwrap_or, List, [], ◌∷◌, Some, None, Ok, sym, ap, subst}
use Rattle.std.specs.Cmp.{tied_itself}
use Rattle.std.specs.Ordering.{is_eq}
use Rattle.book_core.specs.Book.{Contents, Inputs, inputs_on}
use Rattle.book_core.specs.Page.{PageName, page_eq}
use Rattle.book_core.specs.PageOrder.{pages_total}
use Rattle.flag_defs.specs.Document.{Definitions}
use Rattle.rollout.specs.Tallied.{TalliesAskAsBooks}
use Rattle.rollout.specs.CheckedTally.{AreTallied, TallyProblem, tally_problem_of}
use Rattle.rollout.specs.declared.refining.Refining.{Refining}
use Rattle.note_tallies.specs.JoinLaw.{IsTallyOf}
use Rattle.note_tallies.specs.Tally.{PageTally}

page_itself : (page : PageName) → page_eq page page ≡ true
page_itself page = ap is_eq (tied_itself pages_total page)

abbrev book_of : PageName → Inputs → Contents
book_of page inputs = (page, inputs) ∷ []

inputs_there : (page : PageName) (inputs : Inputs) → inputs_on (book_of page inputs) page ≡ inputs
unfolding inputs_on
inputs_there page inputs = ap (λ (same : Bool). unwrap_or (cond same (Some inputs) None) []) (page_itself page)

-- a request asks of a tally how many of its inputs fall on each point
pub tallied : TalliesAskAsBooks → (refining : Refining) (flags : Definitions) (request : List ℕ) (t : PageTally) (p : TallyProblem) (inputs : Inputs) → IsTallyOf inputs t → tally_problem_of refining flags request t ≡ Ok p → AreTallied p inputs
tallied law refining flags request t p inputs is asks =
    let there = inputs_there t.page inputs in
    let book = book_of t.page inputs in
    subst (AreTallied p) there ((law refining flags request book t p (subst (λ (xs : Inputs). IsTallyOf xs t) (sym there) is) asks).1)
