use Rattle.std.proofs.Common.{◌≡◌, ◌==◌, [], ◌∷◌, length, refl, sym, ap, ◌∙◌, arith}
use Rattle.std.proofs.lemmas.Bool.{ne_eqb}
use Rattle.book_core.specs.Book.{Inputs, inputs_view}
use Rattle.book_core.specs.Listing.{has_none}
use Rattle.book_core.proofs.Paged.{inputs_on-found, inputs_on-none}
use Rattle.book_core.proofs.listing.has_no_input.Goals as goal

emptied : (inputs : Inputs) → (length inputs == 0) ≡ has_none inputs
emptied [] = refl
emptied (input ∷ inputs) = ne_eqb (length (input ∷ inputs)) 0 (λ e. absurd (omega (arith, e)))

pub returns-in-Some : goal.returns-in-Some
returns-in-Some c =
    ap (λ n. n == 0) c.len.ensures ∙ emptied (inputs_view c.in-Some.inputs.now)
    ∙ sym (ap has_none (inputs_on-found c.args.pages.now.entries c.args.page.now c.in-Some.inputs.now (sym c.in-Some.ensures.value)))

pub returns-in-None : goal.returns-in-None
returns-in-None c = sym (ap has_none (inputs_on-none c.args.pages.now.entries c.args.page.now (sym c.in-None.ensures.value)))
