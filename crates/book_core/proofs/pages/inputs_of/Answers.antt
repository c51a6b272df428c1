use Rattle.std.proofs.Common.{◌≡◌, map, string_bytes, sym, ap, ◌∙◌, subst}
use Rattle.std.proofs.lemmas.Result.{IfOk-weaker}
use Rattle.book_core.specs.Book.{Inputs, IsExposure, inputs_on, inputs_view, contents_view}
use Rattle.book_core.proofs.Noting.{exposure_none}
use Rattle.book_core.proofs.Paged.{held_lawful, inputs_on-found, inputs_on-none}
use Rattle.book_core.proofs.pages.inputs_of.Goals as goal

pub of_rising-requires : goal.of_rising-requires
of_rising-requires c = subst (λ xs. IsExposure (map string_bytes xs)) (sym c.new.ensures.items) exposure_none

pub exposure-requires : goal.exposure-requires
exposure-requires c = held_lawful c.args.pages.now.entries c.args.page.now c.in-Some.inputs.now c.requires (sym c.in-Some.ensures.value)

pub returns-in-None-clause-inputs : goal.returns-in-None-clause-inputs
returns-in-None-clause-inputs c =
    c.of_rising.ensures ∙ ap (map string_bytes) c.new.ensures.items ∙ sym (inputs_on-none c.args.pages.now.entries c.args.page.now (sym c.in-None.ensures.value))

pub returns-in-Some-clause-none : goal.returns-in-Some-clause-none
returns-in-Some-clause-none c = λ empty.
    c.exposure.ensures.none (sym (inputs_on-found c.args.pages.now.entries c.args.page.now c.in-Some.inputs.now (sym c.in-Some.ensures.value)) ∙ empty)

pub returns-in-Some-clause-inputs : goal.returns-in-Some-clause-inputs
returns-in-Some-clause-inputs c =
    let es = c.args.pages.now.entries in
    let same = inputs_on-found es c.args.page.now c.in-Some.inputs.now (sym c.in-Some.ensures.value) in
    let seen : Inputs → Type 0 = λ xs. xs ≡ inputs_view c.in-Some.inputs.now in
    let wanted : Inputs → Type 0 = λ xs. xs ≡ inputs_on (contents_view es) c.args.page.now in
    IfOk-weaker c.exposure.result seen wanted (λ xs e. e ∙ sym same) c.exposure.ensures.copies
