use Rattle.std.proofs.Common.{sym, ap, ◌∙◌, arith}
use Rattle.std.proofs.lemmas.Bool.{ltb-true}
use Rattle.flag_text.specs.View.{members_view}
use Rattle.spelled_numbers.specs.Levels.{stand_for_number}
use Rattle.spelled_numbers.proofs.Objects.{levels_number, levels_object}
use Rattle.spelled_numbers.proofs.levels.+fits.Goals as goal

pub fits-returns-then-stand_for_number : goal.fits-returns-then-stand_for_number
fits-returns-then-stand_for_number t c =
    let number = ap (λ ms. stand_for_number (members_view ms)) (sym c.as_slice.ensures.value) ∙ (sym c.stand_for_number.ensures ∙ c.if-stand_for_number.true) in
    let none = levels_number c.args.tree.now c.in-Object.members c.in-Object.is number in
    ((λ y. omega (arith, none)), (λ y. c.if-stand_for_number.true))

pub fits-returns-else-most-gt0-2 : goal.fits-returns-else-most-gt0-2
fits-returns-else-most-gt0-2 t c =
    let no_number = ap (λ ms. stand_for_number (members_view ms)) (sym c.as_slice.ensures.value) ∙ (sym c.stand_for_number.ensures ∙ c.if-stand_for_number.false) in
    let some = levels_object c.args.tree.now c.in-Object.members c.in-Object.is no_number in
    (λ more. absurd (omega (arith, ltb-true 0 c.args.most more, c.if-most-gt0-2.false)), λ within. absurd (omega (arith, some, within, c.if-most-gt0-2.false)))
