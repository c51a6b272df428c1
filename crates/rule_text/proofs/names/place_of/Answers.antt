use Rattle.std.proofs.Common.{◌≡◌, ◌%◌, ◌++◌, ◌∷◌, [], length, get_or, sym, ap, ◌∙◌, arith}
use Rattle.std.specs.Prelude.{slice_get}
use Rattle.bucket_core.specs.Rule.{names_view}
use Rattle.rule_text.specs.Names.{IsPlaced}
use Rattle.rule_text.proofs.Placed.{named_again, named_new}
use Rattle.rule_text.proofs.names.place_of.Goals as goal

pub returns-then-is_at-clause-placed : goal.returns-then-is_at-clause-placed
returns-then-is_at-clause-placed c =
    let place = get_or c.args.slots.now (c.hash.result % length c.args.slots.now) 0 in
    let names = c.args.names.now.items in
    named_again (names_view names) c.args.name.now place (ap (λ ns. slice_get (names_view ns) place) (sym c.as_slice.ensures.value) ∙ c.if-is_at.ensures)

pub returns-clause-placed : goal.returns-clause-placed
returns-clause-placed c =
    let names = c.args.names.now.items in
    let text = c.in_ok-from_str.field-0 in
    let name = c.args.name.now in
    let place = c.len-place.result in
    let last : place ≡ length names = omega (arith, c.len-place.ensures, c.args.names.now.ok.0) in
    let placed : IsPlaced (names_view names) (names_view (names ++ text ∷ [])) name place = named_new names text name place c.in_ok-from_str.ensures.ok last in
    rw (c.in_ok-push.ensures.items) placed
