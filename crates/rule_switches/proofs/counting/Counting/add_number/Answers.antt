-- the number falls on these points
use Rattle.std.proofs.Common.{◌≡◌, ◌*◌, ◌/◌, ap, ◌∙◌, subst, arith}
use Rattle.rule_switches.specs.Counting.{Counted, IsPlace}
use Rattle.rule_switches.proofs.counting.Counting.add_number.Goals as goal

pub add-requires-clause-place : goal.add-requires-clause-place
add-requires-clause-place c =
    let k : Counted = record { before = c.self.inside.before.now; after = c.self.inside.after.now; span = c.self.inside.span; inputs = c.self.inside.inputs; cells = c.self.inside.cells.items } in
    let p = c.place-before.result in
    let q = c.place-after.result in
    let place : IsPlace k p q = record {
      x = c.args.number;
      before = c.place-before.ensures.value ∙ ap (λ n. c.args.number * n / k.span) c.total.ensures.value;
      after = c.place-after.ensures.value ∙ ap (λ n. c.args.number * n / k.span) c.total-2.ensures.value;
      before_inside = omega (arith, c.place-before.ensures.inside, c.total.ensures.value);
      after_inside = omega (arith, c.place-after.ensures.inside, c.total-2.ensures.value);
    } in
    subst (λ (s : Counted). IsPlace s p q) c.self.view_is place
