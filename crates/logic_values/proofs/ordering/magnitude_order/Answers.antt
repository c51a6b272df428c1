use Rattle.std.proofs.Common.{rules, ◌≡◌, ◌+◌, length, nat_cmp, ◌∙◌}
use Rattle.std.specs.Cmp.Lexicographic.{slice_cmp}
use Rattle.std.specs.Ordering.{ordering_then}
use Rattle.logic_values.proofs.Orders.{by_order}
use Rattle.logic_values.proofs.ordering.magnitude_order.Goals as goal

pub returns : goal.returns
returns c =
    let e : c.then.result ≡ ordering_then (nat_cmp (length c.args.a.now.digits.items + c.args.a.now.zeros) (length c.args.b.now.digits.items + c.args.b.now.zeros)) (slice_cmp nat_cmp c.args.a.now.digits.items c.args.b.now.digits.items) = search rules in
    e ∙ by_order c.args.a.now.negative c.args.b.now.negative c.args.a.now.digits.items c.args.b.now.digits.items c.args.a.now.zeros c.args.b.now.zeros c.args.a.now.normal c.args.b.now.normal
