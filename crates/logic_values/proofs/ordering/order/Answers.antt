use Rattle.std.proofs.Common.{sym}
use Rattle.logic_values.proofs.Signs.{negative_first, plain_first}
use Rattle.logic_values.proofs.ordering.order.Goals as goal

pub returns-in-true-false : goal.returns-in-true-false
returns-in-true-false c =
    sym (negative_first c.args.a.now.negative c.args.b.now.negative c.args.a.now.digits.items c.args.b.now.digits.items c.args.a.now.zeros c.args.b.now.zeros c.args.a.now.normal c.in-true-false.is-0 c.in-true-false.is-1)

pub returns-in-false-true : goal.returns-in-false-true
returns-in-false-true c =
    sym (plain_first c.args.a.now.negative c.args.b.now.negative c.args.a.now.digits.items c.args.b.now.digits.items c.args.a.now.zeros c.args.b.now.zeros c.args.b.now.normal c.in-false-true.is-0 c.in-false-true.is-1)
