use Rattle.std.proofs.Common.{◌≡◌, ◌≤◌, length, arith}
use Rattle.near_names.proofs.Ends.{ended}
use Rattle.near_names.proofs.near.is_slip.Goals as goal

pub returns-else-a-shorter : goal.returns-else-a-shorter
returns-else-a-shorter c =
    let at_end : c.loop-i.i ≡ c.min-shorter.result = omega (arith, c.loop-i-test.false, c.loop-i.auto.i-end) in
    let short : length c.args.b.now ≤ c.min-shorter.result = omega (arith, c.min-shorter.ensures, c.if-a-shorter.false) in
    ended c.args.a.now c.args.b.now c.min-shorter.result c.loop-i.i c.loop-i.invariant at_end short
