use Rattle.std.proofs.Common.{string_bytes, ap, arith}
use Rattle.transport_core.specs.Rows.{total_in, totals_view}
use Rattle.transport_core.proofs.NameTotals.{low-at, lows-le}
use Rattle.transport_core.proofs.totals.keeps_low.Goals as goal

pub returns-then-total_in-limit : goal.returns-then-total_in-limit
returns-then-total_in-limit c =
    let l = c.limit-item.result in
    let here = low-at c.args.limits.now c.loop-limit.limit-index l c.requires (omega arith) c.limit-item.is in
    (string_bytes l.name, omega (arith, here, c.total_in.ensures, ap (total_in (totals_view c.args.totals.now)) c.as_str.ensures.value, c.if-total_in-limit.true))

pub returns : goal.returns
returns c = λ name. lows-le c.args.limits.now (total_in (totals_view c.args.totals.now)) name (λ k d below. c.loop-limit.invariant k d (omega arith))
