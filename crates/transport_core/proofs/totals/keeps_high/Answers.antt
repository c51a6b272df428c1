use Rattle.std.proofs.Common.{[], get_or, arith}
use Rattle.price_core.specs.Limits.{high_of, limits_view}
use Rattle.transport_core.proofs.NameTotals.{total-at, totals-le, Lent}
use Rattle.transport_core.proofs.Members.{any_default}
use Rattle.transport_core.proofs.totals.keeps_high.Goals as goal

pub returns-then-high_of-total : goal.returns-then-high_of-total
returns-then-high_of-total c =
    let totals = c.args.totals.now in
    let i = c.loop-name.name-index in
    let none : Lent = (record { ref_ptr = (0, 0); now = [] }, 0) in
    let row : Lent = get_or totals i none in
    let here = total-at totals i row c.requires (omega arith) (any_default totals i none row (omega arith)) in
    (row.0.now, omega (arith, here, c.high_of.ensures, c.if-high_of-total.true))

pub returns : goal.returns
returns c = λ name. totals-le c.args.totals.now (high_of (limits_view c.args.limits.now)) name (λ k d below. c.loop-name.invariant k d (omega arith))
