use Rattle.std.proofs.Common.{arith}
use Rattle.price_core.proofs.Misfits.{again_found, again_more}
use Rattle.price_core.proofs.misfit.first_again.Goals as goal

pub returns-then-not-branch : goal.returns-then-not-branch
returns-then-not-branch c =
    again_found c.args.items.now c.loop-place.place c.index-items-place.result c.loop-place.seen.keys c.in-Some.change c.in_ok-insert.field-0 _
    (omega arith) c.index-items-place.is c.in-Some.ensures c.in_ok-insert.ensures.added c.loop-place.invariant c.if-not-branch.true

pub loop-place-preserved : goal.loop-place-preserved
loop-place-preserved c =
    again_more c.args.items.now c.loop-place.place c.index-items-place.result c.loop-place.seen.keys c.in-Some.change c.in_ok-insert.field-0 _
    (omega arith) c.index-items-place.is c.in-Some.ensures c.in_ok-insert.ensures.added c.loop-place.invariant c.insert.new.self.keys c.if-not-branch.false c.in_ok-insert.ensures.keys
