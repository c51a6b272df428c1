use Rattle.std.proofs.Common.{◌≡◌, ◌+◌, ◌<◌, get_or, length, arith}
use Rattle.std.proofs.lemmas.List.{get_or_read}
use Rattle.note_tallies.proofs.Summed.{IsPart, part_none, part_more, part_all, part_small}
use Rattle.note_tallies.proofs.joining.add_counts.Goals as goal

pub loop-at-init : goal.loop-at-init
loop-at-init c = part_none c.args.counts.now.items c.args.more.now

pub returns-then-sum-from-clause-crowded : goal.returns-then-sum-from-clause-crowded
returns-then-sum-from-clause-crowded c =
    let part : IsPart c.args.counts.now.items c.args.more.now c.loop-at.counts.items c.loop-at.at = c.loop-at.invariant in
    let room : c.loop-at.at < length c.loop-at.counts.items = omega (arith, c.loop-at-test.true, c.requires, part.whole) in
    let here : c.index.result.now ≡ get_or c.loop-at.counts.items c.loop-at.at 0 = get_or_read c.loop-at.counts.items c.loop-at.at c.index.result.now room c.index.ensures 0 in
    let rest = part.rest c.loop-at.at (omega arith) in
    (c.loop-at.at, omega (arith, here, rest, c.from.ensures, c.from-in-loop-at.ensures, c.from-in-loop-at-2.ensures, c.if-sum-from.true))

pub loop-at-preserved : goal.loop-at-preserved
loop-at-preserved c =
    let part : IsPart c.args.counts.now.items c.args.more.now c.loop-at.counts.items c.loop-at.at = c.loop-at.invariant in
    let room : c.loop-at.at < length c.loop-at.counts.items = omega (arith, c.loop-at-test.true, c.requires, part.whole) in
    let here : c.index.result.now ≡ get_or c.loop-at.counts.items c.loop-at.at 0 = get_or_read c.loop-at.counts.items c.loop-at.at c.index.result.now room c.index.ensures 0 in
    let rest = part.rest c.loop-at.at (omega arith) in
    part_more c.args.counts.now.items c.args.more.now c.loop-at.counts.items c.loop-at.at (c.from.result + c.from-in-loop-at.result) part (omega (arith, room, part.whole))
    (omega (arith, here, rest, c.from.ensures, c.from-in-loop-at.ensures)) (omega (arith, c.from-in-loop-at-2.ensures, c.if-sum-from.false))

pub returns-clause-sum : goal.returns-clause-sum
returns-clause-sum c = part_all c.args.counts.now.items c.args.more.now c.loop-at.counts.items c.loop-at.at c.loop-at.invariant (omega (arith, c.loop-at-test.false)) (omega (arith, c.requires))

pub returns-clause-small : goal.returns-clause-small
returns-clause-small c = part_small c.args.counts.now.items c.args.more.now c.loop-at.counts.items c.loop-at.at c.loop-at.invariant (omega (arith, c.loop-at-test.false)) (omega (arith, c.requires))
