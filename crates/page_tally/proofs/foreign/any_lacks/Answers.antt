use Rattle.page_tally.proofs.Lacking.{lack_here}
use Rattle.page_tally.proofs.foreign.any_lacks.Goals as goal

pub returns-then-plain : goal.returns-then-plain
returns-then-plain g c =
    let at = c.loop-plain in
    lack_here c.args.bytes.now at.rest.now c.args.key.now c.plain_stretch-plain.result at.invariant c.plain_stretch-plain.ensures c.if-plain.true
