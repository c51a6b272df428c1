use Rattle.std.proofs.Common.{[]}
use Rattle.flagops_filters.proofs.Kept.{none_taken, same_kept}
use Rattle.flagops_filters.proofs.opening.OpenedInletInlet.read.Goals as goal

pub returns-in_default-clause-read : goal.returns-in_default-clause-read
returns-in_default-clause-read g c =
    let front = c.args.self.now.front in
    let kept = rw c.in_default.is at c.read-outcome.ensures.bytes in
    (c.read-outcome.ensures.read, ([], same_kept front.count front.bytes front.fits, none_taken _ _ kept))
