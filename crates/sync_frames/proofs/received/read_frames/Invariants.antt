use Rattle.std.proofs.Common.{length}
use Rattle.sync_frames.specs.Feed.{snapshots_view}
use Rattle.sync_frames.specs.Received.{HasRead}
use Rattle.sync_frames.specs.Snapshots.{snapshot_view}
use Rattle.sync_frames.proofs.received.read_frames.Given as goal

abbrev pub invariant-frames : goal.invariant-frames
invariant-frames l = HasRead (snapshot_view l.fn.first) l.fn.bytes l.rest (snapshots_view l.snapshots.items) l.last

abbrev pub decreases-frames : goal.decreases-frames
decreases-frames l = length l.rest
