use Rattle.std.proofs.Common.{◌≡◌, List, ◌++◌, false}
use Rattle.sync_frames.specs.Snapshots.{Numbered}
use Rattle.sync_frames.specs.Feed.{snapshots_view}
use Rattle.sync_server.specs.Handed.{Took}
use Rattle.sync_server.proofs.follow.hand_on.Given as goal

abbrev pub invariant-loop-snapshot : goal.invariant-loop-snapshot
invariant-loop-snapshot g l =
    (taken : List Numbered)
    × (snapshots_view l.fn.snapshots.items ≡ taken ++ snapshots_view l.snapshot-iterator.rest.items)
    × Took g.S.Sink.took l.initial.sink taken l.sink
    × (g.S.Sink.is_full l.sink ≡ false)
