use Rattle.std.proofs.Common.{◌≡◌, ℕ, ◌<◌, List, false, length}
use Rattle.std.specs.Io.KnownBytes.{Consumes}
use Rattle.sync_frames.specs.Snapshots.{Numbered}
use Rattle.sync_frames.specs.Feed.{has_failed}
use Rattle.sync_server.specs.Follows.{Stands}
use Rattle.sync_server.specs.Handed.{Took}
use Rattle.sync_server.specs.Reads.{AfterReads}
use Rattle.sync_server.proofs.follow.follow_stream.Given as goal

abbrev pub invariant-loop-turn : goal.invariant-loop-turn
invariant-loop-turn g l =
    (stream : List ℕ) × (ss : List Numbered)
    × Consumes (g.I.Inlet.bytes l.initial.inlet) (g.I.Inlet.bytes l.inlet) stream
    × Took g.S.Sink.took l.initial.sink ss l.sink
    × Stands l.feed stream ss
    × (has_failed l.feed ≡ false)
    × (g.I.Inlet.is_broken l.inlet ≡ false)
    × (0 < length l.buffer.items)
    × (g.S.Sink.is_full l.sink ≡ false)
    × AfterReads g.I.Inlet.was_read l._turn l.initial.inlet l.inlet
