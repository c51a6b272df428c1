use Rattle.std.proofs.Common.{◌≡◌, ◌≤◌, List, false, length}
use Rattle.sync_frames.specs.Snapshots.{Numbered}
use Rattle.sync_server.specs.Served.{Sent}
use Rattle.sync_server.specs.Turns.{Turned}
use Rattle.sync_server.proofs.serve.serve_stream.Given as goal

-- each turn so far asked for a number and read a snapshot
abbrev pub invariant-loop-turn : goal.invariant-loop-turn
invariant-loop-turn g l =
    (read : List Numbered)
    × Sent (g.C.Current.known l.current) (g.O.Outlet.bytes l.initial.out) (g.O.Outlet.bytes l.out) read l.progress.last l.progress.count
    × Turned g.N.NextNumber.asked g.C.Current.was_read 0 l.initial.next l.initial.current read l.next l.current
    × (length read ≡ l._turn)
    × (g.N.NextNumber.is_closed l.next ≡ false)
    × (g.O.Outlet.is_broken l.out ≡ false)
    × (l.progress.count ≤ l._turn)
