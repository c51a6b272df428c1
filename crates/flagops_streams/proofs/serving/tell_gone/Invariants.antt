use Rattle.std.proofs.Common.{◌≡◌, ◌≤◌, List, Option, false, length}
use Rattle.flagops_streams.specs.Documents.{missed_of}
use Rattle.flagops_streams.specs.Told.{TellsEnds}
use Rattle.flagops_streams.specs.declared.disconnected.Disconnected.{Disconnected}
use Rattle.flagops_streams.proofs.serving.tell_gone.Given as goal

-- so far nothing was told but that subscribers have gone, of each once, and those that were not served are counted
abbrev pub invariant-loop-subscriber : goal.invariant-loop-subscriber
invariant-loop-subscriber g l =
    (l.missed ≤ l._subscriber)
    × (g.E.Outlet.is_broken l.err ≡ false → g.E.Outlet.is_broken l.fn.err ≡ false)
    × ((ends : List (Option Disconnected)) × (length ends ≡ l._subscriber) × (l.missed ≡ missed_of l.published ends)
    × TellsEnds ends (g.E.Outlet.bytes l.fn.err) (g.E.Outlet.bytes l.err) (g.E.Outlet.is_broken l.err))
