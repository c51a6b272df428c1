use Rattle.std.proofs.Common.{◌≡◌, false, vec_len}
use Rattle.flagops_streams.specs.Told.{TellsArrivals}
use Rattle.flagops_streams.proofs.arrivals.connections.Given as goal

-- a connection for each place so far, and nothing told but that they have come, in their order
abbrev pub invariant-loop-place : goal.invariant-loop-place
invariant-loop-place g l =
    (vec_len l.streams ≡ l.place)
    × TellsArrivals l.port l.subscribers l.place (g.E.Outlet.bytes l.fn.err) (g.E.Outlet.bytes l.err) (g.E.Outlet.is_broken l.err)
    × (g.E.Outlet.is_broken l.err ≡ false → g.E.Outlet.is_broken l.fn.err ≡ false)
