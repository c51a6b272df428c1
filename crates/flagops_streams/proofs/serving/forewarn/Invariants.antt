use Rattle.std.proofs.Common.{◌≡◌, false, map}
use Rattle.flagops_streams.specs.Documents.{IsRefusedAt, texts_of}
use Rattle.flagops_streams.specs.Told.{MayForewarnEach}
use Rattle.flagops_streams.proofs.serving.forewarn.Given as goal

-- so far those documents that will be refused were told of, in their order
abbrev pub invariant-loop-behind : goal.invariant-loop-behind
invariant-loop-behind g l =
    MayForewarnEach (map (λ p. p.now) l.paths) (IsRefusedAt l.floats (texts_of l.texts)) l.behind (g.E.Outlet.bytes l.fn.err) (g.E.Outlet.bytes l.err) (g.E.Outlet.is_broken l.err)
    × (g.E.Outlet.is_broken l.err ≡ false → g.E.Outlet.is_broken l.fn.err ≡ false)
