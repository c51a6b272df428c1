use Rattle.std.specs.Prelude.{ℕ, ◌<◌}
use Rattle.book_share.proofs.worker.starts.Given as goal

abbrev pub invariant-loop-attempt : goal.invariant-loop-attempt
invariant-loop-attempt g l = (k : ℕ) → k < l.attempt → g.G.Gate.refused l.gate l.ask k

abbrev pub ghosts-may_start : goal.ghosts-may_start
ghosts-may_start g a = record { number = a.attempt }
