use Rattle.std.proofs.Common.{◌≡◌, ◌+◌, ◌≤◌, ℕ, length, get_or, drop}
use Rattle.page_tally.specs.Points.{with_points}
use Rattle.page_tally.proofs.counter.add_points.Given as goal

abbrev pub invariant-loop-point : goal.invariant-loop-point
invariant-loop-point l = record {
  left : with_points l.counts.items (drop l.point-index l.points) ≡ with_points l.fn.counts.items l.points;
  whole : length l.counts.items ≡ length l.fn.counts.items;
  small : (p : ℕ) → get_or l.counts.items p 0 ≤ get_or l.fn.counts.items p 0 + l.point-index;
}
