use Rattle.std.proofs.Common.{◌≡◌, ◌*◌, ◌^◌, drop, pos, neg_ℤ, ◌+ℤ◌, ◌-ℤ◌, ◌≤ℤ◌}
use Rattle.transport_core.specs.Certificate.{alpha_view, group_sum}
use Rattle.transport_core.specs.Groups.{rows_view}
use Rattle.transport_core.specs.Rows.{whole_amount}
use Rattle.transport_core.proofs.duals.sum_of_points.Given as goal

-- what is summed, with the rest, is the whole
abbrev pub invariant-loop-i : goal.invariant-loop-i
invariant-loop-i l = record {
  whole : (l.sum +ℤ group_sum (rows_view (drop l.i l.groups)) (alpha_view (drop l.i l.alpha))) ≡ group_sum (rows_view l.groups) (alpha_view l.alpha);
  low : neg_ℤ (pos (whole_amount l.groups * 2 ^ 63)) ≤ℤ (l.sum -ℤ pos (whole_amount (drop l.i l.groups) * 2 ^ 63));
  high : (l.sum +ℤ pos (whole_amount (drop l.i l.groups) * 2 ^ 63)) ≤ℤ pos (whole_amount l.groups * 2 ^ 63);
}
