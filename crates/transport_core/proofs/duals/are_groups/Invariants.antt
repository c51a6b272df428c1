use Rattle.std.proofs.Common.{◌≡◌, drop, length}
use Rattle.std.specs.Cmp.Lexicographic.{pointwise}
use Rattle.std.specs.Map.{keys_of}
use Rattle.transport_core.specs.Certificate.{alpha_view}
use Rattle.transport_core.specs.Groups.{is_same_group, rows_view}
use Rattle.transport_core.proofs.duals.are_groups.Given as goal

-- the rest answers as the whole
abbrev pub invariant-loop-i : goal.invariant-loop-i
invariant-loop-i l = record {
  same : length l.alpha ≡ length l.groups;
  rest : pointwise is_same_group (keys_of (alpha_view (drop l.i l.alpha))) (keys_of (rows_view (drop l.i l.groups))) ≡ pointwise is_same_group (keys_of (alpha_view l.alpha)) (keys_of (rows_view l.groups));
}
