use Rattle.std.proofs.Common.{◌≡◌, ◌++◌, drop, string_bytes}
use Rattle.note_tallies.specs.File.{points_text}
use Rattle.note_tallies.proofs.counts.push_points.Given as goal

abbrev pub invariant-loop-point : goal.invariant-loop-point
invariant-loop-point l = string_bytes l.text ++ points_text l.point (drop l.point l.counts) ≡ string_bytes l.fn.text ++ points_text 0 l.counts
