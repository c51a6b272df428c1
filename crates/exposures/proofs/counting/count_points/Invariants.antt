use Rattle.std.proofs.Common.{◌≡◌, ℕ, ◌<◌, ◌==◌, count_by, get_or, take, string_bytes, vec_len}
use Rattle.bucket_core.specs.Point.{point_of}
use Rattle.exposures.proofs.counting.count_points.Given as goal

abbrev pub invariant-loop-input : goal.invariant-loop-input
invariant-loop-input l = record {
  whole : vec_len l.counts ≡ l.total;
  each : (p : ℕ) → p < l.total → get_or l.counts.items p 0 ≡ count_by (λ input. point_of l.total (string_bytes input) == p) (take l.input-index l.inputs);
}
