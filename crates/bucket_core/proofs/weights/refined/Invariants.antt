use Rattle.std.proofs.Common.{◌≡◌, ◌*◌, map, take}
use Rattle.bucket_core.proofs.weights.refined.Given as goal

abbrev pub invariant-loop-place : goal.invariant-loop-place
invariant-loop-place l = l.refined.items ≡ map (λ e. (e.0, e.1 * l.m)) (take l.place-index l.entries)
