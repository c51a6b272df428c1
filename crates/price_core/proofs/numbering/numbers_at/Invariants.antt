use Rattle.std.proofs.Common.{◌≡◌, ℕ, map, slice_index, take}
use Rattle.price_core.proofs.numbering.numbers_at.Given as goal

abbrev pub invariant-loop-place : goal.invariant-loop-place
invariant-loop-place l = l.found.items ≡ map (λ (e : ℕ × ℕ). slice_index l.numbers e.0) (take l.place-index l.entries)
