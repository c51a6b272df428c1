-- How many members a list of them is.
use Rattle.std.proofs.Common.{◌≡◌, ℕ, suc, List, [], ◌∷◌, length, Bor, refl, ap}
use Rattle.json.specs.Value.{members_view}
use Rattle.json.specs.declared.value.Value.{Value}
use Rattle.spelled_numbers.specs.Floats.{member_count}

pub counted : {A : Type 0} → (ms : List (Bor (List ℕ) × Value A)) → member_count (members_view ms) ≡ length ms
counted [] = refl
counted (m ∷ ms) = ap suc (counted ms)
