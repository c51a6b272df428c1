-- Letters that are the same, as a test.
use Rattle.std.proofs.Common.{◌≡◌, ◌↔◌, ℕ, Bool, List, IsTrue, map}
use Rattle.std.proofs.lemmas.Bool.Decides.{same_from_decides}
use Rattle.std.proofs.lemmas.Slice.Eq.{bytes_eq-Decides}
use Rattle.std.specs.Char.{to_ascii_lowercase}
use Rattle.near_names.specs.Near.{is_same}

pub decided : (b : Bool) (xs ys : List ℕ) → (IsTrue b ↔ (map to_ascii_lowercase xs ≡ map to_ascii_lowercase ys)) → b ≡ is_same xs ys
decided b xs ys h = same_from_decides b (is_same xs ys) (h.0, h.1) (bytes_eq-Decides (map to_ascii_lowercase xs) (map to_ascii_lowercase ys))
