-- Names of media types and schemes.
use Rattle.std.proofs.Common.{◌≡◌, ◌↔◌, ℕ, Bool, List, map}
use Rattle.std.proofs.lemmas.Bool.Decides.{same_from_decides}
use Rattle.std.proofs.lemmas.Slice.Eq.{bytes_eq-Decides}
use Rattle.std.specs.Char.{to_ascii_lowercase}
use Rattle.std.specs.Prelude.{IsTrue}
use Rattle.std.specs.Str.{bytes_eq}

-- what a comparison without regard to the case of letters answers of a name
pub same_name : (r : Bool) (name wanted : List ℕ) → (IsTrue r ↔ (map to_ascii_lowercase name ≡ map to_ascii_lowercase wanted)) → r ≡ bytes_eq (map to_ascii_lowercase name) (map to_ascii_lowercase wanted)
same_name r name wanted test =
    same_from_decides r (bytes_eq (map to_ascii_lowercase name) (map to_ascii_lowercase wanted)) test (bytes_eq-Decides (map to_ascii_lowercase name) (map to_ascii_lowercase wanted))
