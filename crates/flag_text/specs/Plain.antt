-- The bytes that stand for themselves in a quoted JSON text (RFC 8259, section 7).
use Rattle.std.specs.Prelude.{◌≡◌, ℕ, Bool, true, not, ◌&&◌, ◌==◌, nat_le, List, [], ◌∷◌, ◌++◌}
use Rattle.std.specs.List.{list_all}
use Rattle.std.specs.Str.{IsUtf8}

-- no control character, no quotation mark and no reverse solidus
abbrev pub is_plain : ℕ → Bool
is_plain b = nat_le 32 b && not (b == 34) && not (b == 92)

-- the bytes are these between two quotation marks
abbrev pub StandsBetween : List ℕ → List ℕ → Type 0
StandsBetween bytes s = bytes ≡ 34 ∷ (s ++ 34 ∷ [])

-- the bytes are a quoted text, each byte of which stands for itself
pub record IsQuoted (bytes : List ℕ) (s : List ℕ) : Type 0 where
  pub between : StandsBetween bytes s
  pub plain : list_all is_plain s ≡ true
  pub utf8 : IsUtf8 s
