-- Names that are easily taken for one another: one edit apart (F. J. Damerau, 1964: a letter missing, one too many, another one, or two neighbours exchanged),
-- or one the beginning of the other. Letters of ASCII count as the same in upper and lower case.
use Rattle.std.specs.Prelude.{ℕ, nat_le, Bool, false, ◌&&◌, ◌||◌, List, [], ◌∷◌, length, take, if◌then◌else◌}
use Rattle.std.specs.Str.{str_eq_ignore_ascii_case}
use Rattle.std.specs.Char.{eq_ignore_ascii_case}

-- the same letters
abbrev pub is_same : List ℕ → List ℕ → Bool
is_same xs ys = str_eq_ignore_ascii_case xs ys

-- the first two letters are exchanged
abbrev pub are_exchanged : List ℕ → List ℕ → Bool
are_exchanged (x ∷ y ∷ xs) (v ∷ w ∷ vs) = eq_ignore_ascii_case x w && (eq_ignore_ascii_case y v && is_same xs vs)
are_exchanged xs vs = false

-- the first letter is one too many, missing, or another one, or exchanged with the next
abbrev pub is_one_edit : List ℕ → List ℕ → Bool
is_one_edit (x ∷ xs) (y ∷ ys) = is_same xs (y ∷ ys) || (is_same (x ∷ xs) ys || (is_same xs ys || are_exchanged (x ∷ xs) (y ∷ ys)))
is_one_edit xs ys = false

-- the names are the same but for one edit
abbrev pub is_slip : List ℕ → List ℕ → Bool
is_slip [] ys = nat_le (length ys) 1
is_slip (x ∷ xs) [] = nat_le (length (x ∷ xs)) 1
is_slip (x ∷ xs) (y ∷ ys) = if eq_ignore_ascii_case x y then is_slip xs ys else is_one_edit (x ∷ xs) (y ∷ ys)

-- a name of three letters or more begins the other
abbrev pub begins : List ℕ → List ℕ → Bool
begins front whole = nat_le 3 (length front) && (nat_le (length front) (length whole) && is_same front (take (length front) whole))

-- one may be meant by the other
unfoldable pub is_near : List ℕ → List ℕ → Bool
is_near name known = begins name known || (begins known name || is_slip name known)
