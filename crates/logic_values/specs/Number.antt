-- The number of a value, where it has one.
use Rattle.std.specs.Prelude.{ℕ, ◌+◌, ◌*◌, ◌-◌, ◌==◌, nat_lt, ℤ, pos, neg_ℤ, Bool, true, false, List, [], ◌∷◌, if◌then◌else◌, Option, Some, None, option_map, option_and_then}
use Rattle.std.specs.Char.{is_ascii_digit}
use Rattle.flag_text.specs.Shape.{Shape, whole, text, is_in_range}

-- the number where it is from -(2^53-1) to 2^53-1
abbrev pub in_range : ℤ → Option ℤ
in_range n = if is_in_range n then Some n else None

-- the value of decimal digits that follow digits of this value
abbrev pub digits_after : ℕ → List ℕ → Option ℕ
digits_after n [] = Some n
digits_after n (b ∷ bs) = if is_ascii_digit b then digits_after (n * 10 + (b - 48)) bs else None

-- one or more decimal digits
abbrev pub digits_value : List ℕ → Option ℕ
digits_value [] = None
digits_value (b ∷ bs) = digits_after 0 (b ∷ bs)

abbrev pub signed_value : List ℕ → Option ℤ
signed_value [] = None
signed_value (b ∷ bs) = if b == 45 then option_map (λ n. neg_ℤ (pos n)) (digits_value bs) else option_map pos (digits_value (b ∷ bs))

-- the number that a decimal text spells: an optional `-`, then one or more digits, whole and in range
abbrev pub decimal_value : List ℕ → Option ℤ
decimal_value s = option_and_then in_range (signed_value s)

-- of a whole number that number, of a text the number that it spells in decimal
abbrev pub number_of : Shape → Option ℤ
number_of (whole n) = Some n
number_of (text s) = decimal_value s
number_of t = None

-- a boolean counts as 0 or 1
abbrev pub truth_number : Bool → ℤ
truth_number false = pos 0
truth_number true = pos 1

-- a number where it is below a limit
abbrev pub below : ℕ → ℕ → Option ℕ
below limit n = if nat_lt n limit then Some n else None
