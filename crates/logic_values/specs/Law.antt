-- What the numbers are: rationals, in the order of rationals.
use Rattle.std.specs.Prelude.{◌≡◌, ℕ, ◌*◌, ◌^◌, Bool, Ok}
use Rattle.std.specs.Ordering.{int_cmp}
use Rattle.std.specs.declared.cmp.Ordering.{Ordering}
use Rattle.fast_float.specs.Text.{Parts, digits_of, tens_down, tens_up, with_sign}
use Rattle.logic_values.specs.Decimal.{Number, numeral_number, units}

-- a fraction of natural numbers, the lower one not 0, with its sign
pub record Fraction : Type 0 where
  pub negative : Bool
  pub upper : ℕ
  pub lower : ℕ

-- the order of two fractions: that of the upper numbers, each multiplied by the lower one of the other
abbrev pub fraction_cmp : Fraction → Fraction → Ordering
fraction_cmp a b = int_cmp (with_sign a.negative (a.upper * b.lower)) (with_sign b.negative (b.upper * a.lower))

-- a numeral, with this sign: its digits, by a power of ten for its exponent, and one for its point
abbrev pub fraction_of : Bool → Parts → Fraction
fraction_of negative p = record { negative = negative; upper = digits_of p * 10 ^ tens_up p; lower = 10 ^ tens_down p }

-- Numbers are in the order of the fractions that their numerals spell.
abbrev pub OrderOfRationals : Type 0
OrderOfRationals =
    (s t : Bool) (p q : Parts) (a b : Number) → numeral_number s p ≡ Ok a → numeral_number t q ≡ Ok b
    → int_cmp (units a) (units b) ≡ fraction_cmp (fraction_of s p) (fraction_of t q)
