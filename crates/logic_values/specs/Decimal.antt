-- Decimal numbers, exactly: as JSON spells numbers (RFC 8259, section 6), and as texts of digits and a point spell them.
use Rattle.std.specs.Prelude.{◌≡◌, ℕ, ◌+◌, ◌-◌, ◌*◌, ◌^◌, ◌==◌, ℤ, Bool, false, true, not, ◌&&◌, ◌||◌, nat_lt, nat_le, List, [], ◌∷◌, ◌++◌, length, if◌then◌else◌, Option, Some, None, Result, Ok, Err}
use Rattle.std.specs.Char.{is_ascii_digit}
use Rattle.std.specs.List.{list_all}
use Rattle.std.specs.Str.Parse.{digits_value}
use Rattle.fast_float.specs.Text.{Parts, scan, tens_up, tens_down, with_sign}
use Rattle.logic_values.specs.declared.decimal_fault.DecimalFault.{DecimalFault}
use Rattle.logic_values.specs.declared.decimal_fault.DecimalFault.TheVariants.{NotDecimal, OutOfRange}

-- ---- the digits that count

abbrev pub without_leading_zeros : List ℕ → List ℕ
without_leading_zeros [] = []
without_leading_zeros (d ∷ ds) = if d == 48 then without_leading_zeros ds else d ∷ ds

-- a digit before these, none where it is a zero and nothing follows
abbrev pub led_by : ℕ → List ℕ → List ℕ
led_by d [] = if d == 48 then [] else d ∷ []
led_by d (e ∷ es) = d ∷ e ∷ es

abbrev pub without_trailing_zeros : List ℕ → List ℕ
without_trailing_zeros [] = []
without_trailing_zeros (d ∷ ds) = led_by d (without_trailing_zeros ds)

-- the digits from the first to the last that is no zero
abbrev pub significant : List ℕ → List ℕ
significant ds = without_leading_zeros (without_trailing_zeros ds)

-- how many zeros stand behind the last of them
abbrev pub trailing_zeros : List ℕ → ℕ
trailing_zeros ds = length ds - length (without_trailing_zeros ds)

-- ---- a number

-- A number: its significant digits and so many zeros spell how often 10^-400 it is.
pub record Number : Type 0 where
  pub negative : Bool
  pub digits : List ℕ
  pub zeros : ℕ

-- The digits begin and end with no zero, and zero is spelled in one way.
pub record IsNormal (negative : Bool) (digits : List ℕ) (zeros : ℕ) : Type 0 where
  pub are_digits : list_all is_ascii_digit digits ≡ true
  pub first : without_leading_zeros digits ≡ digits
  pub last : without_trailing_zeros digits ≡ digits
  pub zero : digits ≡ [] → (negative ≡ false) × (zeros ≡ 0)

-- how often 10^-400 the number is
abbrev pub units : Number → ℤ
units n = with_sign n.negative (digits_value 10 n.digits * 10 ^ n.zeros)

abbrev pub zero_number : Number
zero_number = record { negative = false; digits = []; zeros = 0 }

abbrev pub most_digits : ℕ
most_digits = 40

-- the exponents of 10 that the last significant digit may have are from minus this to this
abbrev pub most_exponent : ℕ
most_exponent = 400

-- the exponent `up - down` is from minus that to that
abbrev pub is_within : ℕ → ℕ → Bool
is_within up down = nat_le down (most_exponent + up) && nat_le up (most_exponent + down)

-- the zeros behind a digit with this exponent
abbrev pub zeros_of : ℕ → ℕ → Option ℕ
zeros_of up down = if is_within up down then Some ((most_exponent + up) - down) else None

abbrev pub spelled : Bool → List ℕ → Option ℕ → Result Number DecimalFault
spelled negative ds None = Err OutOfRange
spelled negative ds (Some zeros) = if nat_le (length ds) most_digits then Ok (record { negative = negative; digits = ds; zeros = zeros }) else Err OutOfRange

-- the number of these significant digits, the last of which has the exponent `up - down`
abbrev pub number_of : Bool → List ℕ → ℕ → ℕ → Result Number DecimalFault
number_of negative [] up down = Ok zero_number
number_of negative (d ∷ ds) up down = spelled negative (d ∷ ds) (zeros_of up down)

-- ---- its spelling

abbrev pub all_digits : Parts → List ℕ
all_digits p = p.whole ++ p.fraction

-- the number of a numeral, with this sign
abbrev pub numeral_number : Bool → Parts → Result Number DecimalFault
numeral_number negative p = number_of negative (significant (all_digits p)) (trailing_zeros (all_digits p) + tens_up p) (tens_down p)

-- so many bytes are digits, perhaps with a point and digits behind it, perhaps with an exponent
abbrev pub is_numeral : Parts → ℕ → Bool
is_numeral p n = (p.len == n) && (nat_lt 0 (length p.whole) && (not p.point || nat_lt 0 (length p.fraction)))

abbrev pub read_numeral : Bool → List ℕ → Result Number DecimalFault
read_numeral negative bytes = let p = scan bytes in if is_numeral p (length bytes) then numeral_number negative p else Err NotDecimal

-- a number of JSON, in which zeros may lead: `-52.10e-3`
abbrev pub read : List ℕ → Result Number DecimalFault
read [] = read_numeral false []
read (b ∷ bs) = if b == 45 then read_numeral true bs else read_numeral false (b ∷ bs)

-- no `e` or `E`
abbrev pub is_no_mark : ℕ → Bool
is_no_mark b = not ((b == 101) || (b == 69))

-- the same without an exponent: `-52.10`
abbrev pub read_text : List ℕ → Result Number DecimalFault
read_text bytes = if list_all is_no_mark bytes then read bytes else Err NotDecimal
