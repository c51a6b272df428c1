-- Numbers as fractions.
use Rattle.std.proofs.Common.{◌≡◌, ◌≤◌, ◌<◌, ℕ, zero, suc, ◌+◌, ◌*◌, ◌-◌, ◌^◌, Bool, true, false, List, [], ◌∷◌, ◌++◌, length, refl, ap, ap₂, subst, sym, ◌∙◌, arith, inl, inr, Option, Some, None, Result, Ok, Err, mul_assoc, pow-add, int_cmp}
use Rattle.std.proofs.lemmas.Bool.{cases_Bool}
use Rattle.std.proofs.Math.Nat.{mul_comm, mul_right_comm}
use Rattle.std.specs.Prelude.{◌&&◌, nat_le, if◌then◌else◌}
use Rattle.std.specs.Str.Parse.{digits_value}
use Rattle.fast_float.specs.Text.{Parts, digits_of, tens_down, tens_up, with_sign}
use Rattle.logic_values.specs.Decimal.{Number, all_digits, most_digits, most_exponent, number_of, numeral_number, significant, spelled, trailing_zeros, units, zero_number, zeros_of}
use Rattle.logic_values.specs.Law.{Fraction, fraction_cmp, fraction_of}
use Rattle.logic_values.specs.declared.decimal_fault.DecimalFault.{DecimalFault}
use Rattle.logic_values.proofs.Signs.{signed_scaled}
use Rattle.logic_values.proofs.Values.{significant_value, ten_pos}
use Rattle.logic_values.proofs.Zeros.{not_both}

-- the number in an answer
abbrev number_in : Result Number DecimalFault → Number → Number
number_in (Ok a) b = a
number_in (Err e) b = b

abbrev is_some : Result Number DecimalFault → Bool
is_some (Ok a) = true
is_some (Err e) = false

none_given : {X : Type 0} (e : DecimalFault) (a : Number) → Err e ≡ Ok a → X
none_given e a h = absurd (not_both (ap is_some h))

-- so many units, with this sign, are the digits by these powers of ten
IsUnits : Bool → ℕ → ℕ → ℕ → Number → Type 0
IsUnits s digits up down a = (m : ℕ) × (units a ≡ with_sign s m) × (m * 10 ^ down ≡ digits * 10 ^ up * 10 ^ 400)

no_units : (s : Bool) → units zero_number ≡ with_sign s 0
no_units false = refl
no_units true = refl

zero_is : (s : Bool) (ds : List ℕ) (up down : ℕ) (a : Number) (r : Result Number DecimalFault) → digits_value 10 ds ≡ 0 → r ≡ Ok zero_number → r ≡ Ok a → IsUnits s (digits_value 10 ds) up down a
unfolding IsUnits
zero_is s ds up down a r v z h =
    let n = ap (λ i. i * 10 ^ up * 10 ^ 400) v in
    (0, ap units (sym (ap (λ x. number_in x a) (sym z ∙ h))) ∙ no_units s, omega (arith, n))

-- the units by the power of the point are the digits by that of the exponent
scaled_alike : (v t up down : ℕ) → down ≤ 400 + (t + up) → v * 10 ^ ((400 + (t + up)) - down) * 10 ^ down ≡ (v * 10 ^ t) * 10 ^ up * 10 ^ 400
scaled_alike v t up down h =
    let e : ((400 + (t + up)) - down) + down ≡ (t + up) + 400 = omega (arith, h) in
    let one = mul_assoc v (10 ^ ((400 + (t + up)) - down)) (10 ^ down) in
    let two = ap (λ i. v * i) (sym (pow-add 10 ((400 + (t + up)) - down) down) ∙ ap (λ i. 10 ^ i) e ∙ pow-add 10 (t + up) 400 ∙ ap (λ i. i * 10 ^ 400) (pow-add 10 t up)) in
    let three = sym (mul_assoc v (10 ^ t * 10 ^ up) (10 ^ 400)) in
    let four = ap (λ i. i * 10 ^ 400) (sym (mul_assoc v (10 ^ t) (10 ^ up))) in
    one ∙ two ∙ three ∙ four

some_is : (s : Bool) (ds : List ℕ) (n t up down : ℕ) (a : Number) → n ≡ digits_value 10 ds * 10 ^ t → down ≤ 400 + (t + up)
    → spelled s ds (Some ((400 + (t + up)) - down)) ≡ Ok a → IsUnits s n up down a
unfolding IsUnits
some_is s ds n t up down a v h e = elim (cases_Bool (nat_le (length ds) most_digits)) [
  | inl k ↦
      let is = ap (λ r. number_in r a) (rw k at e) in
      (digits_value 10 ds * 10 ^ ((400 + (t + up)) - down), ap units (sym is), scaled_alike (digits_value 10 ds) t up down h ∙ ap (λ i. i * 10 ^ up * 10 ^ 400) (sym v))
  | inr k ↦ none_given _ a (rw k at e)
]

within_is : (s : Bool) (ds : List ℕ) (n t up down : ℕ) (a : Number) → n ≡ digits_value 10 ds * 10 ^ t
    → spelled s ds (zeros_of (t + up) down) ≡ Ok a → IsUnits s n up down a
within_is s ds n t up down a v e = elim (cases_Bool (nat_le down (most_exponent + (t + up)))) [
  | inl k ↦ elim (cases_Bool (nat_le (t + up) (most_exponent + down))) [
    | inl l ↦ some_is s ds n t up down a v (grind (arith, k)) (rw (k, l) at e)
    | inr l ↦ none_given _ a (rw (k, l) at e)
  ]
  | inr k ↦ none_given _ a (rw k at e)
]

digits_are : (s : Bool) (ds : List ℕ) (n t up down : ℕ) (a : Number) → n ≡ digits_value 10 ds * 10 ^ t
    → number_of s ds (t + up) down ≡ Ok a → IsUnits s n up down a
digits_are s [] n t up down a v e = let z : n ≡ 0 = omega (arith, v) in subst (λ i. IsUnits s i up down a) (sym z) (zero_is s [] up down a (number_of s [] (t + up) down) refl refl e)
digits_are s (d ∷ ds) n t up down a v e = within_is s (d ∷ ds) n t up down a v e

-- the number of a numeral is worth what the numeral is
units_are : (s : Bool) (p : Parts) (a : Number) → numeral_number s p ≡ Ok a → IsUnits s (digits_of p) (tens_up p) (tens_down p) a
units_are s p a e = digits_are s (significant (all_digits p)) (digits_of p) (trailing_zeros (all_digits p)) (tens_up p) (tens_down p) a (significant_value (all_digits p)) e

-- m·d·k and x·t·k in another order
crossed : (m d k x t : ℕ) → m * d ≡ x * t → m * (d * k) ≡ x * k * t
crossed m d k x t e = sym (mul_assoc m d k) ∙ ap (λ i. i * k) e ∙ mul_right_comm x t k

pub order_of_rationals : (s t : Bool) (p q : Parts) (a b : Number) → numeral_number s p ≡ Ok a → numeral_number t q ≡ Ok b
    → int_cmp (units a) (units b) ≡ fraction_cmp (fraction_of s p) (fraction_of t q)
unfolding IsUnits
order_of_rationals s t p q a b e f =
    let u = units_are s p a e in
    let w = units_are t q b f in
    let both = ap₂ int_cmp u.1 w.1 in
    let up = sym (signed_scaled s t u.0 w.0 (10 ^ tens_down p * 10 ^ tens_down q) (omega (arith, ten_pos (tens_down p + tens_down q), pow-add 10 (tens_down p) (tens_down q)))) in
    let left = ap (with_sign s) (crossed u.0 (10 ^ tens_down p) (10 ^ tens_down q) (digits_of p * 10 ^ tens_up p) (10 ^ 400) u.2) in
    let right = ap (with_sign t) (ap (λ n. w.0 * n) (mul_comm (10 ^ tens_down p) (10 ^ tens_down q)) ∙ crossed w.0 (10 ^ tens_down q) (10 ^ tens_down p) (digits_of q * 10 ^ tens_up q) (10 ^ 400) w.2) in
    let down = signed_scaled s t (digits_of p * 10 ^ tens_up p * 10 ^ tens_down q) (digits_of q * 10 ^ tens_up q * 10 ^ tens_down p) (10 ^ 400) (ten_pos 400) in
    both ∙ up ∙ ap₂ int_cmp left right ∙ down
