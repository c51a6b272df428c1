-- Decimal digits, one by one.
use Rattle.std.proofs.Common.{◌≡◌, ℕ, ◌+◌, ◌*◌, ◌-◌, ◌<◌, ◌≤◌, suc, get_or, drop, drop-cons, true, List, [], ◌∷◌, length, None, option_and_then, refl, arith, inl, inr}
use Rattle.std.specs.Char.{is_ascii_digit}
use Rattle.std.proofs.lemmas.Bool.{cases_Bool, cases_lt}
use Rattle.std.specs.Prelude.{nat_lt}
use Rattle.logic_values.specs.Number.{digits_after, digits_value, below}

-- a number from the limit on stays there, whatever digits follow
pub digits_after_large : (limit : ℕ) (bs : List ℕ) (n : ℕ) → limit ≤ n → option_and_then (below limit) (digits_after n bs) ≡ None
digits_after_large limit [] n h = grind arith
digits_after_large limit (b ∷ bs) n h = elim (cases_Bool (is_ascii_digit b)) [
  | inl e ↦ let k : limit ≤ n * 10 + (b - 48) = omega arith in rw e (digits_after_large limit bs (n * 10 + (b - 48)) k)
  | inr e ↦ rw e refl
]

pub digits_value_some : (ds : List ℕ) → 0 < length ds → digits_value ds ≡ digits_after 0 ds
digits_value_some [] h = absurd (omega arith)
digits_value_some (b ∷ bs) h = refl

below_none : (limit n : ℕ) → below limit n ≡ None → limit ≤ n
below_none limit n e = elim (cases_lt n limit) [
  | inl a ↦ let k : nat_lt n limit ≡ true = grind arith in cc (rw k at e)
  | inr b ↦ b
]

pub digits_after_passed : (limit : ℕ) (ds : List ℕ) (n i : ℕ) → i < length ds → is_ascii_digit (get_or ds i 0) ≡ true → below limit (n * 10 + (get_or ds i 0 - 48)) ≡ None
    → option_and_then (below limit) (digits_after n (drop i ds)) ≡ None
digits_after_passed limit ds n i h e k = rw (drop-cons ds i 0, e) (digits_after_large limit (drop (suc i) ds) _ (below_none limit _ k))
