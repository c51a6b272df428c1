-- What is kept of digits.
use Rattle.std.proofs.Common.{◌≡◌, ℕ, Bool, true, false, List, [], ◌∷◌, ◌++◌, refl, ap, sym, ◌∙◌, inl, inr}
use Rattle.std.proofs.lemmas.Bool.{cases_Bool}
use Rattle.std.specs.Prelude.{◌==◌, ◌&&◌, if◌then◌else◌}
use Rattle.std.specs.Char.{is_ascii_digit}
use Rattle.std.specs.List.{list_all}
use Rattle.std.specs.Str.Parse.{AllDigits}
use Rattle.logic_values.specs.Decimal.{IsNormal, led_by, significant, without_leading_zeros, without_trailing_zeros}
use Rattle.logic_values.proofs.Values.{tested_digits}
use Rattle.logic_values.proofs.Zeros.{left, rest_kept, right}

both : (a b : Bool) → a ≡ true → b ≡ true → (a && b) ≡ true
both a b e f = rw e f

all_joined : (p : ℕ → Bool) (ds es : List ℕ) → list_all p ds ≡ true → list_all p es ≡ true → list_all p (ds ++ es) ≡ true
all_joined p [] es h k = k
all_joined p (d ∷ ds) es h k = both (p d) (list_all p (ds ++ es)) (left (p d) (list_all p ds) h) (all_joined p ds es (right (p d) (list_all p ds) h) k)

all_led : (p : ℕ → Bool) (d : ℕ) (ws : List ℕ) → p d ≡ true → list_all p ws ≡ true → list_all p (led_by d ws) ≡ true
all_led p d [] h k = elim (cases_Bool (d == 48)) [ inl t ↦ rw t refl | inr f ↦ rw f (both (p d) true h refl) ]
all_led p d (w ∷ ws) h k = both (p d) (list_all p (w ∷ ws)) h k

all_before : (p : ℕ → Bool) (ds : List ℕ) → list_all p ds ≡ true → list_all p (without_trailing_zeros ds) ≡ true
all_before p [] h = h
all_before p (d ∷ ds) h = all_led p d (without_trailing_zeros ds) (left (p d) (list_all p ds) h) (all_before p ds (right (p d) (list_all p ds) h))

all_behind : (p : ℕ → Bool) (ds : List ℕ) → list_all p ds ≡ true → list_all p (without_leading_zeros ds) ≡ true
all_behind p [] h = h
all_behind p (d ∷ ds) h = elim (cases_Bool (d == 48)) [ inl t ↦ rw t (all_behind p ds (right (p d) (list_all p ds) h)) | inr f ↦ rw f h ]

leading_once : (ds : List ℕ) → without_leading_zeros (without_leading_zeros ds) ≡ without_leading_zeros ds
leading_once [] = refl
leading_once (d ∷ ds) = elim (cases_Bool (d == 48)) [ inl t ↦ rw t (leading_once ds) | inr f ↦ rw f (rw f refl) ]

led_once : (d : ℕ) (ws : List ℕ) → without_trailing_zeros ws ≡ ws → without_trailing_zeros (led_by d ws) ≡ led_by d ws
led_once d [] h = elim (cases_Bool (d == 48)) [ inl t ↦ rw t refl | inr f ↦ rw f (rw f refl) ]
led_once d (w ∷ ws) h = ap (led_by d) h

trailing_once : (ds : List ℕ) → without_trailing_zeros (without_trailing_zeros ds) ≡ without_trailing_zeros ds
trailing_once [] = refl
trailing_once (d ∷ ds) = led_once d (without_trailing_zeros ds) (trailing_once ds)

trailing_kept : (ds : List ℕ) → without_trailing_zeros ds ≡ ds → without_trailing_zeros (without_leading_zeros ds) ≡ without_leading_zeros ds
trailing_kept [] h = refl
trailing_kept (d ∷ ds) h = elim (cases_Bool (d == 48)) [ inl t ↦ rw t (trailing_kept ds (rest_kept d ds h)) | inr f ↦ rw f h ]

-- the significant digits are a number's
pub is_normal : (negative : Bool) (whole fraction ds : List ℕ) (n : ℕ) → AllDigits 10 whole → AllDigits 10 fraction → ds ≡ significant (whole ++ fraction) → (ds ≡ [] → ⊥)
    → IsNormal negative ds n
is_normal negative whole fraction ds n w f is some =
    let all = all_joined is_ascii_digit whole fraction (tested_digits whole w) (tested_digits fraction f) in
    record {
      are_digits = ap (list_all is_ascii_digit) is ∙ all_behind is_ascii_digit (without_trailing_zeros (whole ++ fraction)) (all_before is_ascii_digit (whole ++ fraction) all);
      first = ap without_leading_zeros is ∙ leading_once (without_trailing_zeros (whole ++ fraction)) ∙ sym is;
      last = ap without_trailing_zeros is ∙ trailing_kept (without_trailing_zeros (whole ++ fraction)) (trailing_once (whole ++ fraction)) ∙ sym is;
      zero = λ e. absurd (some e);
    }
