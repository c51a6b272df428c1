-- The digits of a number, and the byte after them.
use Rattle.std.proofs.Common.{◌≡◌, ◌≢◌, ◌<◌, ◌≤◌, ◌^◌, ◌+◌, ◌⊎◌, ◌==◌, ℕ, true, false, List, [], ◌∷◌, ◌++◌, length, take, drop, get_or, nat_le, Option, Some, None, Result, Ok, Err, refl, sym, ap, ◌∙◌, subst, ⊎_elim, arith, length-append}
use Rattle.std.specs.Fmt.{decimal}
use Rattle.std.specs.Int.{IsInRange}
use Rattle.std.specs.List.{AllByRecursion, position, position_or_len}
use Rattle.std.specs.Str.Parse.{AllDigits, IsNumeral, ParsesUnsigned, digits_value, without_leading_plus}
use Rattle.std.proofs.lemmas.Bool.{cases_lt, eqb-true, eq-eqb, ne_eqb}
use Rattle.std.proofs.lemmas.Bool.Decides.{nat_tests}
use Rattle.std.proofs.lemmas.Fmt.{decimal_is_IsNumeral, decimal_digit, first_decimal, decimal-digits_value, decimal_injective, parse-decimal}
use Rattle.std.proofs.lemmas.List.{take_at, drop_at, drop_more, take-append-drop}
use Rattle.std.proofs.lemmas.List.Quantifiers.{position-Some}
use Rattle.std.proofs.lemmas.Str.Parse.{IsNumeralModel, numerals_by_value, tells_digits, digit_from_value, digit_at, without_leading_plus_none, without_leading_plus_plus}
use Rattle.note_tallies.specs.Point.{is_shortest}

-- ---- shortest spellings

own : IsNumeralModel (AllDigits 10) (digits_value 10)
own = numerals_by_value (AllDigits 10) tells_digits

pub digits_of : (n : ℕ) → n < 2 ^ 32 → AllDigits 10 (decimal n)
digits_of n small = (decimal_is_IsNumeral n (omega (arith, small))).0.1

-- a shortest spelling does not begin with a plus, nor with a zero before other digits
not_plus : (ds : List ℕ) → is_shortest ds ≡ true → IsNumeral 10 (without_leading_plus ds) → get_or ds 0 0 ≢ 43
not_plus [] short is plus = cc
not_plus (d ∷ []) short is plus =
    let none : without_leading_plus (d ∷ []) ≡ [] = without_leading_plus_plus (d ∷ []) plus in
    let some : 0 < length (without_leading_plus (d ∷ [])) = is.0 in
    omega (arith, ap length none, some)
not_plus (d ∷ e ∷ ds) short is plus =
    let low : nat_le 49 d ≡ true = grind (arith, nat_tests, short) in
    grind (arith, nat_tests, low, plus)

first_zero : (ds : List ℕ) → is_shortest ds ≡ true → get_or ds 0 0 ≡ 48 → length ds ≡ 1
first_zero [] short zero = cc
first_zero (d ∷ []) short zero = refl
first_zero (d ∷ e ∷ ds) short zero =
    let low : nat_le 49 d ≡ true = grind (arith, nat_tests, short) in
    absurd (grind (arith, nat_tests, low, zero))

-- what is parsed of a shortest spelling
pub parsed : (text ds : List ℕ) (n : ℕ) → text ≡ ds → is_shortest ds ≡ true → ParsesUnsigned {E = ℕ} 32 10 text (Ok n) → ds ≡ decimal n
parsed text ds n same short parses =
    let here : ParsesUnsigned {E = ℕ} 32 10 ds (Ok n) = subst (λ (t : List ℕ). ParsesUnsigned {E = ℕ} 32 10 t (Ok n)) same parses in
    let plain : without_leading_plus ds ≡ ds = without_leading_plus_none ds (not_plus ds short here.0.0) in
    let numeral : IsNumeral 10 ds = subst (IsNumeral 10) plain here.0.0 in
    let value : n ≡ digits_value 10 ds = here.1 ∙ ap (digits_value 10) plain in
    let small : digits_value 10 (without_leading_plus ds) < 2 ^ 32 = here.0.1 in
    let fits : digits_value 10 ds < 2 ^ 64 = omega (arith, small, ap (digits_value 10) plain) in
    sym (ap decimal value ∙ decimal-digits_value own ds numeral.1 numeral.0 (first_zero ds short) fits)

pub not_parsed : (text ds : List ℕ) (n : ℕ) → text ≡ ds → ParsesUnsigned {E = ℕ} 32 10 text (Err 0) → n < 2 ^ 32 → ds ≢ decimal n
not_parsed text ds n same parses small is =
    let failed : Result ℕ ℕ = Err 0 in
    let good : failed ≡ Ok n = parse-decimal 32 n text failed small (omega (arith, small)) (same ∙ is) parses in
    cc

pub not_shortest : (ds : List ℕ) (n : ℕ) → is_shortest ds ≡ false → n < 2 ^ 32 → ds ≢ decimal n
not_shortest ds n long small is =
    ⊎_elim
    (λ (digit : n < 10).
    let one : is_shortest ds ≡ true = ap is_shortest (is ∙ decimal_digit n digit) in
    cc)
    (λ (more : 10 ≤ n).
    let numeral = (decimal_is_IsNumeral n (omega (arith, small))).0 in
    let high : 48 < get_or (decimal n) 0 0 = first_decimal n (omega (arith, more)) (omega (arith, small)) in
    let within = digit_at (decimal n) 0 numeral.1 numeral.0 in
    let here : is_shortest (decimal n) ≡ true = first_above (decimal n) high within.1 in
    let one : is_shortest ds ≡ true = ap is_shortest is ∙ here in
    cc)
    (split n)
  where
    split : (k : ℕ) → (k < 10) ⊎ (10 ≤ k)
    split k = cases_lt k 10

    first_above : (xs : List ℕ) → 48 < get_or xs 0 0 → get_or xs 0 0 ≤ 57 → is_shortest xs ≡ true
    first_above xs low high = grind (arith, nat_tests, low, high)

-- ---- the byte after them

pub stops : (ds : List ℕ) (stop : ℕ) → AllDigits 10 ds → (stop < 48) ⊎ (57 < stop) → AllByRecursion (λ (b : ℕ). (b == stop) ≡ false) ds
stops [] stop all apart = tt
stops (d ∷ ds) stop all apart =
    let range : IsInRange 48 57 d = digit_from_value d all.0 in
    let here : (d == stop) ≡ false = ne_eqb d stop (λ e. ⊎_elim (λ (low : stop < 48). omega (arith, range.0, e, low)) (λ (high : 57 < stop). omega (arith, range.1, e, high)) apart) in
    (here, stops ds stop all.1 apart)

stop_after : (ds rest : List ℕ) (stop : ℕ) → AllByRecursion (λ (b : ℕ). (b == stop) ≡ false) ds → position_or_len (λ b. b == stop) (ds ++ stop ∷ rest) ≡ length ds
stop_after [] rest stop all =
    let here : (stop == stop) ≡ true = eq-eqb stop stop refl in
    rw here refl
stop_after (d ∷ ds) rest stop all =
    let here : (d == stop) ≡ false = all.0 in
    let later = stop_after ds rest stop all.1 in
    rw here (omega (arith, later))

pub stop_at : (ds rest : List ℕ) (stop : ℕ) → AllByRecursion (λ (b : ℕ). (b == stop) ≡ false) ds → position (λ b. b == stop) (ds ++ stop ∷ rest) ≡ Some (length ds)
stop_at ds rest stop all =
    let place = stop_after ds rest stop all in
    let size = length-append ds (stop ∷ rest) in
    grind (arith, nat_tests, place, size)

-- a number and the byte after it stand where that byte is first
pub stop_here : (bytes : List ℕ) (n stop at : ℕ) (rest : List ℕ) → (stop < 48) ⊎ (57 < stop) → n < 2 ^ 32 → bytes ≡ decimal n ++ stop ∷ rest → Some at ≡ position (λ b. b == stop) bytes → at ≡ length (decimal n)
stop_here bytes n stop at rest apart small is first =
    let place : Some at ≡ Some (length (decimal n)) = first ∙ ap (position (λ b. b == stop)) is ∙ stop_at (decimal n) rest stop (stops (decimal n) stop (digits_of n small) apart) in
    cc

pub stop_nowhere : (bytes : List ℕ) (n stop : ℕ) (rest : List ℕ) → (stop < 48) ⊎ (57 < stop) → n < 2 ^ 32 → None ≡ position (λ b. b == stop) bytes → bytes ≢ decimal n ++ stop ∷ rest
stop_nowhere bytes n stop rest apart small first is =
    let none : Option ℕ = None in
    let place : none ≡ Some (length (decimal n)) = first ∙ ap (position (λ b. b == stop)) is ∙ stop_at (decimal n) rest stop (stops (decimal n) stop (digits_of n small) apart) in
    cc

pub stop_parts : (bytes : List ℕ) (stop at : ℕ) → Some at ≡ position (λ b. b == stop) bytes → bytes ≡ take at bytes ++ stop ∷ drop (at + 1) bytes
stop_parts bytes stop at first =
    let here = position-Some (λ b. b == stop) bytes at 0 (sym first) in
    let byte : get_or bytes at 0 ≡ stop = eqb-true (get_or bytes at 0) stop here.1 in
    sym (take-append-drop at bytes) ∙ ap (λ ds. take at bytes ++ ds) (drop_more bytes at 0 here.0 ∙ ap (λ (b : ℕ). b ∷ drop (at + 1) bytes) byte)

pub stop_front : (bytes : List ℕ) (n stop at : ℕ) (rest : List ℕ) → bytes ≡ decimal n ++ stop ∷ rest → at ≡ length (decimal n) → take at bytes ≡ decimal n
stop_front bytes n stop at rest is place = ap (take at) is ∙ take_at (decimal n) (stop ∷ rest) at (sym place)

-- a number and what stands after it are told by their bytes
same_size : (m n stop : ℕ) (rest more : List ℕ) → (stop < 48) ⊎ (57 < stop) → m < 2 ^ 32 → n < 2 ^ 32 → decimal m ++ stop ∷ rest ≡ decimal n ++ stop ∷ more → length (decimal m) ≡ length (decimal n)
same_size m n stop rest more apart small fits is =
    stop_here (decimal m ++ stop ∷ rest) n stop (length (decimal m)) more apart fits is (sym (stop_at (decimal m) rest stop (stops (decimal m) stop (digits_of m small) apart)))

pub same_rest : (m n stop : ℕ) (rest more : List ℕ) → (stop < 48) ⊎ (57 < stop) → m < 2 ^ 32 → n < 2 ^ 32 → decimal m ++ stop ∷ rest ≡ decimal n ++ stop ∷ more → rest ≡ more
same_rest m n stop rest more apart small fits is =
    let size = same_size m n stop rest more apart small fits is in
    let ends : stop ∷ rest ≡ stop ∷ more = sym (drop_at (decimal m) (stop ∷ rest) (length (decimal m)) refl) ∙ ap (drop (length (decimal m))) is ∙ drop_at (decimal n) (stop ∷ more) (length (decimal m)) (sym size) in
    cc

pub same_number : (m n stop : ℕ) (rest more : List ℕ) → (stop < 48) ⊎ (57 < stop) → m < 2 ^ 32 → n < 2 ^ 32 → decimal m ++ stop ∷ rest ≡ decimal n ++ stop ∷ more → m ≡ n
same_number m n stop rest more apart small fits is =
    let size = same_size m n stop rest more apart small fits is in
    let fronts : decimal m ≡ decimal n = sym (take_at (decimal m) (stop ∷ rest) (length (decimal m)) refl) ∙ ap (take (length (decimal m))) is ∙ take_at (decimal n) (stop ∷ more) (length (decimal m)) (sym size) in
    decimal_injective m n (omega (arith, small)) (omega (arith, fits)) fronts
