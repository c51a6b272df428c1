-- What `{:08x}` writes of 32 bits is their eight hexadecimal digits.
use Rattle.std.proofs.Common.{◌≡◌, lit<, ◌∙◌, ◌+◌, ◌-◌, ◌/◌, ◌%◌, ◌^◌, ◌<◌, ◌==◌, ℕ, Bool, true, false, zero, suc, List, [], ◌∷◌, ◌++◌, length, replicate, refl, sym, ap, arith, append_assoc, append-nil, codes, eq-eqb}
use Rattle.std.proofs.lemmas.Bool.{eqb-true}
use Rattle.std.specs.Fmt.{char_count, digit_glyph, digits, digits_onto, format_spec, padded_integral}
use Rattle.flagops_commands.specs.Bucket.{eight_hex_digits, hex_digits}

zero_later : (k : ℕ) (acc : List ℕ) → replicate k 48 ++ (48 ∷ acc) ≡ 48 ∷ (replicate k 48 ++ acc)
zero_later zero acc = refl
zero_later (suc k) acc = ap (λ xs. 48 ∷ xs) (zero_later k acc)

zeros : (k : ℕ) (acc : List ℕ) → hex_digits k 0 ++ acc ≡ replicate k 48 ++ acc
unfolding hex_digits
zeros zero acc = refl
zeros (suc k) acc = append_assoc (hex_digits k 0) (48 ∷ []) acc ∙ zeros k (48 ∷ acc) ∙ zero_later k acc

-- the digits are those of the number behind zeros
abbrev IsPadded : ℕ → ℕ → ℕ → List ℕ → Type 0
IsPadded j k n acc = (m : ℕ) × (hex_digits (suc j) n ++ acc ≡ replicate m 48 ++ digits_onto k 16 false n acc) × (m + length (digits_onto k 16 false n acc) ≡ suc j + length acc)

-- the number has at most suc j digits
abbrev IsShort : ℕ → ℕ → Type 0
IsShort zero n = n < 16
IsShort (suc j) n = IsShort j (n / 16)

abbrev glyph : ℕ → ℕ
glyph n = digit_glyph false (n % 16)

last_digit : (j k n : ℕ) (acc : List ℕ) → (n / 16 == 0) ≡ true → IsPadded j (suc k) n acc
unfolding hex_digits
last_digit j k n acc e =
    let none : n / 16 ≡ 0 = eqb-true _ _ e in
    let first = append_assoc (hex_digits j (n / 16)) (glyph n ∷ []) acc in
    (j, rw e (first ∙ ap (λ q. hex_digits j q ++ (glyph n ∷ acc)) none ∙ zeros j (glyph n ∷ acc)), rw e (omega arith))

padded_digits : (j k n : ℕ) (acc : List ℕ) → IsShort j n → j < k → IsPadded j k n acc
unfolding hex_digits
padded_digits j zero n acc small more = absurd (omega arith)
padded_digits zero (suc k) n acc small more =
    let none : n / 16 ≡ 0 = omega arith in last_digit zero k n acc (eq-eqb _ _ none)
padded_digits (suc j) (suc k) n acc small more = go (n / 16 == 0) refl (padded_digits j k (n / 16) (glyph n ∷ acc) small (omega arith))
  where
    go : (b : Bool) → (n / 16 == 0) ≡ b → IsPadded j k (n / 16) (glyph n ∷ acc) → IsPadded (suc j) (suc k) n acc
    go true e rest = last_digit (suc j) k n acc e
    go false e rest =
        let first = append_assoc (hex_digits (suc j) (n / 16)) (glyph n ∷ []) acc in
        (rest.0, rw e (first ∙ rest.1), rw e (rest.2 ∙ omega arith))

-- eight digits, of which zeros stand in front of those that the number has
laid_out : (ds whole : List ℕ) (m : ℕ) → whole ++ [] ≡ replicate m 48 ++ ds → m + length ds ≡ 8 → padded_integral (format_spec 32 0 4 8 (2 ^ 64 - 1)) false (codes "") ds ≡ whole
unfolding padded_integral char_count
laid_out ds whole m is len =
    let pad : 8 - length ds - 0 - 0 ≡ m = omega arith in
    ap (λ k. replicate k 48 ++ (ds ++ [])) pad ∙ ap (λ xs. replicate m 48 ++ xs) (append-nil ds) ∙ sym is ∙ append-nil whole

short : (n : ℕ) → n < 2 ^ 32 → IsShort 7 n
short n small = omega arith

pub written : (n : ℕ) → n < 2 ^ 32 → padded_integral (format_spec 32 0 4 8 (2 ^ 64 - 1)) false (codes "") (digits 16 false n) ≡ eight_hex_digits n
unfolding digits eight_hex_digits
written n small =
    let p = padded_digits 7 64 n [] (short n small) (lit< tt) in laid_out (digits 16 false n) (hex_digits 8 n) p.0 p.1 p.2
