-- Sixteen bytes at a time: a mask tells which of them are not plain, and the lowest of its bits where the run ends.
use Rattle.std.proofs.Common.{◌≡◌, ℕ, ◌+◌, ◌*◌, ◌%◌, ◌^◌, ◌<◌, ◌≤◌, Bool, true, false, not, ◌&&◌, ◌||◌, cond, eqb, leb, ltb, bit_or, List, [], ◌∷◌, map, length, drop, refl, sym, ap, ap₂, ◌∙◌, arith}
use Rattle.std.proofs.lemmas.Bool.{leb-true, leb-false, le-ltb, lt-ltb, eq-eqb, ne_eqb}
use Rattle.std.proofs.lemmas.List.{length-map}
use Rattle.std.proofs.lemmas.List.Folds.{prefix_len-append}
use Rattle.std.proofs.lemmas.List.Sums.{prefix_len-le-length}
use Rattle.std.proofs.lemmas.Simd.{zip2_of_maps, mask_l-mod, chunk-drop, length-chunk, leading_from_mask_l, trailing_mask_l}
use Rattle.std.specs.List.{prefix_len}
use lib.Lanes.{zip2, chunk, mask_l, top}
use lib.Count.{count_trailing_zeros}
use Rattle.page_tally.specs.Plain.{is_odd, is_plain_ascii}

-- ---- the mask

pub either : (f g : ℕ → ℕ) (v : List ℕ) {a b : List ℕ} → a ≡ map f v → b ≡ map g v → zip2 bit_or a b ≡ map (λ x. bit_or (f x) (g x)) v
either f g v p q = zip2_of_maps bit_or f g v p q

pub some_of_four : (a b c d : Bool) → top 7 (bit_or (bit_or (bit_or (cond a 255 0) (cond b 255 0)) (cond c 255 0)) (cond d 255 0)) ≡ (((a || b) || c) || d)
some_of_four true true true true = refl
some_of_four true true true false = refl
some_of_four true true false true = refl
some_of_four true true false false = refl
some_of_four true false true true = refl
some_of_four true false true false = refl
some_of_four true false false true = refl
some_of_four true false false false = refl
some_of_four false true true true = refl
some_of_four false true true false = refl
some_of_four false true false true = refl
some_of_four false true false false = refl
some_of_four false false true true = refl
some_of_four false false true false = refl
some_of_four false false false true = refl
some_of_four false false false false = refl

tops : (f : ℕ → ℕ) (p : ℕ → Bool) (v : List ℕ) → ((x : ℕ) → top 7 (f x) ≡ p x) → map (top 7) (map f v) ≡ map p v
tops f p [] h = refl
tops f p (x ∷ xs) h = ap₂ (λ a b. a ∷ b) (h x) (tops f p xs h)

pub masked : (f : ℕ → ℕ) (p : ℕ → Bool) (v z : List ℕ) → length v ≤ 64 → z ≡ map f v → ((x : ℕ) → top 7 (f x) ≡ p x) → mask_l (map (top 7) z) % 2 ^ 64 ≡ mask_l (map p v)
masked f p v z short e h =
    ap (λ l. mask_l l % 2 ^ 64) (ap (map (top 7)) e ∙ tops f p v h) ∙ mask_l-mod (map p v) 64 (omega (arith, length-map v p))

-- ---- plain or odd

turned : (a b : ℕ) (r : Bool) → leb b a ≡ r → ltb a b ≡ not r
turned a b true e = le-ltb a b (leb-true b a e)
turned a b false e = lt-ltb a b (leb-false b a e)

neither : (quote solidus low high : Bool) → ((not low && not quote && not solidus) && not high) ≡ not (((quote || solidus) || low) || high)
neither true true true true = refl
neither true true true false = refl
neither true true false true = refl
neither true true false false = refl
neither true false true true = refl
neither true false true false = refl
neither true false false true = refl
neither true false false false = refl
neither false true true true = refl
neither false true true false = refl
neither false true false true = refl
neither false true false false = refl
neither false false true true = refl
neither false false true false = refl
neither false false false true = refl
neither false false false false = refl

not-not : (b : Bool) → b ≡ not (not b)
not-not true = refl
not-not false = refl

pub plain_or_odd : (b : ℕ) → is_plain_ascii b ≡ not (is_odd b)
plain_or_odd b =
    let low : leb 32 b ≡ not (ltb b 32) = not-not (leb 32 b) ∙ ap not (sym (turned b 32 (leb 32 b) refl)) in
    let high : ltb b 128 ≡ not (ltb 127 b) = turned b 128 (leb 128 b) refl in
    ap₂ (λ l h. (l && not (eqb b 34) && not (eqb b 92)) && h) low high ∙ neither (eqb b 34) (eqb b 92) (ltb b 32) (ltb 127 b)

-- ---- runs of plain bytes

same_run : (xs : List ℕ) → prefix_len is_plain_ascii xs ≡ prefix_len (λ x. not (is_odd x)) xs
same_run [] = refl
same_run (x ∷ xs) = ap₂ (λ b n. cond b (1 + n) 0) (plain_or_odd x) (same_run xs)

none_odd : (b : Bool) (n l m : ℕ) → n ≤ l → cond (not b) (1 + n) 0 ≡ 1 + l → (n ≡ l → m ≡ 0) → cond b 1 0 + 2 * m ≡ 0
none_odd true n l m le e ih = let no : ⊥ = omega arith in absurd no
none_odd false n l m le e ih = let z = ih (omega arith) in omega arith

all_plain : (xs : List ℕ) → prefix_len (λ x. not (is_odd x)) xs ≡ length xs → mask_l (map is_odd xs) ≡ 0
all_plain [] e = refl
all_plain (x ∷ xs) e = none_odd (is_odd x) _ (length xs) _ (prefix_len-le-length (λ y. not (is_odd y)) xs) (omega arith) (all_plain xs)

split : (d : List ℕ) (i n : ℕ) → prefix_len is_plain_ascii (drop i d) ≡ cond (eqb (prefix_len is_plain_ascii (chunk i n d)) (length (chunk i n d))) (length (chunk i n d) + prefix_len is_plain_ascii (drop (i + n) d)) (prefix_len is_plain_ascii (chunk i n d))
split d i n = ap (prefix_len is_plain_ascii) (chunk-drop i n d) ∙ prefix_len-append is_plain_ascii (chunk i n d) (drop (i + n) d)

-- no lane is odd, so that the run goes on behind them
pub run_through : (d : List ℕ) (i n : ℕ) → i + n ≤ length d → mask_l (map is_odd (chunk i n d)) ≡ 0 → prefix_len is_plain_ascii (drop i d) ≡ n + prefix_len is_plain_ascii (drop (i + n) d)
run_through d i n room none =
    let c = chunk i n d in
    split d i n ∙ ap (λ b. cond b (length c + prefix_len is_plain_ascii (drop (i + n) d)) (prefix_len is_plain_ascii c)) (eq-eqb _ _ (same_run c ∙ leading_from_mask_l is_odd c none))
    ∙ ap (λ k. k + prefix_len is_plain_ascii (drop (i + n) d)) (length-chunk i n d room)

-- some lane is odd, and the run ends at the first of them
pub run_stops : (d : List ℕ) (i n : ℕ) → i + n ≤ length d → n ≤ 64 → 0 < mask_l (map is_odd (chunk i n d)) → prefix_len is_plain_ascii (drop i d) ≡ count_trailing_zeros 64 (mask_l (map is_odd (chunk i n d)))
run_stops d i n room short some =
    let c = chunk i n d in
    split d i n ∙ ap (λ b. cond b (length c + prefix_len is_plain_ascii (drop (i + n) d)) (prefix_len is_plain_ascii c)) (ne_eqb _ _ (λ (e : prefix_len is_plain_ascii c ≡ length c). omega (arith, all_plain c (sym (same_run c) ∙ e))))
    ∙ same_run c ∙ sym (trailing_mask_l is_odd 64 c (omega (arith, length-chunk i n d room)) some)
