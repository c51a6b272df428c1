-- How often a name has stood among members, once at least and more than once.
use Rattle.std.proofs.Common.{◌≡◌, ℕ, ◌+◌, ◌<◌, Bool, true, false, cond, nat_lt, List, [], ◌∷◌, length, get_or, take, map, Bor, refl, sym, ap, ◌∙◌, arith}
use Rattle.std.proofs.lemmas.Bool.{lt-ltb, le-ltb, ltb-true, ltb-false}
use Rattle.std.proofs.lemmas.List.Sums.{count_by_more_no, count_by_more_yes, sum_by-cons}
use Rattle.std.proofs.lemmas.Slice.Eq.{bytes_eq-Decides}
use Rattle.std.specs.List.{count_by}
use Rattle.std.specs.Str.{bytes_eq}
use Rattle.flag_doubts.specs.Doubled.{count_of}

abbrev pub Members : Type 0
Members = List (Bor (List ℕ))

abbrev pub count : List ℕ → Members → ℕ
count key ms = count_by (λ m. bytes_eq m.now key) ms

pub counted : (key : List ℕ) (ms : Members) → count key ms ≡ count_of key (map (λ m. m.now) ms)
counted key [] = refl
counted key (m ∷ ms) =
    sum_by-cons (λ n. cond (bytes_eq n.now key) 1 0) m ms ∙ ap (λ n. cond (bytes_eq m.now key) 1 0 + n) (counted key ms) ∙ sym (sum_by-cons (λ n. cond (bytes_eq n key) 1 0) m.now (map (λ m. m.now) ms))

module _ (ms : Members) (i : ℕ) (m : Bor (List ℕ)) (h : i < length ms) (is : m ≡ get_or ms i m) (key : List ℕ) where
  more : bytes_eq m.now key ≡ true → count key (take (i + 1) ms) ≡ count key (take i ms) + 1
  more e = count_by_more_yes (λ n. bytes_eq n.now key) ms i m h (ap (λ n. bytes_eq n.now key) (sym is) ∙ e)

  same : bytes_eq m.now key ≡ false → count key (take (i + 1) ms) ≡ count key (take i ms)
  same e = count_by_more_no (λ n. bytes_eq n.now key) ms i m h (ap (λ n. bytes_eq n.now key) (sym is) ∙ e)

  -- the name was met
  pub met_once : (before after : Bool) → before ≡ nat_lt 0 (count key (take i ms)) → after ≡ cond (bytes_eq m.now key) true before → after ≡ nat_lt 0 (count key (take (i + 1) ms))
  met_once before after was now = go (bytes_eq m.now key) refl
    where
      go : (b : Bool) → bytes_eq m.now key ≡ b → after ≡ nat_lt 0 (count key (take (i + 1) ms))
      go true e = let n = more e in now ∙ ap (λ b. cond b true before) e ∙ sym (lt-ltb 0 (count key (take (i + 1) ms)) (omega arith))
      go false e = now ∙ ap (λ b. cond b true before) e ∙ was ∙ ap (nat_lt 0) (sym (same e))

  -- it was met before
  pub met_twice : nat_lt 0 (count m.now (take i ms)) ≡ true → (before after : Bool) → before ≡ nat_lt 1 (count key (take i ms)) → after ≡ cond (bytes_eq m.now key) true before
      → after ≡ nat_lt 1 (count key (take (i + 1) ms))
  met_twice seen before after was now = go (bytes_eq m.now key) refl
    where
      go : (b : Bool) → bytes_eq m.now key ≡ b → after ≡ nat_lt 1 (count key (take (i + 1) ms))
      go true e =
          let n = more e in
          let some : 0 < count key (take i ms) = ltb-true 0 (count key (take i ms)) (ap (λ k. nat_lt 0 (count k (take i ms))) (sym ((bytes_eq-Decides m.now key).0 e)) ∙ seen) in
          now ∙ ap (λ b. cond b true before) e ∙ sym (lt-ltb 1 (count key (take (i + 1) ms)) (omega arith))
      go false e = now ∙ ap (λ b. cond b true before) e ∙ was ∙ ap (nat_lt 1) (sym (same e))

  -- it was not
  pub met_first : nat_lt 0 (count m.now (take i ms)) ≡ false → (before : Bool) → before ≡ nat_lt 1 (count key (take i ms)) → before ≡ nat_lt 1 (count key (take (i + 1) ms))
  met_first seen before was = go (bytes_eq m.now key) refl
    where
      go : (b : Bool) → bytes_eq m.now key ≡ b → before ≡ nat_lt 1 (count key (take (i + 1) ms))
      go true e =
          let n = more e in
          let none = ltb-false 0 (count key (take i ms)) (ap (λ k. nat_lt 0 (count k (take i ms))) (sym ((bytes_eq-Decides m.now key).0 e)) ∙ seen) in
          was ∙ le-ltb 1 (count key (take i ms)) (omega arith) ∙ sym (le-ltb 1 (count key (take (i + 1) ms)) (omega arith))
      go false e = was ∙ ap (nat_lt 1) (sym (same e))
