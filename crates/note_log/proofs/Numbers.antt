-- Numbers of files.
use Rattle.std.proofs.Common.{◌≡◌, ◌<◌, ◌+◌, ℕ, Bool, true, false, not, List, [], ◌∷◌, ◌++◌, Option, Some, None, IfSome, is_none, filter, nat_eq, refl, ap, ◌∙◌, subst, inl, inr, arith}
use Rattle.std.specs.List.{Contains}
use Rattle.std.proofs.Math.Logic.{∥∥₁_map}
use Rattle.std.proofs.lemmas.Bool.{eqb-true, ne_eqb}
use Rattle.std.proofs.lemmas.List.Elements.{Contains-append_left, Contains-append_right, Contains-append_cases, Contains-push_cases}
use Rattle.std.proofs.lemmas.List.Folds.{list_any-append}
use Rattle.std.proofs.lemmas.Map.Views.{any-filter_same}
use Rattle.log_file.specs.declared.handed.Handed.{Handed}
use Rattle.note_log.specs.Files.{AreBelow, AreOthers, History, IsFresh, is_among}
use Rattle.note_log.specs.declared.files.FileNumber.{FileNumber}
use Rattle.note_log.proofs.Lists.{at_head, not_in}
use Rattle.note_log.proofs.Standing.{Kept}

pub none_below : (next : ℕ) (opened : List ℕ) (history : History) → opened ≡ [] → history ≡ [] → ∥ AreBelow next opened history ∥₁
none_below next opened history none empty = ∣ (
  λ n c. absurd (not_in n (subst (λ (l : List ℕ). Contains l n) none c)),
  λ h c. absurd (not_in h (subst (λ (l : History). Contains l h) empty c)),
) ∣₁

-- the next number is given to a file
pub given_below : (next after : ℕ) (opened opened' : List ℕ) (history : History) → after ≡ next + 1 → opened' ≡ opened ++ next ∷ [] → ∥ AreBelow next opened history ∥₁ → ∥ AreBelow after opened' history ∥₁
given_below next after opened opened' history is more b = ∥∥₁_map b (λ (h : AreBelow next opened history). (
  λ n c. elim (Contains-push_cases opened next n (subst (λ (l : List ℕ). Contains l n) more c)) [
    | inl d ↦ omega (arith, is, h.0 n d)
    | inr same ↦ omega (arith, is, same)
  ],
  λ k c. omega (arith, is, h.1 k c),
))

pub given_fresh : (next : ℕ) (opened : List ℕ) (history : History) → ∥ AreBelow next opened history ∥₁ → ∥ IsFresh next opened history ∥₁
given_fresh next opened history b = ∥∥₁_map b (λ (h : AreBelow next opened history). (λ n c e. omega (arith, h.0 n c, e), λ k c e. omega (arith, h.1 k c, e)))

-- ---- numbers that are taken away

from_filter : (p : ℕ → Bool) (xs : List ℕ) (x : ℕ) → Contains (filter p xs) x → Contains xs x
from_filter p [] x c = c
from_filter p (y ∷ xs) x c = (elim (p y) as (λ b. p y ≡ b → Contains (y ∷ xs) x) [
  | true ↦ λ e. elim (Contains-append_cases (y ∷ []) (filter p xs) x (rw e at c)) [
    | inl d ↦ Contains-append_left (y ∷ []) xs x d
    | inr d ↦ Contains-append_right (y ∷ []) xs x (from_filter p xs x d)
  ]
  | false ↦ λ e. Contains-append_right (y ∷ []) xs x (from_filter p xs x (rw e at c))
]) refl

taken_below : (p : ℕ → Bool) (next : ℕ) (opened opened' : List ℕ) (history : History) → opened' ≡ filter p opened → ∥ AreBelow next opened history ∥₁ → ∥ AreBelow next opened' history ∥₁
taken_below p next opened opened' history is b = ∥∥₁_map b (λ (h : AreBelow next opened history). (
  λ n c. h.0 n (from_filter p opened n (subst (λ (l : List ℕ). Contains l n) is c)),
  h.1,
))

among : (n : ℕ) (xs : List ℕ) → is_among n xs ≡ true → Contains xs n
among n [] h = cc
among n (x ∷ xs) h = (elim (nat_eq x n) as (λ b. nat_eq x n ≡ b → Contains (x ∷ xs) n) [
  | true ↦ λ e. subst (Contains (x ∷ xs)) (eqb-true x n e) (at_head x xs)
  | false ↦ λ e. Contains-append_right (x ∷ []) xs n (among n xs (rw e at h))
]) refl

among_below : (n next : ℕ) (opened : List ℕ) (history : History) → is_among n opened ≡ true → AreBelow next opened history → n < next
among_below n next opened history h b = b.0 n (among n opened h)

pub others_below : (n next : ℕ) (opened others : List ℕ) (history : History) → AreOthers n opened others → ∥ AreBelow next opened history ∥₁ → ∥ AreBelow next others history ∥₁
others_below n next opened others history (inl is) b = taken_below (λ (m : ℕ). not (nat_eq m n)) next opened others history is b
others_below n next opened others history (inr none) b = ∥∥₁_map b (λ (h : AreBelow next opened history). (λ m c. absurd (not_in m (subst (λ (l : List ℕ). Contains l m) none c)), h.1))

gone : (n : ℕ) (xs : List ℕ) → is_among n (filter (λ m. not (nat_eq m n)) xs) ≡ false
gone n xs = any-filter_same (λ (m : ℕ). nat_eq m n) (λ (m : ℕ). not (nat_eq m n)) false (λ m e. ap not e) xs

pub others_gone : (n : ℕ) (opened others : List ℕ) → AreOthers n opened others → is_among n others ≡ false
others_gone n opened others (inl is) = ap (is_among n) is ∙ gone n opened
others_gone n opened others (inr none) = ap (is_among n) none

still_gone : (n next : ℕ) (xs after : List ℕ) → n < next → is_among n xs ≡ false → after ≡ xs ++ next ∷ [] → is_among n after ≡ false
still_gone n next xs after less none is =
    ap (is_among n) is ∙ list_any-append (λ (m : ℕ). nat_eq m n) xs (next ∷ []) ∙ rw (none, ne_eqb next n (λ e. omega (arith, less, e))) refl

pub add_gone : (n next : ℕ) (r : Option FileNumber) (xs after : List ℕ) → n < next → is_among n xs ≡ false → IfSome r (λ file. after ≡ xs ++ file.number ∷ []) → IfSome r (λ file. file.number ≡ next)
    → (is_none r ≡ true → after ≡ xs) → is_among n after ≡ false
add_gone n next None xs after less none more is same = ap (is_among n) (same refl) ∙ none
add_gone n next (Some file) xs after less none more is same = still_gone n next xs after less none (more ∙ ap (λ (m : ℕ). xs ++ m ∷ []) is)

-- ---- more is kept

pub kept_below : (next n : ℕ) (opened : List ℕ) (history after : History) (handed : Handed) → is_among n opened ≡ true → after ≡ history ++ (handed, n) ∷ [] → ∥ AreBelow next opened history ∥₁
    → ∥ AreBelow next opened after ∥₁
kept_below next n opened history after handed h is b = ∥∥₁_map b (λ (k : AreBelow next opened history). (
  k.0,
  λ e c. elim (Contains-push_cases history (handed, n) e (subst (λ (l : History). Contains l e) is c)) [
    | inl d ↦ k.1 e d
    | inr same ↦ subst (λ (x : Kept). x.1 < next) same (among_below n next opened history h k)
  ],
))
