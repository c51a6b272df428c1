-- The operator of a name is among those whose names begin with the same byte.
use Rattle.std.proofs.Common.{◌≡◌, ℕ, List, [], ◌∷◌, Bool, true, false, cond, Some, None, ◌==◌, slice_index, ◌≤◌, length, refl, ap, ◌∙◌, rules, arith}
use Rattle.std.specs.List.{find, filter}
use Rattle.std.specs.Str.{bytes_eq}
use Rattle.std.proofs.lemmas.Slice.Eq.{bytes_eq-Decides}
use Rattle.logic_ast.specs.Operator.{operator_name, operators, operator_of, begins_with}
use Rattle.logic_ast.specs.declared.operator.Operator.{Operator}

module _ {X : Type 0} (p q : X → Bool) (passes : (x : X) → p x ≡ true → q x ≡ true) where
  step : (a b : Bool) (x : X) (xs : List X) → p x ≡ a → (a ≡ true → b ≡ true) → find p (filter q xs) ≡ find p xs
      → find p (cond b (x ∷ filter q xs) (filter q xs)) ≡ cond (p x) (Some x) (find p xs)
  step true true x xs e h rest = rw e refl
  step true false x xs e h rest = let never = h refl in cc
  step false true x xs e h rest = rw e rest
  step false false x xs e h rest = rw e rest

  -- what is left out does not pass the test
  find-filter : (xs : List X) → find p (filter q xs) ≡ find p xs
  find-filter [] = refl
  find-filter (x ∷ xs) = step (p x) (q x) x xs refl (passes x) (find-filter xs)

same_byte : (n : ℕ) → (n == n) ≡ true
same_byte n = search rules

begins : (name : List ℕ) (o : Operator) → bytes_eq (operator_name o) name ≡ true → begins_with (slice_index name 0) o ≡ true
begins name o e =
    ap (λ n. slice_index n 0 == slice_index name 0) ((bytes_eq-Decides (operator_name o) name).0 e) ∙ same_byte (slice_index name 0)

pub named_among : (name : List ℕ) → find (λ o. bytes_eq (operator_name o) name) (filter (begins_with (slice_index name 0)) operators) ≡ operator_of name
unfolding operator_of
named_among name = find-filter (λ o. bytes_eq (operator_name o) name) (begins_with (slice_index name 0)) (begins name) operators

pub named_nothing : (name : List ℕ) → length name ≤ 0 → operator_of name ≡ None
unfolding operator_of
named_nothing [] e = refl
named_nothing (byte ∷ name) e = absurd (omega arith)
