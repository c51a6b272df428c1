-- A site whose buckets are all literal, by their cumulative weights.
use Rattle.std.proofs.Common.{◌≡◌, ◌≢◌, ℕ, zero, suc, ◌+◌, ◌^◌, ◌<◌, List, [], ◌∷◌, ◌++◌, length, get_or, take, take_all, false, eqb, ltb-true, Option, Some, None, option_map, Result, Ok, Err, string_bytes, refl, sym, ap, ◌∙◌, inl, inr, arith}
use Rattle.std.specs.Prelude.{nat_lt}
use Rattle.std.specs.Option.{option_map_or}
use Rattle.std.proofs.lemmas.Bool.{cases_Bool}
use Rattle.std.proofs.lemmas.Grind.{get_or_default_zero}
use Rattle.bucket_core.specs.Point.{point_of}
use Rattle.bucket_core.specs.Rule.{Entries, at, choice, total_weight, ends_from, end_of, entry_name}
use Rattle.bucket_core.proofs.Ends.{length-ends_from, end_of_is, end_read}
use Rattle.flag_text.specs.Shape.{Shape, null, text}
use Rattle.logic_ast.specs.Ends.{ends_of, ends_of_entries}
use Rattle.logic_ast.specs.Expression.{Buckets}
use Rattle.logic_ast.specs.Sites.{entries_of}
use Rattle.logic_ast.specs.View.{bucket_view, buckets_view}
use Rattle.logic_ast.specs.declared.node.Bucket.{Bucket}
use Rattle.logic_ast.specs.declared.node.Bucket.TheVariants.{Literal, Computed}
use Rattle.logic_ast.specs.declared.node.Node.{Node}
use Rattle.logic_eval.specs.Budget.{Progress, paid}
use Rattle.logic_eval.specs.Fractional.{by_input, input_result, reached, chosen}
use Rattle.logic_eval.specs.Literal.{AreEnds, literal_name}
use Rattle.logic_eval.specs.Run.{Run, ends}
use Rattle.logic_values.specs.declared.fault.EvalFault.{EvalFault}
use Rattle.logic_eval.proofs.Budgets.{bind_ok, bind_err, ends_ok, ends_err, paid-gives, paid-reach}
use Rattle.logic_eval.proofs.Choices.{chosen_gives, not_zero}

-- ---- where there are cumulative weights, all buckets are literal

pub are_ends : (bs : Buckets) (sums : List ℕ) → sums ≡ ends_of bs → 0 < length sums → AreEnds bs sums
are_ends bs sums is some = go (entries_of bs) refl is
  where
    go : (o : Option Entries) → entries_of bs ≡ o → sums ≡ ends_of_entries o → AreEnds bs sums
    go None e g = let none : length sums ≡ 0 = ap length g in absurd (omega arith)
    go (Some r) e g = elim (cases_Bool (nat_lt (total_weight r) (2 ^ 31))) [
      | inl t ↦
          let read : ends_of_entries (Some r) ≡ ends_from 0 r = rw t refl in
          record { literal = rw e refl; sums = rw e (g ∙ read); small = rw e (ltb-true _ _ t) }
      | inr t ↦
          let read : ends_of_entries (Some r) ≡ [] = rw t refl in
          let none : length sums ≡ 0 = ap length (g ∙ read) in
          absurd (omega arith)
    ]

-- ---- the total is the last of them

pub last_end : (r : Entries) (sums : List ℕ) → sums ≡ ends_from 0 r → 0 < length sums → (i : ℕ) → i + 1 ≡ length sums → get_or sums i 0 ≡ total_weight r
last_end r sums are some i last =
    let long : length sums ≡ length r = ap length are ∙ length-ends_from 0 r in
    let within : i < length r = omega arith in
    let is : get_or sums i 0 ≡ get_or sums i (get_or sums i 0) = sym (get_or_default_zero sums i (get_or sums i 0) (omega arith)) in
    let read : get_or sums i 0 ≡ end_of r i = end_read r sums i are within (get_or sums i 0) is in
    let all : take (i + 1) r ≡ r = take_all (i + 1) r (omega arith) in
    read ∙ (end_of_is r i within ∙ ap total_weight all)

-- ---- the bucket of an entry has its name

pub named_alike : (xs : List (Bucket Node)) (r : Entries) (i : ℕ) (x : Bucket Node) → entries_of (buckets_view xs) ≡ Some r → i < length xs → x ≡ get_or xs i x
    → literal_name (bucket_view x) ≡ option_map_or text (entry_name r i) null
named_alike [] r i x e h is = absurd (omega arith)
named_alike (Literal name weight ∷ xs) r i x e h is = go (entries_of (buckets_view xs)) refl e i h is (λ es n y. named_alike xs es n y)
  where
    go : (o : Option Entries) → entries_of (buckets_view xs) ≡ o → option_map (λ es. (string_bytes name, weight) ∷ es) o ≡ Some r
        → (i : ℕ) → i < suc (length xs) → x ≡ get_or (Literal name weight ∷ xs) i x
        → ((es : Entries) (n : ℕ) (y : Bucket Node) → entries_of (buckets_view xs) ≡ Some es → n < length xs → y ≡ get_or xs n y → literal_name (bucket_view y) ≡ option_map_or text (entry_name es n) null)
        → literal_name (bucket_view x) ≡ option_map_or text (entry_name r i) null
    go None f g i h is rest = absurd (cc g)
    go (Some es) f g zero h is rest =
        let all : (string_bytes name, weight) ∷ es ≡ r = cc g in
        ap (λ b. literal_name (bucket_view b)) is ∙ ap (λ r. option_map_or text (entry_name r 0) null) all
    go (Some es) f g (suc i) h is rest =
        let all : (string_bytes name, weight) ∷ es ≡ r = cc g in
        rest es i x f (omega arith) is ∙ ap (λ r. option_map_or text (entry_name r (suc i)) null) all
named_alike (Computed name weight ∷ xs) r i x e h is = absurd (cc e)

-- as many buckets as entries
pub as_many : (xs : List (Bucket Node)) (r : Entries) → entries_of (buckets_view xs) ≡ Some r → length r ≡ length xs
as_many [] r e = let none : [] ≡ r = cc e in ap length (sym none)
as_many (Literal name weight ∷ xs) r e = go (entries_of (buckets_view xs)) refl e (as_many xs)
  where
    go : (o : Option Entries) → entries_of (buckets_view xs) ≡ o → option_map (λ es. (string_bytes name, weight) ∷ es) o ≡ Some r
        → ((es : Entries) → entries_of (buckets_view xs) ≡ Some es → length es ≡ length xs) → length r ≡ suc (length xs)
    go None f g rest = absurd (cc g)
    go (Some es) f g rest = let all : (string_bytes name, weight) ∷ es ≡ r = cc g in ap length (sym all) ∙ ap suc (rest es f)
as_many (Computed name weight ∷ xs) r e = absurd (cc e)

-- ---- what the site gives

module _ (site : ℕ) (input : Option (Result (List ℕ) EvalFault)) (r : Entries) (p : Progress) where
  pub input_weightless : (t : ℕ) → t ≡ total_weight r → t ≡ 0 → paid p (by_input site input r) ≡ Ok (null, p)
  input_weightless t e z = go input
    where
      none : total_weight r ≡ 0
      none = sym e ∙ z

      go : (i : Option (Result (List ℕ) EvalFault)) → paid p (by_input site i r) ≡ Ok (null, p)
      go None = paid-gives p null
      go (Some i) = rw none (paid-gives p null)

  pub input_without : input_result input ≡ Ok None → paid p (by_input site input r) ≡ Ok (null, p)
  input_without g = go input g
    where
      go : (i : Option (Result (List ℕ) EvalFault)) → input_result i ≡ Ok None → paid p (by_input site i r) ≡ Ok (null, p)
      go None k = paid-gives p null
      go (Some (Ok s)) k = absurd (cc k)
      go (Some (Err d)) k = absurd (cc k)

  pub input_fault : (t : ℕ) (f : EvalFault) → t ≡ total_weight r → t ≢ 0 → input_result input ≡ Err f → paid p (by_input site input r) ≡ Err f
  input_fault t f e n g = go input g
    where
      go : (i : Option (Result (List ℕ) EvalFault)) → input_result i ≡ Err f → paid p (by_input site i r) ≡ Err f
      go None k = absurd (cc k)
      go (Some (Ok s)) k = absurd (cc k)
      go (Some (Err d)) k =
          let z : eqb (total_weight r) 0 ≡ false = not_zero (total_weight r) t e n in
          let same : d ≡ f = cc k in
          rw z (bind_err p (let x : Run (List ℕ) = ends (Err d) in x) (reached site r) f (ends_err p (Err d) f (ap Err same)))

  pub input_chosen : (t : ℕ) (s : List ℕ) (v : Shape) → t ≡ total_weight r → t ≢ 0 → input_result input ≡ Ok (Some s) → v ≡ option_map_or text (at r (point_of t s)) null
      → paid p (by_input site input r) ≡ Ok (v, (p.0, p.1 ++ record { site = site; input = s; total = t } ∷ []))
  input_chosen t s v e n g named = go input g
    where
      at_site : paid p (reached site r s) ≡ Ok (v, (p.0, p.1 ++ record { site = site; input = s; total = t } ∷ []))
      at_site =
          let same : option_map_or text (choice r s) null ≡ v = ap (λ k. option_map_or text (at r (point_of k s)) null) (sym e) ∙ sym named in
          paid-reach p (record { site = site; input = s; total = total_weight r }) (chosen (choice r s))
          ∙ (chosen_gives _ (choice r s) ∙ rw (same, e) refl)

      go : (i : Option (Result (List ℕ) EvalFault)) → input_result i ≡ Ok (Some s) → paid p (by_input site i r) ≡ Ok (v, (p.0, p.1 ++ record { site = site; input = s; total = t } ∷ []))
      go None k = absurd (cc k)
      go (Some (Err d)) k = absurd (cc k)
      go (Some (Ok u)) k =
          let z : eqb (total_weight r) 0 ≡ false = not_zero (total_weight r) t e n in
          let same : u ≡ s = cc k in
          rw (z, same) (bind_ok p (let x : Run (List ℕ) = ends (Ok s) in x) (reached site r) s p (ends_ok p (Ok s) s refl) ∙ at_site)
