-- The names that a `fractional` can choose are among the outcomes of its buckets.
use Rattle.std.proofs.Common.{◌≡◌, inl, inr, ◌⊎◌, ℕ, pos, ◌-◌, ◌<◌, ◌==◌, nat_lt, Bool, true, false, cond, eqb-true, List, [], ◌∷◌, ◌++◌, Option, Some, None, option_map, option_and_then, Result, refl, sym, ap, ◌∙◌, subst, arith}
use Rattle.std.proofs.lemmas.Bool.{ltb-false, ltb-true}
use Rattle.bucket_core.proofs.Points.{at-here, at-nil, at-past}
use Rattle.bucket_core.specs.Point.{point_of}
use Rattle.bucket_core.specs.Reading.{bucket_with, weight_of}
use Rattle.bucket_core.specs.Rule.{Entries, at, choice, total_weight}
use Rattle.flag_text.specs.Readers.{as_text}
use Rattle.flag_text.specs.Shape as shape
use Rattle.flag_text.specs.Shape.{Shape, null, boolean, whole, text}
use Rattle.flag_resolve.specs.Resolution.{name_in}
use Rattle.logic_ast.specs.Expression.{literal, list, operation, fractional, Buckets, bucket, Bucket, literal_bucket, computed_bucket}
use Rattle.logic_eval.proofs.Choices.{buckets_entries}
use Rattle.logic_eval.proofs.Runs.{runs-gives, runs-faults, runs-reach, runs-bind}
use Rattle.logic_eval.specs.Evaluation.{bucket_meaning, bucket_meanings, pair, pairs}
use Rattle.logic_eval.specs.Fractional.{by_buckets, by_input, buckets_of, chosen, decided}
use Rattle.logic_eval.specs.Fractional as fractions
use Rattle.logic_eval.specs.Operators.{Meaning}
use Rattle.logic_values.specs.declared.fault.EvalFault.{EvalFault}
use Rattle.flag_doubts.specs.Laws.{IsAmong}
use Rattle.flag_doubts.specs.Outcomes.{Outcome, names, name}
use Rattle.flag_doubts.specs.Weights.{is_zero, literal_weight}
use Rattle.flag_doubts.proofs.Giving.{Anything, Gives, any, among_null, among_left, among_right, either}

-- where the value is a text, it is among the outcomes
abbrev pub Named : List Outcome → Shape → Type 0
Named os v = (s : List ℕ) → v ≡ text s → IsAmong os (text s)

-- so is the name of a pair, or its weight is 0
abbrev Falls : List Outcome → Shape × Shape → Type 0
Falls os p = (weight_of p.1 ≡ Some 0) ⊎ Named os p.0

abbrev pub AllNamed : List Outcome → List (Shape × Shape) → Type 0
AllNamed os [] = Unit {0}
AllNamed os (p ∷ ps) = Falls os p × AllNamed os ps

abbrev EntryNamed : List Outcome → List ℕ × ℕ → Type 0
EntryNamed os e = (e.1 ≡ 0) ⊎ IsAmong os (text e.0)

abbrev AllEntries : List Outcome → Entries → Type 0
AllEntries os [] = Unit {0}
AllEntries os (e ∷ es) = EntryNamed os e × AllEntries os es

falls_right : (os qs : List Outcome) (p : Shape × Shape) → Falls qs p → Falls (os ++ qs) p
falls_right os qs p (inl w) = inl w
falls_right os qs p (inr h) = inr (λ s e. among_right os qs (text s) (h s e))

named_right : (os qs : List Outcome) (ps : List (Shape × Shape)) → AllNamed qs ps → AllNamed (os ++ qs) ps
named_right os qs [] h = tt
named_right os qs (p ∷ ps) h = (falls_right os qs p h.0, named_right os qs ps h.1)

pub same_text : (s t : List ℕ) → text s ≡ text t → name_in (text t) ≡ Some s
same_text s t e = cc

text_of : (v : Shape) (e : List ℕ) → as_text v ≡ Some e → v ≡ text e
text_of (text s) e h = let same : s ≡ e = cc in ap text same
text_of null e h = cc
text_of (boolean b) e h = cc
text_of (whole n) e h = cc
text_of shape.other e h = cc
text_of (shape.list ts) e h = cc
text_of (shape.object ms) e h = cc

-- the name of one bucket, and the others
name_given : (w : Option ℕ) (v : Shape) (e : List ℕ × ℕ) → bucket_with w v ≡ Some e → v ≡ text e.0
name_given w v e h = go (as_text v) refl w h
  where
    go : (o : Option (List ℕ)) → as_text v ≡ o → (x : Option ℕ) → option_and_then (λ s. option_map (λ n. (s, n)) x) o ≡ Some e → v ≡ text e.0
    go None f x g = cc
    go (Some s) f None g = cc
    go (Some s) f (Some n) g = let same : s ≡ e.0 = ap (λ (o : Option (List ℕ × ℕ)). elim o as (λ _. List ℕ) [ None ↦ s | Some q ↦ q.0 ]) g in text_of v e.0 (f ∙ ap Some same)

-- and its weight
pub weight_in : (w : Option ℕ) (v : Shape) (x : List ℕ × ℕ) → bucket_with w v ≡ Some x → w ≡ Some x.1
weight_in w v x h = go (as_text v) w h
  where
    go : (o : Option (List ℕ)) (w : Option ℕ) → option_and_then (λ s. option_map (λ n. (s, n)) w) o ≡ Some x → w ≡ Some x.1
    go None w g = absurd (cc g)
    go (Some s) None g = absurd (cc g)
    go (Some s) (Some n) g = ap Some (ap (λ (o : Option (List ℕ × ℕ)). elim o as (λ _. ℕ) [ None ↦ n | Some q ↦ q.1 ]) g)

entry_told : (os : List Outcome) (p : Shape × Shape) (x : List ℕ × ℕ) → bucket_with (weight_of p.1) p.0 ≡ Some x → Falls os p → EntryNamed os x
entry_told os p x f (inl w) = let is : Some x.1 ≡ Some 0 = sym (weight_in (weight_of p.1) p.0 x f) ∙ w in let same : x.1 ≡ 0 = cc in inl same
entry_told os p x f (inr h) = inr (h x.0 (name_given (weight_of p.1) p.0 x f))

entries_told : (os : List Outcome) (ps : List (Shape × Shape)) (r : Entries) → AllNamed os ps → fractions.entries_of ps ≡ Some r → AllEntries os r
entries_told os [] [] h e = tt
entries_told os [] (x ∷ xs) h e = absurd (cc e)
entries_told os (p ∷ ps) r h e = go (λ xs. entries_told os ps xs h.1) (bucket_with (weight_of p.1) p.0) refl (fractions.entries_of ps) refl e
  where
    go : ((xs : Entries) → fractions.entries_of ps ≡ Some xs → AllEntries os xs) → (b : Option (List ℕ × ℕ)) → bucket_with (weight_of p.1) p.0 ≡ b → (o : Option Entries) → fractions.entries_of ps ≡ o
        → option_and_then (λ x. option_map (λ xs. x ∷ xs) o) b ≡ Some r → AllEntries os r
    go rest None f o g k = absurd (cc k)
    go rest (Some x) f None g k = absurd (cc k)
    go rest (Some x) f (Some xs) g k =
        let is : x ∷ xs ≡ r = cc in
        subst (AllEntries os) is (entry_told os p x f h.0, rest xs g)

-- an entry that has a point has weight
with_point : (os : List Outcome) (x : List ℕ × ℕ) (p : ℕ) → p < x.1 → EntryNamed os x → IsAmong os (text x.0)
with_point os x p l (inl z) = absurd (omega (arith, l, z))
with_point os x p l (inr h) = h

-- the name at a point is that of an entry
at_told : (os : List Outcome) (r : Entries) (p : ℕ) (s : List ℕ) → AllEntries os r → at r p ≡ Some s → IsAmong os (text s)
at_told os [] p s h e = let no : None ≡ Some s = sym (at-nil p) ∙ e in absurd (cc)
at_told os (x ∷ xs) p s h e = go (at_told os xs (p - x.1) s h.1) (nat_lt p x.1) refl
  where
    go : (at xs (p - x.1) ≡ Some s → IsAmong os (text s)) → (b : Bool) → nat_lt p x.1 ≡ b → IsAmong os (text s)
    go later true t =
        let is : Some x.0 ≡ Some s = sym (at-here x xs p (ltb-true p x.1 t)) ∙ e in
        let same : x.0 ≡ s = cc in
        subst (λ n. IsAmong os (text n)) same (with_point os x p (ltb-true p x.1 t) h.0)
    go later false t = later (sym (at-past x xs p (ltb-false p x.1 t)) ∙ e)

chosen_told : (os : List Outcome) (o : Option (List ℕ)) → ((s : List ℕ) → o ≡ Some s → IsAmong os (text s)) → Gives (IsAmong os) (chosen o)
chosen_told os None h = runs-gives Anything (IsAmong os) null (among_null os null refl)
chosen_told os (Some s) h = runs-gives Anything (IsAmong os) (text s) (h s refl)

by_input_told : (os : List Outcome) (n : ℕ) (i : Option (Result (List ℕ) EvalFault)) (r : Entries) → AllEntries os r → Gives (IsAmong os) (by_input n i r)
by_input_told os n None r h = runs-gives Anything (IsAmong os) null (among_null os null refl)
by_input_told os n (Some i) r h =
    either (IsAmong os) (total_weight r == 0) _ _ (runs-gives Anything (IsAmong os) null (among_null os null refl))
    (runs-bind Anything Anything (IsAmong os) _ _ (any _) (λ s _. runs-reach Anything (IsAmong os) _ _ tt (chosen_told os (choice r s) (λ t e. at_told os r (point_of (total_weight r) s) t h e))))

pub decided_told : (os : List Outcome) (n : ℕ) (i : Option (Result (List ℕ) EvalFault)) (ps : List (Shape × Shape)) → AllNamed os ps → Gives (IsAmong os) (decided n i ps)
decided_told os n i ps h = go (buckets_of ps) refl
  where
    go : (o : Option Entries) → buckets_of ps ≡ o → Gives (IsAmong os) (by_buckets n i o)
    go None e = runs-faults Anything (IsAmong os) _
    go (Some r) e = by_input_told os n i r (entries_told os ps r h (buckets_entries ps r e))

-- ---- literal weights

pub zero_of : (n : ℕ) → is_zero (Some n) ≡ true → n ≡ 0
zero_of n e = eqb-true n 0 e

some_zero : (o : Option ℕ) → is_zero o ≡ true → o ≡ Some 0
some_zero None e = absurd (cc e)
some_zero (Some n) e = ap Some (zero_of n e)

module _ (d : Option (List ℕ)) (scope : Shape) where
  -- a literal weight of 0 is 0
  zero_given : (b : Bucket) → is_zero (literal_weight b) ≡ true → Gives (λ w. weight_of w ≡ Some 0) ((bucket_meaning d b).1 scope)
  zero_given (literal_bucket name weight) e = runs-gives Anything (λ w. weight_of w ≡ Some 0) (whole (pos weight)) (ap (λ n. weight_of (whole (pos n))) (zero_of weight e))
  zero_given (computed_bucket name (literal t)) e = runs-gives Anything (λ w. weight_of w ≡ Some 0) t (some_zero (weight_of t) e)
  zero_given (computed_bucket name (list es)) e = absurd (cc e)
  zero_given (computed_bucket name (operation o es)) e = absurd (cc e)
  zero_given (computed_bucket name (fractional n b bs)) e = absurd (cc e)

  -- one more pair
  pair_told : (B : Shape × Shape → Type 0) (os qs : List Outcome) (m : Meaning × Meaning) (ms : List (Meaning × Meaning)) → Gives B (pair m scope) → Gives (AllNamed qs) (pairs ms scope) → ((p : Shape × Shape) → B p → Falls os p)
      → ((ps : List (Shape × Shape)) → AllNamed qs ps → AllNamed os ps) → Gives (AllNamed os) (pairs (m ∷ ms) scope)
  pair_told B os qs m ms first rest f g =
      runs-bind Anything B (AllNamed os) _ _ first (λ p b. runs-bind Anything (AllNamed qs) (AllNamed os) _ _ rest (λ ps k. runs-gives Anything (AllNamed os) (p ∷ ps) (f p b, g ps k)))

  -- one more bucket, of weight 0 or not
  pub bucket_told : (b : Bucket) (bs : Buckets) → Gives (Named (name b)) ((bucket_meaning d b).0 scope) → Gives (AllNamed (names bs)) (pairs (bucket_meanings d bs) scope)
      → Gives (AllNamed (names (bucket b bs))) (pairs (bucket_meanings d (bucket b bs)) scope)
  bucket_told b bs given rest = go (is_zero (literal_weight b)) refl
    where
      go : (z : Bool) → is_zero (literal_weight b) ≡ z → Gives (AllNamed (cond z (names bs) (name b ++ names bs))) (pairs (bucket_meanings d (bucket b bs)) scope)
      go true e =
          let weightless = λ (p : Shape × Shape). weight_of p.1 ≡ Some 0 in
          let first : Gives weightless (pair (bucket_meaning d b) scope) =
          runs-bind Anything Anything weightless _ _ (any _) (λ v _. runs-bind Anything (λ w. weight_of w ≡ Some 0) weightless _ _ (zero_given b e) (λ w z. runs-gives Anything weightless (v, w) z)) in
          pair_told weightless (names bs) (names bs) (bucket_meaning d b) (bucket_meanings d bs) first rest (λ p z. inl z) (λ ps k. k)
      go false e =
          let one_named = λ (p : Shape × Shape). Named (name b) p.0 in
          let first : Gives one_named (pair (bucket_meaning d b) scope) =
          runs-bind Anything (Named (name b)) one_named _ _ given (λ v h. runs-bind Anything Anything one_named _ _ (any _) (λ w _. runs-gives Anything one_named (v, w) h)) in
          pair_told one_named (name b ++ names bs) (names bs) (bucket_meaning d b) (bucket_meanings d bs) first rest (λ p h. inr (λ s e. among_left (name b) (names bs) (text s) (h s e))) (named_right (name b) (names bs))
