-- A site with a weight that is none, or with too much of it, gives no value; one without weight gives null.
use Rattle.std.proofs.Common.{◌≡◌, ◌≢◌, ◌+◌, ◌≤◌, ◌^◌, ℕ, Bool, true, false, cond, ◌||◌, ◌&&◌, nat_lt, List, [], ◌∷◌, Option, Some, None, option_map, option_and_then, unwrap_or, ◌==◌, pos, Result, Ok, IfOk, refl, sym, ap, ◌∙◌, subst, arith}
use Rattle.std.proofs.lemmas.Bool.{le-ltb, leb-true}
use Rattle.std.specs.Option.{is_none}
use Rattle.bucket_core.specs.Reading.{bucket_with, weight_of}
use Rattle.bucket_core.proofs.Points.{total_weight-cons}
use Rattle.bucket_core.specs.Rule.{Entries, total_weight}
use Rattle.flag_text.specs.Readers.{as_text}
use Rattle.flag_text.specs.Shape.{Shape, null, whole}
use Rattle.logic_ast.specs.Expression.{Expression, literal, list, operation, fractional, By, Buckets, no_buckets, bucket, Bucket, literal_bucket, computed_bucket}
use Rattle.logic_eval.proofs.Runs.{runs-gives, runs-faults, runs-cost, runs-bind}
use Rattle.logic_eval.specs.Evaluation.{bucket_meaning, bucket_meanings, meaning, pair, pairs, part_of}
use Rattle.logic_eval.specs.Fractional.{by_buckets, by_input, decided, entries_of, not_too_heavy}
use Rattle.logic_eval.specs.Run.{Run, gives, ◌>>=◌}
use Rattle.logic_values.specs.declared.fault.EvalFault.{EvalFault}
use Rattle.flag_doubts.proofs.Buckets.{weight_in, zero_of}
use Rattle.flag_doubts.proofs.Giving.{Anything, Gives, any}
use Rattle.flag_doubts.specs.Laws.{ABadWeightFaults, NoWeightGivesNull}
use Rattle.flag_doubts.specs.Weights.{are_too_heavy, are_weightless, has_bad_weight, is_no_weight, is_zero, literal_total, literal_weight}

-- these names and weights are no rule
abbrev NoEntries : List (Shape × Shape) → Type 0
NoEntries ps = entries_of ps ≡ None

named_without : (o : Option (List ℕ)) → option_and_then {U = List ℕ × ℕ} (λ s. None) o ≡ None
named_without None = refl
named_without (Some s) = refl

without_weight : (w : Option ℕ) (v : Shape) → w ≡ None → bucket_with w v ≡ None
without_weight w v e = ap (λ x. bucket_with x v) e ∙ named_without (as_text v)

none_first : (p : Shape × Shape) (ps : List (Shape × Shape)) → weight_of p.1 ≡ None → NoEntries (p ∷ ps)
none_first p ps e = ap (λ b. option_and_then (λ x. option_map (λ xs. x ∷ xs) (entries_of ps)) b) (without_weight (weight_of p.1) p.0 e)

more_without : (b : Option (List ℕ × ℕ)) → option_and_then {U = Entries} (λ x. None) b ≡ None
more_without None = refl
more_without (Some x) = refl

none_later : (p : Shape × Shape) (ps : List (Shape × Shape)) → NoEntries ps → NoEntries (p ∷ ps)
none_later p ps e = ap (λ o. option_and_then (λ x. option_map (λ xs. x ∷ xs) o) (bucket_with (weight_of p.1) p.0)) e ∙ more_without (bucket_with (weight_of p.1) p.0)

no_weight : (w : Option ℕ) → is_none w ≡ true → w ≡ None
no_weight None h = refl
no_weight (Some n) h = absurd (cc h)

module _ (d : Option (List ℕ)) (scope : Shape) where
  -- the value of a literal weight is that literal
  weight_given : (w : Expression) → is_no_weight w ≡ true → Gives (λ v. weight_of v ≡ None) (part_of w (meaning d w) scope)
  weight_given (literal t) h = runs-gives Anything (λ v. weight_of v ≡ None) t (no_weight (weight_of t) h)
  weight_given (list es) h = absurd (cc h)
  weight_given (operation o es) h = absurd (cc h)
  weight_given (fractional n b bs) h = absurd (cc h)

  passed : (b : Bucket) (bs : Buckets) → Gives NoEntries (pairs (bucket_meanings d bs) scope) → Gives NoEntries (pairs (bucket_meanings d (bucket b bs)) scope)
  passed b bs h =
      runs-bind Anything Anything NoEntries _ _ (any _) (λ p _. runs-bind Anything NoEntries NoEntries _ _ h (λ ps e. runs-gives Anything NoEntries (p ∷ ps) (none_later p ps e)))

  first_bad : (name weight : Expression) (bs : Buckets) → is_no_weight weight ≡ true → Gives NoEntries (pairs (bucket_meanings d (bucket (computed_bucket name weight) bs)) scope)
  first_bad name weight bs h =
      let Bad = λ (p : Shape × Shape). weight_of p.1 ≡ None in
      let one : Gives Bad (pair (bucket_meaning d (computed_bucket name weight)) scope) =
      runs-bind Anything Anything Bad _ _ (any _) (λ v _. runs-bind Anything (λ w. weight_of w ≡ None) Bad _ _ (weight_given weight h) (λ w e. runs-gives Anything Bad (v, w) e)) in
      runs-bind Anything Bad NoEntries _ _ one (λ p e. runs-bind Anything Anything NoEntries _ _ (any _) (λ ps _. runs-gives Anything NoEntries (p ∷ ps) (none_first p ps e)))

  bad_pairs : (bs : Buckets) → has_bad_weight bs ≡ true → Gives NoEntries (pairs (bucket_meanings d bs) scope)
  bad_pairs no_buckets h = absurd (cc h)
  bad_pairs (bucket (literal_bucket name weight) bs) h = passed (literal_bucket name weight) bs (bad_pairs bs h)
  bad_pairs (bucket (computed_bucket name weight) bs) h = go (λ k. passed (computed_bucket name weight) bs (bad_pairs bs k)) (is_no_weight weight) refl h
    where
      go : (has_bad_weight bs ≡ true → Gives NoEntries (pairs (bucket_meanings d (bucket (computed_bucket name weight) bs)) scope)) → (b : Bool) → is_no_weight weight ≡ b → (b || has_bad_weight bs) ≡ true
          → Gives NoEntries (pairs (bucket_meanings d (bucket (computed_bucket name weight) bs)) scope)
      go later true e k = first_bad name weight bs e
      go later false e k = later k

abbrev Never : Shape → Type 0
Never v = ⊥

no_value : (r : Run Shape) (v : Shape) → Gives Never r → r.ending ≢ Ok v
no_value r v h is = subst (λ e. IfOk e Never) is h.value

decided_badly : (n : ℕ) (i : Option (Result (List ℕ) EvalFault)) (ps : List (Shape × Shape)) → NoEntries ps → Gives Never (decided n i ps)
decided_badly n i ps e = subst (λ o. Gives Never (by_buckets n i o)) (sym (ap (option_and_then not_too_heavy) e)) (runs-faults Anything Never _)

-- ---- the total

both : (a b : Bool) → (a && b) ≡ true → (a ≡ true) × (b ≡ true)
both true b e = (refl, e)
both false b e = absurd (cc e)

-- the weight that a bucket comes to, if any, is no less than its literal one, and 0 where that is 0
abbrev Weighs : Bucket → Shape × Shape → Type 0
Weighs b p = (m : ℕ) → weight_of p.1 ≡ Some m → (unwrap_or (literal_weight b) 0 ≤ m) × (is_zero (literal_weight b) ≡ true → m ≡ 0)

abbrev Total : Buckets → List (Shape × Shape) → Type 0
Total bs ps = (es : Entries) → entries_of ps ≡ Some es → (literal_total bs ≤ total_weight es) × (are_weightless bs ≡ true → total_weight es ≡ 0)

no_total : Total no_buckets []
no_total es e = let is : [] ≡ es = cc e in (subst (λ (xs : Entries). 0 ≤ total_weight xs) is (omega arith), λ h. subst (λ (xs : Entries). total_weight xs ≡ 0) is refl)

total_on : (b : Bucket) (bs : Buckets) (p : Shape × Shape) (ps : List (Shape × Shape)) → Weighs b p → Total bs ps → Total (bucket b bs) (p ∷ ps)
total_on b bs p ps w t es e = go (bucket_with (weight_of p.1) p.0) refl (entries_of ps) refl e
  where
    go : (x : Option (List ℕ × ℕ)) → bucket_with (weight_of p.1) p.0 ≡ x → (o : Option Entries) → entries_of ps ≡ o → option_and_then (λ y. option_map (λ ys. y ∷ ys) o) x ≡ Some es
        → (literal_total (bucket b bs) ≤ total_weight es) × (are_weightless (bucket b bs) ≡ true → total_weight es ≡ 0)
    go None f o g k = absurd (cc k)
    go (Some x) f None g k = absurd (cc k)
    go (Some x) f (Some xs) g k =
        let is : x ∷ xs ≡ es = cc k in
        let first = w x.1 (weight_in (weight_of p.1) p.0 x f) in
        let rest = t xs g in
        let sum : total_weight es ≡ x.1 + total_weight xs = ap total_weight (sym is) ∙ total_weight-cons x xs in
        let least = first.0 in
        let later = rest.0 in (
          omega (arith, sum, least, later),
          λ h.
              let both_zero = both (is_zero (literal_weight b)) (are_weightless bs) h in
              let here = first.1 both_zero.0 in
              let there = rest.1 both_zero.1 in omega (arith, sum, here, there),
        )

below : (w m : ℕ) (b : Bool) → cond b (Some w) None ≡ Some m → w ≡ m
below w m true e = cc e
below w m false e = absurd (cc e)

weighs_so : (w m n : ℕ) → w ≡ m → n ≡ w → (n ≤ m) × (is_zero (Some n) ≡ true → m ≡ 0)
weighs_so w m n e f = (omega (arith, e, f), λ h. let z = zero_of n h in omega (arith, e, f, z))

module _ (d : Option (List ℕ)) (scope : Shape) where
  -- a pair of which the weight is such
  with_weight : (b : Bucket) (name weight : Run Shape) (P : Shape → Type 0) → Gives P weight → ((v w : Shape) → P w → Weighs b (v, w)) → Gives (Weighs b) (name >>= λ v. weight >>= λ w. gives (v, w))
  with_weight b name weight P h f = runs-bind Anything Anything (Weighs b) _ _ (any name) (λ v _. runs-bind Anything P (Weighs b) _ _ h (λ w p. runs-gives Anything (Weighs b) (v, w) (f v w p)))

  weighs : (b : Bucket) → Gives (Weighs b) (pair (bucket_meaning d b) scope)
  weighs (literal_bucket name weight) =
      with_weight (literal_bucket name weight) _ _ (λ w. w ≡ whole (pos weight)) (runs-gives Anything (λ w. w ≡ whole (pos weight)) (whole (pos weight)) refl)
      (λ v w is m e. weighs_so weight m weight (below weight m (nat_lt weight (2 ^ 31)) (ap weight_of (sym is) ∙ e)) refl)
  weighs (computed_bucket name (literal t)) =
      with_weight (computed_bucket name (literal t)) _ _ (λ w. w ≡ t) (runs-gives Anything (λ w. w ≡ t) t refl)
      (λ v w is m e. subst (λ (o : Option ℕ). (unwrap_or o 0 ≤ m) × (is_zero o ≡ true → m ≡ 0)) (sym (ap weight_of (sym is) ∙ e)) (weighs_so m m m refl refl))
  weighs (computed_bucket name (list es)) = with_weight (computed_bucket name (list es)) _ _ Anything (any _) (λ v w _ m e. (omega arith, λ h. absurd (cc h)))
  weighs (computed_bucket name (operation o es)) = with_weight (computed_bucket name (operation o es)) _ _ Anything (any _) (λ v w _ m e. (omega arith, λ h. absurd (cc h)))
  weighs (computed_bucket name (fractional n b bs)) = with_weight (computed_bucket name (fractional n b bs)) _ _ Anything (any _) (λ v w _ m e. (omega arith, λ h. absurd (cc h)))

  totals : (bs : Buckets) → Gives (Total bs) (pairs (bucket_meanings d bs) scope)
  totals no_buckets = runs-gives Anything (Total no_buckets) [] no_total
  totals (bucket b bs) =
      runs-bind Anything (Weighs b) (Total (bucket b bs)) _ _ (weighs b)
      (λ p w. runs-bind Anything (Total bs) (Total (bucket b bs)) _ _ (totals bs) (λ ps t. runs-gives Anything (Total (bucket b bs)) (p ∷ ps) (total_on b bs p ps w t)))

-- too heavy, they are no rule
no_rule : (bs : Buckets) (ps : List (Shape × Shape)) → are_too_heavy bs ≡ true → Total bs ps → option_and_then not_too_heavy (entries_of ps) ≡ None
no_rule bs ps heavy t = go (entries_of ps) refl
  where
    go : (o : Option Entries) → entries_of ps ≡ o → option_and_then not_too_heavy o ≡ None
    go None e = refl
    go (Some es) e =
        let most = leb-true (2 ^ 31) (literal_total bs) heavy in
        let more = (t es e).0 in
        let above : 2 ^ 31 ≤ total_weight es = omega (arith, most, more) in
        ap (λ b. cond b (Some es) None) (le-ltb (total_weight es) (2 ^ 31) above)

decided_heavily : (n : ℕ) (i : Option (Result (List ℕ) EvalFault)) (bs : Buckets) (ps : List (Shape × Shape)) → are_too_heavy bs ≡ true → Total bs ps → Gives Never (decided n i ps)
decided_heavily n i bs ps heavy t = subst (λ o. Gives Never (by_buckets n i o)) (sym (no_rule bs ps heavy t)) (runs-faults Anything Never _)

abbrev Null : Shape → Type 0
Null v = v ≡ null

taken : (b : Bool) (r s : Run Shape) → b ≡ true → Gives Null r → Gives Null (cond b r s)
taken true r s e h = h
taken false r s e h = absurd (cc e)

by_nothing : (n : ℕ) (i : Option (Result (List ℕ) EvalFault)) (es : Entries) → total_weight es ≡ 0 → Gives Null (by_input n i es)
by_nothing n None es z = runs-gives Anything Null null refl
by_nothing n (Some input) es z = taken (total_weight es == 0) _ _ (ap (λ w. w == 0) z) (runs-gives Anything Null null refl)

decided_null : (n : ℕ) (i : Option (Result (List ℕ) EvalFault)) (bs : Buckets) (ps : List (Shape × Shape)) → are_weightless bs ≡ true → Total bs ps → Gives Null (decided n i ps)
decided_null n i bs ps none t = go (entries_of ps) refl
  where
    light : (es : Entries) → total_weight es ≡ 0 → (b : Bool) → Gives Null (by_buckets n i (cond b (Some es) None))
    light es z true = by_nothing n i es z
    light es z false = runs-faults Anything Null _

    go : (o : Option Entries) → entries_of ps ≡ o → Gives Null (by_buckets n i (option_and_then not_too_heavy o))
    go None e = runs-faults Anything Null _
    go (Some es) e = light es ((t es e).1 none) (nat_lt (total_weight es) (2 ^ 31))

-- ---- the laws

-- what a site gives, by the values of its buckets
site_gives : (d : Option (List ℕ)) (n : ℕ) (b : By) (bs : Buckets) (scope : Shape) (B : List (Shape × Shape) → Type 0) (P : Shape → Type 0) → Gives B (pairs (bucket_meanings d bs) scope)
    → ((i : Option (Result (List ℕ) EvalFault)) (ps : List (Shape × Shape)) → B ps → Gives P (decided n i ps)) → Gives P (meaning d (fractional n b bs) scope)
site_gives d n b bs scope B P h f =
    runs-cost Anything P 1 _ (runs-bind Anything Anything P _ _ (any _) (λ i _. runs-bind Anything B P _ _ h (λ ps p. f i ps p)))

pub faulting : ABadWeightFaults
faulting d n b bs scope v h = no_value _ v (go (has_bad_weight bs) refl h)
  where
    go : (c : Bool) → has_bad_weight bs ≡ c → (c || are_too_heavy bs) ≡ true → Gives Never (meaning d (fractional n b bs) scope)
    go true e k = site_gives d n b bs scope NoEntries Never (bad_pairs d scope bs e) (λ i ps p. decided_badly n i ps p)
    go false e k = site_gives d n b bs scope (Total bs) Never (totals d scope bs) (λ i ps t. decided_heavily n i bs ps k t)

pub null_given : NoWeightGivesNull
null_given d n b bs scope v none is =
    subst (λ e. IfOk e Null) is (site_gives d n b bs scope (Total bs) Null (totals d scope bs) (λ i ps t. decided_null n i bs ps none t)).value
