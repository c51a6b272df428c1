-- Where one site gets another rule that chooses alike, an evaluation is the same but for the totals of that site.
use Rattle.std.proofs.Common.{◌≡◌, ℕ, suc, ◌+◌, ◌-◌, ◌<◌, ◌≤◌, ◌^◌, Bool, true, false, not, ◌==◌, cond, nat_lt, List, [], ◌∷◌, ◌++◌, eqb-true, Option, Some, None, Result, Ok, Err, refl, sym, ap, ◌∙◌, subst, append-nil, arith, inl, inr}
use Rattle.std.specs.List.{Contains}
use Rattle.std.proofs.lemmas.Bool.{cases_lt}
use Rattle.std.proofs.lemmas.Grind.{common_steps}
use Rattle.std.proofs.lemmas.List.Elements.{Contains-append_left, Contains-append_right}
use Rattle.bucket_core.specs.Rule.{Entries, total_weight, choice}
use Rattle.flag_text.specs.Shape.{Shape, null, boolean, text, list}
use Rattle.flag_text.specs.View.{items_of}
use Rattle.flag_text.proofs.Bools.{left, right}
use Rattle.logic_ast.specs.Expression.{Expression, literal, operation, fractional, Expressions, no_expressions, expression, By, no_by, by, Buckets, no_buckets, bucket, Bucket, literal_bucket, computed_bucket}
use Rattle.logic_ast.specs.Expression as ast
use Rattle.logic_ast.specs.Formed.{is_list, expression_count, are_literals, is_formed, are_formed, by_is_formed, buckets_are_formed, bucket_is_formed}
use Rattle.logic_ast.specs.Operator.{takes}
use Rattle.logic_ast.specs.Sites.{Site, sites, sites_in_by, sites_in_bucket, preorder, preorder_in, preorder_in_by, preorder_in_buckets, entries_of, literal_buckets, with_entries, all_with_entries, by_with_entries, buckets_with_entries, bucket_with_entries}
use Rattle.logic_ast.specs.declared.operator.Operator.{Operator}
use Rattle.logic_ast.specs.declared.operator.Operator.TheVariants as op
use Rattle.logic_ast.proofs.Replaced.{entries_of-literal}
use Rattle.logic_values.specs.declared.fault.EvalFault.{EvalFault}
use Rattle.logic_values.specs.Comparison.{bool_eq}
use Rattle.logic_eval.specs.Evaluation.{part_of, pairs, input, meaning, meanings, operands, operand_meaning, by_meaning, bucket_meanings}
use Rattle.logic_eval.specs.Fractional.{buckets_of, chosen, reached, by_input, by_buckets, decided, given_input, made_input}
use Rattle.logic_eval.specs.Laws.{with_total, paid_for}
use Rattle.logic_values.specs.Lists.{items_in}
use Rattle.logic_eval.specs.Operators.{Meaning, values, variable_run, strict, conditional, first_of_truth, mapped, kept, occurs, is_empty, reduced, over_items, over, start, over_from_start, found_decimal, compares, with_tests, with_early_tests, asked, operated, applied_exactly}
use Rattle.logic_values.specs.Objects.{reduce_scope}
use Rattle.logic_eval.specs.Run.{Reach, Entry, Run, cost, reach, ends, gives, after, after_trace, continues, ◌>>=◌, reached_of, units_of}
use Rattle.logic_eval.specs.Scope.{size, variable}
use Rattle.logic_values.specs.Truth.{is_true}
use Rattle.logic_eval.proofs.Branching.{literal_site}
use Rattle.logic_eval.proofs.Budgets.{reached_of-append, units_of-append}

-- the inputs of site n choose alike
abbrev pub Agree : ℕ → Entries → Entries → List Reach → Type 0
Agree n old new [] = Unit {0}
Agree n old new (r ∷ rs) = (r.site ≡ n → choice new r.input ≡ choice old r.input) × Agree n old new rs

abbrev pub retraced : ℕ → ℕ → List Entry → List Entry
retraced n total [] = []
retraced n total (cost k ∷ t) = cost k ∷ retraced n total t
retraced n total (reach r ∷ t) = reach (with_total n total r) ∷ retraced n total t

abbrev pub run_of : {A : Type 0} → List Entry → Result A EvalFault → Run A
run_of t e = record { trace = t; ending = e }

-- the second run is the first with the new totals where the units pay for the first, and costs more than them where the first does
abbrev pub Follows : ℕ → ℕ → {A : Type 0} → ℕ → Run A → Run A → Type 0
Follows n total l r s = (units_of r.trace ≤ l → s ≡ run_of (retraced n total r.trace) r.ending) × (l < units_of r.trace → l < units_of s.trace)

-- the second run follows the first as far as the inputs choose alike that are reached with these units
pub record Same (n : ℕ) (old new : Entries) {A : Type 0} (r s : Run A) : Type 0 where
  pub same : (l : ℕ) → Agree n old new (reached_of (paid_for l r.trace)) → Follows n (total_weight new) l r s

paid_for-all : (l : ℕ) (t u : List Entry) → units_of t ≤ l → paid_for l (t ++ u) ≡ t ++ paid_for (l - units_of t) u
paid_for-all l [] u h = let e : l ≡ l - 0 = omega arith in ap (λ m. paid_for m u) e
paid_for-all l (cost k ∷ t) u h =
    let more : nat_lt l k ≡ false = grind arith in
    let rest : l - k - units_of t ≡ l - (k + units_of t) = omega arith in
    rw more (ap (λ x. cost k ∷ x) (paid_for-all (l - k) t u (omega arith) ∙ ap (λ m. t ++ paid_for m u) rest))
paid_for-all l (reach r ∷ t) u h = ap (λ x. reach r ∷ x) (paid_for-all l t u h)

pub paid_for-whole : (l : ℕ) (t : List Entry) → units_of t ≤ l → paid_for l t ≡ t
paid_for-whole l t h = ap (paid_for l) (sym (append-nil t)) ∙ (paid_for-all l t [] h ∙ append-nil t)

paid_for-part : (l : ℕ) (t u : List Entry) → l < units_of t → paid_for l (t ++ u) ≡ paid_for l t
paid_for-part l [] u h = absurd (omega arith)
paid_for-part l (cost k ∷ t) u h = elim (cases_lt l k) [
  | inl less ↦ let e : nat_lt l k ≡ true = grind arith in rw e refl
  | inr more ↦ let e : nat_lt l k ≡ false = grind arith in rw e (ap (λ x. cost k ∷ x) (paid_for-part (l - k) t u (omega arith)))
]
paid_for-part l (reach r ∷ t) u h = ap (λ x. reach r ∷ x) (paid_for-part l t u h)

pub units-retraced : (n total : ℕ) (t : List Entry) → units_of (retraced n total t) ≡ units_of t
units-retraced n total [] = refl
units-retraced n total (cost k ∷ t) = ap (λ u. k + u) (units-retraced n total t)
units-retraced n total (reach r ∷ t) = units-retraced n total t

-- what comes next costs no less
longer : {A B : Type 0} (t : List Entry) (e : Result A EvalFault) (f : A → Run B) → units_of t ≤ units_of (continues t e f).trace
longer t (Ok v) f = omega (arith, units_of-append t (f v).trace)
longer t (Err x) f = omega arith

retraced-append : (n total : ℕ) (t u : List Entry) → retraced n total (t ++ u) ≡ retraced n total t ++ retraced n total u
retraced-append n total [] u = refl
retraced-append n total (cost k ∷ t) u = ap (λ x. cost k ∷ x) (retraced-append n total t u)
retraced-append n total (reach r ∷ t) u = ap (λ x. reach (with_total n total r) ∷ x) (retraced-append n total t u)

unequal : (a k n : ℕ) → (a == k) ≡ true → n < k → (a == n) ≡ false
unequal a k n h e = grind (arith, common_steps, h, e)

module _ (n : ℕ) (old new : Entries) where
  agree-left : (xs ys : List Reach) → Agree n old new (xs ++ ys) → Agree n old new xs
  agree-left [] ys a = tt
  agree-left (x ∷ xs) ys a = (a.0, agree-left xs ys a.1)

  agree-right : (xs ys : List Reach) → Agree n old new (xs ++ ys) → Agree n old new ys
  agree-right [] ys a = a
  agree-right (x ∷ xs) ys a = agree-right xs ys a.1

  same-ends : {A : Type 0} (e : Result A EvalFault) → Same n old new (ends e) (ends e)
  unfolding ends
  same-ends e = record { same = λ l a. ((λ le. refl), (λ lt. lt)) }

  same-gives : {A : Type 0} (v : A) → Same n old new (gives v) (gives v)
  same-gives v = same-ends (Ok v)

  same-cost : {A : Type 0} (k : ℕ) (r s : Run A) → Same n old new r s → Same n old new (after (cost k) r) (after (cost k) s)
  unfolding after
  same-cost {A} k r s h = record { same = λ l a. go l (nat_lt l k) refl a }
    where
      go : (l : ℕ) (b : Bool) → nat_lt l k ≡ b → Agree n old new (reached_of (cond b [] (cost k ∷ paid_for (l - k) r.trace)))
          → Follows n (total_weight new) l (run_of (cost k ∷ r.trace) r.ending) (run_of (cost k ∷ s.trace) s.ending)
      go l true is a = let less : l < k = grind (arith, is) in ((λ le. absurd (omega arith)), (λ lt. omega arith))
      go l false is a =
          let more : k ≤ l = grind (arith, is) in
          let rest = h.same (l - k) a in
          ((λ le. ap (λ x. run_of (cost k ∷ x.trace) x.ending) (rest.0 (omega arith))), (λ lt. let far : l - k < units_of s.trace = rest.1 (omega arith) in omega arith))

  same-bind : {A B : Type 0} (r s : Run A) (f g : A → Run B) → Same n old new r s → ((v : A) → Same n old new (f v) (g v)) → Same n old new (r >>= f) (s >>= g)
  unfolding ◌>>=◌
  same-bind {A} {B} r s f g h k = record { same = go r.trace r.ending h.same }
    where
      go : (t : List Entry) (e : Result A EvalFault) → ((l : ℕ) → Agree n old new (reached_of (paid_for l t)) → Follows n (total_weight new) l (run_of t e) s)
          → (l : ℕ) → Agree n old new (reached_of (paid_for l (continues t e f).trace)) → Follows n (total_weight new) l (continues t e f) (continues s.trace s.ending g)
      go t (Ok v) is l a = elim (cases_lt l (units_of t)) [
        | inl less ↦
            let far : l < units_of s.trace = (is l (subst (λ x. Agree n old new (reached_of x)) (paid_for-part l t (f v).trace less) a)).1 less in
            ((λ le. absurd (omega (arith, units_of-append t (f v).trace))), (λ lt. omega (arith, longer s.trace s.ending g)))
        | inr more ↦
            let rest = paid_for (l - units_of t) (f v).trace in
            let both : Agree n old new (reached_of t ++ reached_of rest) =
            subst (Agree n old new) (ap reached_of (paid_for-all l t (f v).trace more) ∙ reached_of-append t rest) a in
            let start : Agree n old new (reached_of (paid_for l t)) = subst (λ x. Agree n old new (reached_of x)) (sym (paid_for-whole l t more)) (agree-left (reached_of t) (reached_of rest) both) in
            let first : s ≡ run_of (retraced n (total_weight new) t) (Ok v) = (is l start).0 more in
            let second = (k v).same (l - units_of t) (agree-right (reached_of t) (reached_of rest) both) in
            let next : continues s.trace s.ending g ≡ after_trace (retraced n (total_weight new) t) (g v) = ap (λ x. continues x.trace x.ending g) first in
            let cost_next : units_of (continues s.trace s.ending g).trace ≡ units_of t + units_of (g v).trace =
            ap (λ x. units_of x.trace) next ∙ (units_of-append (retraced n (total_weight new) t) (g v).trace ∙ ap (λ m. m + units_of (g v).trace) (units-retraced n (total_weight new) t)) in (
              (λ le. next ∙ (ap (after_trace (retraced n (total_weight new) t)) (second.0 (omega (arith, units_of-append t (f v).trace)))
                  ∙ ap (λ u. run_of u (f v).ending) (sym (retraced-append n (total_weight new) t (f v).trace)))),
              (λ lt. let far : l - units_of t < units_of (g v).trace = second.1 (omega (arith, units_of-append t (f v).trace)) in omega (arith, cost_next)),
            )
      ]
      go t (Err x) is l a =
          let first = is l a in
          ((λ le. ap (λ x. continues x.trace x.ending g) (first.0 le)), (λ lt. let far : l < units_of s.trace = first.1 lt in omega (arith, longer s.trace s.ending g)))

  -- an expression whose sites have greater numbers is as it was
  mutual
    unchanged : (k : ℕ) (e : Expression) → is_formed k e ≡ true → n < k → with_entries n new e ≡ e
    unchanged k (literal t) h less = refl
    unchanged k (ast.list es) h less = ap ast.list (all-unchanged k es h less)
    unchanged k (operation o es) h less = ap (operation o) (all-unchanged k es (right (takes o (expression_count es)) _ h) less)
    unchanged k (fractional m b bs) h less =
        let parts = right (m == k) _ h in
        rw (
          unequal m k n (left (m == k) _ h) less,
          by-unchanged (suc k) b (left (by_is_formed (suc k) b) _ parts) (omega arith),
          buckets-unchanged (suc k + sites_in_by b) bs (right (by_is_formed (suc k) b) _ parts) (omega arith),
        ) refl

    all-unchanged : (k : ℕ) (es : Expressions) → are_formed k es ≡ true → n < k → all_with_entries n new es ≡ es
    all-unchanged k no_expressions h less = refl
    all-unchanged k (expression e es) h less =
        rw (unchanged k e (left (is_formed k e) _ h) less, all-unchanged (k + sites e) es (right (is_formed k e) _ h) (omega arith)) refl

    by-unchanged : (k : ℕ) (b : By) → by_is_formed k b ≡ true → n < k → by_with_entries n new b ≡ b
    by-unchanged k no_by h less = refl
    by-unchanged k (by e) h less = ap by (unchanged k e (right (not (is_list e)) _ h) less)

    buckets-unchanged : (k : ℕ) (bs : Buckets) → buckets_are_formed k bs ≡ true → n < k → buckets_with_entries n new bs ≡ bs
    buckets-unchanged k no_buckets h less = refl
    buckets-unchanged k (bucket b bs) h less =
        rw (bucket-unchanged k b (left (bucket_is_formed k b) _ h) less, buckets-unchanged (k + sites_in_bucket b) bs (right (bucket_is_formed k b) _ h) (omega arith)) refl

    bucket-unchanged : (k : ℕ) (b : Bucket) → bucket_is_formed k b ≡ true → n < k → bucket_with_entries n new b ≡ b
    bucket-unchanged k (literal_bucket name weight) h less = refl
    bucket-unchanged k (computed_bucket name weight) h less =
        let formed = right (not (are_literals name weight)) _ h in
        rw (unchanged k name (left (is_formed k name) _ formed) less, unchanged (k + sites name) weight (right (is_formed k name) _ formed) (omega arith)) refl

  before : (m k : ℕ) → (m == k) ≡ true → m ≡ n → n < suc k
  before m k e is = let same = eqb-true m k e in omega arith

  -- a run that reaches site m, which is another
  same-reach : (m : ℕ) (s : List ℕ) (total : ℕ) (r : Run Shape) → (m == n) ≡ false → Same n old new r r → Same n old new (after (reach (record { site = m; input = s; total = total })) r) (after (reach (record { site = m; input = s; total = total })) r)
  unfolding after
  same-reach m s total r other h = record { same = λ l a. let rest = h.same l a.1 in ((λ le. rw other (ap (λ x. run_of (reach (record { site = m; input = s; total = total }) ∷ x.trace) x.ending) (rest.0 le))), (λ lt. lt)) }

  same-if : {A : Type 0} (b : Bool) (r s u v : Run A) → Same n old new r u → Same n old new s v → Same n old new (cond b r s) (cond b u v)
  same-if true r s u v h k = h
  same-if false r s u v h k = k

  -- meanings that give the same, one by one
  abbrev pub AllSame : List Meaning → List Meaning → Type 0
  AllSame [] [] = Unit {0}
  AllSame [] (p ∷ ps) = ⊥
  AllSame (m ∷ ms) [] = ⊥
  AllSame (m ∷ ms) (p ∷ ps) = ((scope : Shape) → Same n old new (m scope) (p scope)) × AllSame ms ps

  same-values : (ms ps : List Meaning) → AllSame ms ps → (scope : Shape) → Same n old new (values ms scope) (values ps scope)
  same-values [] [] ks scope = same-gives []
  same-values [] (p ∷ ps) ks scope = absurd ks
  same-values (m ∷ ms) [] ks scope = absurd ks
  same-values (m ∷ ms) (p ∷ ps) ks scope = same-bind _ _ _ _ (ks.0 scope) (λ v. same-bind _ _ _ _ (same-values ms ps ks.1 scope) (λ vs. same-gives (v ∷ vs)))

  same-conditional : (ms ps : List Meaning) → AllSame ms ps → (scope : Shape) → Same n old new (conditional ms scope) (conditional ps scope)
  same-conditional [] [] ks scope = same-gives null
  same-conditional [] (p ∷ ps) ks scope = absurd ks
  same-conditional (m ∷ ms) [] ks scope = absurd ks
  same-conditional (m ∷ []) (p ∷ []) ks scope = ks.0 scope
  same-conditional (m ∷ []) (p ∷ q ∷ ps) ks scope = absurd ks.1
  same-conditional (m ∷ r ∷ ms) (p ∷ []) ks scope = absurd ks.1
  same-conditional (m ∷ r ∷ ms) (p ∷ q ∷ ps) ks scope =
      same-bind _ _ _ _ (ks.0 scope) (λ v. same-if (is_true v) _ _ _ _ (ks.1.0 scope) (same-conditional ms ps ks.1.1 scope))

  same-first : (b : Bool) (ms ps : List Meaning) → AllSame ms ps → (scope : Shape) → Same n old new (first_of_truth b ms scope) (first_of_truth b ps scope)
  same-first b [] [] ks scope = same-gives null
  same-first b [] (p ∷ ps) ks scope = absurd ks
  same-first b (m ∷ ms) [] ks scope = absurd ks
  same-first b (m ∷ []) (p ∷ []) ks scope = ks.0 scope
  same-first b (m ∷ []) (p ∷ q ∷ ps) ks scope = absurd ks.1
  same-first b (m ∷ r ∷ ms) (p ∷ []) ks scope = absurd ks.1
  same-first b (m ∷ r ∷ ms) (p ∷ q ∷ ps) ks scope =
      same-bind _ _ _ _ (ks.0 scope) (λ v. same-if (bool_eq b (is_true v)) _ _ _ _ (same-gives v) (same-first b (r ∷ ms) (q ∷ ps) ks.1 scope))

  module _ (body other : Meaning) (k : (scope : Shape) → Same n old new (body scope) (other scope)) where
    same-mapped : (ts : List Shape) → Same n old new (mapped body ts) (mapped other ts)
    same-mapped [] = same-gives []
    same-mapped (t ∷ ts) = same-bind _ _ _ _ (k t) (λ v. same-bind _ _ _ _ (same-mapped ts) (λ vs. same-gives (v ∷ vs)))

    same-kept : (ts : List Shape) → Same n old new (kept body ts) (kept other ts)
    same-kept [] = same-gives []
    same-kept (t ∷ ts) = same-bind _ _ _ _ (k t) (λ v. same-bind _ _ _ _ (same-kept ts) (λ vs. same-gives (cond (is_true v) (t ∷ vs) vs)))

    same-occurs : (b : Bool) (ts : List Shape) → Same n old new (occurs b body ts) (occurs b other ts)
    same-occurs b [] = same-gives false
    same-occurs b (t ∷ ts) = same-bind _ _ _ _ (k t) (λ v. same-if (bool_eq b (is_true v)) _ _ _ _ (same-gives true) (same-occurs b ts))

    same-reduced : (so_far : Shape) (ts : List Shape) → Same n old new (reduced body so_far ts) (reduced other so_far ts)
    same-reduced so_far [] = same-gives so_far
    same-reduced so_far (t ∷ ts) = same-bind _ _ _ _ (k (reduce_scope so_far t)) (λ v. same-reduced v ts)

    same-over_items : (o : Operator) (ts : List Shape) → Same n old new (over_items o body ts) (over_items o other ts)
    same-over_items op.Map ts = same-bind _ _ _ _ (same-mapped ts) (λ vs. same-gives (list (items_of vs)))
    same-over_items op.Filter ts = same-bind _ _ _ _ (same-kept ts) (λ vs. same-gives (list (items_of vs)))
    same-over_items op.AllOf ts = same-if (is_empty ts) _ _ _ _ (same-gives (boolean false)) (same-bind _ _ _ _ (same-occurs false ts) (λ b. same-gives (boolean (not b))))
    same-over_items op.SomeOf ts = same-bind _ _ _ _ (same-occurs true ts) (λ b. same-gives (boolean b))
    same-over_items op.NoneOf ts = same-bind _ _ _ _ (same-occurs true ts) (λ b. same-gives (boolean (not b)))
    same-over_items o ts = same-gives null

  same-over : (o : Operator) (ms ps : List Meaning) → AllSame ms ps → (scope : Shape) → Same n old new (over o ms scope) (over o ps scope)
  same-over o [] [] ks scope = same-gives null
  same-over o [] (p ∷ ps) ks scope = absurd ks
  same-over o (m ∷ ms) [] ks scope = absurd ks
  same-over o (m ∷ []) (p ∷ []) ks scope = same-gives null
  same-over o (m ∷ []) (p ∷ q ∷ ps) ks scope = absurd ks.1
  same-over o (m ∷ r ∷ ms) (p ∷ []) ks scope = absurd ks.1
  same-over o (m ∷ r ∷ ms) (p ∷ q ∷ ps) ks scope = same-bind _ _ _ _ (ks.0 scope) (λ v. same-over_items r q ks.1.0 o (items_in v))

  same-start : (ms ps : List Meaning) → AllSame ms ps → (scope : Shape) → Same n old new (start ms scope) (start ps scope)
  same-start [] [] ks scope = same-gives null
  same-start [] (p ∷ ps) ks scope = absurd ks
  same-start (m ∷ ms) [] ks scope = absurd ks
  same-start (m ∷ ms) (p ∷ ps) ks scope = ks.0 scope

  same-reduce : (ms ps : List Meaning) → AllSame ms ps → (scope : Shape) → Same n old new (over_from_start ms scope) (over_from_start ps scope)
  same-reduce [] [] ks scope = same-gives null
  same-reduce [] (p ∷ ps) ks scope = absurd ks
  same-reduce (m ∷ ms) [] ks scope = absurd ks
  same-reduce (m ∷ []) (p ∷ []) ks scope = same-gives null
  same-reduce (m ∷ []) (p ∷ q ∷ ps) ks scope = absurd ks.1
  same-reduce (m ∷ r ∷ ms) (p ∷ []) ks scope = absurd ks.1
  same-reduce (m ∷ r ∷ ms) (p ∷ q ∷ ps) ks scope =
      same-bind _ _ _ _ (ks.0 scope) (λ v. same-bind _ _ _ _ (same-start ms ps ks.1.1 scope) (λ u. same-reduced r q ks.1.0 u (items_in v)))

  same-strict : (o : Operator) (ms ps : List Meaning) → AllSame ms ps → (scope : Shape) → Same n old new (strict o ms scope) (strict o ps scope)
  same-strict o ms ps ks scope = same-bind _ _ _ _ (same-values ms ps ks scope) (λ vs. same-ends (applied_exactly o scope vs))

  same-variable : (ms ps : List Meaning) → AllSame ms ps → (scope : Shape) → Same n old new (variable_run ms scope) (variable_run ps scope)
  same-variable ms ps ks scope =
      same-bind _ _ _ _ (same-values ms ps ks scope) (λ vs. same-bind _ _ _ _ (same-cost (size (variable scope vs)) _ _ (same-gives (variable scope vs))) (λ v. same-ends _))

  -- a `var` that is compared or tested
  same-operand : (ms ps : List Meaning) → AllSame ms ps → (scope : Shape)
      → Same n old new (after (cost 1) (values ms scope >>= λ vs. found_decimal (variable scope vs))) (after (cost 1) (values ps scope >>= λ vs. found_decimal (variable scope vs)))
  same-operand ms ps ks scope =
      same-cost 1 _ _ (same-bind _ _ _ _ (same-values ms ps ks scope) (λ vs. same-bind _ _ _ _ (same-cost (size (variable scope vs)) _ _ (same-gives (variable scope vs))) (λ v. same-ends _)))

  same-operated : (o : Operator) (ms ps : List Meaning) → AllSame ms ps → (scope : Shape) → Same n old new (operated o ms scope) (operated o ps scope)
  same-operated op.Var ms ps ks scope = same-variable ms ps ks scope
  same-operated op.If ms ps ks scope = same-conditional ms ps ks scope
  same-operated op.And ms ps ks scope = same-first false ms ps ks scope
  same-operated op.Or ms ps ks scope = same-first true ms ps ks scope
  same-operated op.Map ms ps ks scope = same-over op.Map ms ps ks scope
  same-operated op.Filter ms ps ks scope = same-over op.Filter ms ps ks scope
  same-operated op.AllOf ms ps ks scope = same-over op.AllOf ms ps ks scope
  same-operated op.SomeOf ms ps ks scope = same-over op.SomeOf ms ps ks scope
  same-operated op.NoneOf ms ps ks scope = same-over op.NoneOf ms ps ks scope
  same-operated op.Reduce ms ps ks scope = same-reduce ms ps ks scope
  same-operated o ms ps ks scope = same-strict o ms ps ks scope

  module _ (d : Option (List ℕ)) where
    abbrev pub W : Expression → Expression
    W e = with_entries n new e

    abbrev pub WS : Expressions → Expressions
    WS es = all_with_entries n new es

    -- alike, also where they are compared or tested
    abbrev pub Alike : Expression → Type 0
    Alike e = ((scope : Shape) → Same n old new (meaning d e scope) (meaning d (W e) scope)) × ((scope : Shape) → Same n old new (operand_meaning d e scope) (operand_meaning d (W e) scope))

    abbrev pub AllAlike : Expressions → Type 0
    AllAlike no_expressions = Unit {0}
    AllAlike (expression e es) = Alike e × AllAlike es

    pub meanings-alike : (es : Expressions) → AllAlike es → AllSame (meanings d es) (meanings d (WS es))
    meanings-alike no_expressions ks = tt
    meanings-alike (expression e es) ks = (ks.0.0, meanings-alike es ks.1)

    operands-alike : (es : Expressions) → AllAlike es → AllSame (operands d es) (operands d (WS es))
    operands-alike no_expressions ks = tt
    operands-alike (expression e es) ks = (ks.0.1, operands-alike es ks.1)

    tests-alike : (es : Expressions) → AllAlike es → AllSame (with_tests (meanings d es) (operands d es)) (with_tests (meanings d (WS es)) (operands d (WS es)))
    tests-alike no_expressions ks = tt
    tests-alike (expression e no_expressions) ks = (ks.0.0, tt)
    tests-alike (expression e (expression f es)) ks = (ks.0.1, (ks.1.0.0, tests-alike es ks.1.1))

    early-alike : (es : Expressions) → AllAlike es → AllSame (with_early_tests (meanings d es) (operands d es)) (with_early_tests (meanings d (WS es)) (operands d (WS es)))
    early-alike no_expressions ks = tt
    early-alike (expression e no_expressions) ks = (ks.0.0, tt)
    early-alike (expression e (expression f es)) ks = (ks.0.1, early-alike (expression f es) ks.1)

    compared-alike : (b : Bool) (es : Expressions) → AllAlike es → AllSame (cond b (operands d es) (meanings d es)) (cond b (operands d (WS es)) (meanings d (WS es)))
    compared-alike true es ks = operands-alike es ks
    compared-alike false es ks = meanings-alike es ks

    asked-alike : (o : Operator) (es : Expressions) → AllAlike es → AllSame (asked o (meanings d es) (operands d es)) (asked o (meanings d (WS es)) (operands d (WS es)))
    asked-alike op.If es ks = tests-alike es ks
    asked-alike op.And es ks = early-alike es ks
    asked-alike o es ks = compared-alike (compares o) es ks

    abbrev pub SameIf : Option Meaning → Option Meaning → Shape → Type 0
    SameIf None None scope = Unit {0}
    SameIf None (Some p) scope = ⊥
    SameIf (Some m) None scope = ⊥
    SameIf (Some m) (Some p) scope = Same n old new (m scope) (p scope)

    same-input : (o p : Option Meaning) (scope : Shape) → SameIf o p scope → Same n old new (input d o scope) (input d p scope)
    same-input None None scope k = same-gives (made_input d)
    same-input None (Some p) scope k = absurd k
    same-input (Some m) None scope k = absurd k
    same-input (Some m) (Some p) scope k = same-bind _ _ _ _ k (λ v. same-gives (given_input v))

  same-chosen : (o : Option (List ℕ)) → Same n old new (chosen o) (chosen o)
  same-chosen None = same-gives null
  same-chosen (Some name) = same-gives (text name)

  -- another site decides as it did
  same-decided : (m : ℕ) (i : Option (Result (List ℕ) EvalFault)) (ps : List (Shape × Shape)) → (m == n) ≡ false → Same n old new (decided m i ps) (decided m i ps)
  same-decided m i ps other = go (buckets_of ps) i
    where
      go : (o : Option Entries) (j : Option (Result (List ℕ) EvalFault)) → Same n old new (by_buckets m j o) (by_buckets m j o)
      go None j = same-ends _
      go (Some r) None = same-gives null
      go (Some r) (Some j) = same-if (total_weight r == 0) _ _ _ _ (same-gives null) (same-bind _ _ _ _ (same-ends j) (λ s. same-reach m s (total_weight r) _ other (same-chosen (choice r s))))

  -- the site that gets the new rule
  module _ (some_old : 0 < total_weight old) (some_new : 0 < total_weight new) where
    same-reached : (s : List ℕ) → Same n old new (reached n old s) (reached n new s)
    unfolding after
    same-reached s = record {
      same = λ l a.
          let here : (n == n) ≡ true = grind arith in
          let chosen_same = (same-chosen (choice old s)).same l a.1 in
          ((λ le. rw (here, a.0 refl) (ap (λ x. run_of (reach (record { site = n; input = s; total = total_weight new }) ∷ x.trace) x.ending) (chosen_same.0 le))), (λ lt. rw (a.0 refl) lt));
    }

    same-by_input : (i : Option (Result (List ℕ) EvalFault)) → Same n old new (by_input n i old) (by_input n i new)
    same-by_input None = same-gives null
    same-by_input (Some i) =
        let a : (total_weight old == 0) ≡ false = grind arith in
        let b : (total_weight new == 0) ≡ false = grind arith in
        rw (a, b) (same-bind _ _ _ _ (same-ends i) same-reached)

    -- a site, by whether it is the one that gets the new rule
    module _ (small_old : total_weight old < 2 ^ 31) (small_new : total_weight new < 2 ^ 31) where
      same_runs : {A : Type 0} (r s u v : Run A) → r ≡ u → s ≡ v → Same n old new u v → Same n old new r s
      same_runs r s u v p q h = rw (p, q) h

      same-site : (d : Option (List ℕ)) (m : ℕ) (b : By) (bs : Buckets) (scope : Shape) (c : Bool) → (m == n) ≡ c
          → Same n old new (input d (by_meaning d b) scope) (input d (by_meaning d (by_with_entries n new b)) scope)
          → Same n old new (pairs (bucket_meanings d bs) scope) (pairs (bucket_meanings d (buckets_with_entries n new bs)) scope)
          → (m ≡ n → by_with_entries n new b ≡ b) → (m ≡ n → entries_of bs ≡ Some old)
          → Same n old new (meaning d (fractional m b bs) scope) (meaning d (cond c (fractional m b (literal_buckets new)) (fractional m (by_with_entries n new b) (buckets_with_entries n new bs))) scope)
      same-site d m b bs scope false e inputs all kept known = same-cost 1 _ _ (same-bind _ _ _ _ inputs (λ i. same-bind _ _ _ _ all (λ ps. same-decided m i ps e)))
      same-site d m b bs scope true e inputs all kept known =
          let is : m ≡ n = eqb-true m n e in
          let one : Same n old new (input d (by_meaning d b) scope) (input d (by_meaning d b) scope) = rw (kept is) at inputs in
          same_runs _ _ _ _ (literal_site d m b bs old scope (known is) small_old) (literal_site d m b (literal_buckets new) new scope (entries_of-literal new) small_new)
          (same-cost 1 _ _ (same-bind _ _ _ _ one (λ i. rw is (same-by_input i))))

      same-part : (d : Option (List ℕ)) (e : Expression) (scope : Shape) → Same n old new (meaning d e scope) (meaning d (with_entries n new e) scope)
          → Same n old new (part_of e (meaning d e) scope) (part_of (with_entries n new e) (meaning d (with_entries n new e)) scope)
      same-part d (literal t) scope k = same-gives t
      same-part d (ast.list es) scope k = k
      same-part d (operation o es) scope k = k
      same-part d (fractional m b bs) scope k = go (m == n) k
        where
          go : (c : Bool) → Same n old new (meaning d (fractional m b bs) scope) (meaning d (cond c (fractional m b (literal_buckets new)) (fractional m (by_with_entries n new b) (buckets_with_entries n new bs))) scope)
              → Same n old new (meaning d (fractional m b bs) scope)
              (part_of (cond c (fractional m b (literal_buckets new)) (fractional m (by_with_entries n new b) (buckets_with_entries n new bs)))
              (meaning d (cond c (fractional m b (literal_buckets new)) (fractional m (by_with_entries n new b) (buckets_with_entries n new bs)))) scope)
          go true k = k
          go false k = k

      -- a site is no `var`, with its new rule or without
      site-operand : (d : Option (List ℕ)) (m : ℕ) (b : By) (bs : Buckets) (c : Bool) (scope : Shape)
          → Same n old new (meaning d (fractional m b bs) scope) (meaning d (cond c (fractional m b (literal_buckets new)) (fractional m (by_with_entries n new b) (buckets_with_entries n new bs))) scope)
          → Same n old new (operand_meaning d (fractional m b bs) scope) (operand_meaning d (cond c (fractional m b (literal_buckets new)) (fractional m (by_with_entries n new b) (buckets_with_entries n new bs))) scope)
      site-operand d m b bs true scope one = one
      site-operand d m b bs false scope one = one

      abbrev pub Known : List Site → Type 0
      Known ss = (s : Site) → Contains ss s → s.number ≡ n → entries_of s.buckets ≡ Some old

      known-left : (xs ys : List Site) → Known (xs ++ ys) → Known xs
      known-left xs ys a s i = a s (Contains-append_left xs ys s i)

      known-right : (xs ys : List Site) → Known (xs ++ ys) → Known ys
      known-right xs ys a s i = a s (Contains-append_right xs ys s i)

      mutual
        pub alike : (d : Option (List ℕ)) (k : ℕ) (e : Expression) → is_formed k e ≡ true → Known (preorder e) → (scope : Shape) → Same n old new (meaning d e scope) (meaning d (with_entries n new e) scope)
        alike d k (literal t) h a scope = same-cost (size t) _ _ (same-gives t)
        alike d k (ast.list es) h a scope = same-cost 1 _ _ (same-bind _ _ _ _ (same-values _ _ (meanings-alike d es (all-alike d k es h a)) scope) (λ vs. same-gives (list (items_of vs))))
        alike d k (operation o es) h a scope = same-cost 1 _ _ (same-operated o _ _ (asked-alike d o es (all-alike d k es (right (takes o (expression_count es)) _ h) a)) scope)
        alike d k (fractional m b bs) h a scope =
            let parts = right (m == k) _ h in
            let here : Site = record { number = m; bucketing = b; buckets = bs } in
            let inner = preorder_in_by b ++ preorder_in_buckets bs in
            let below : Known inner = known-right (here ∷ []) inner a in
            same-site d m b bs scope (m == n) refl
            (same-input d (by_meaning d b) (by_meaning d (by_with_entries n new b)) scope (by-alike d (suc k) b (left (by_is_formed (suc k) b) _ parts) (known-left (preorder_in_by b) _ below) scope))
            (pairs-alike d (suc k + sites_in_by b) bs (right (by_is_formed (suc k) b) _ parts) (known-right (preorder_in_by b) _ below) scope)
            (λ is. by-unchanged (suc k) b (left (by_is_formed (suc k) b) _ parts) (before m k (left (m == k) _ h) is))
            (λ is. a here (0, (omega arith), refl) is)

        all-alike : (d : Option (List ℕ)) (k : ℕ) (es : Expressions) → are_formed k es ≡ true → Known (preorder_in es) → AllAlike d es
        all-alike d k no_expressions h a = tt
        all-alike d k (expression e es) h a =
            let one = alike d k e (left (is_formed k e) _ h) (known-left (preorder e) _ a) in
            ((one, operand-alike d k e (left (is_formed k e) _ h) (known-left (preorder e) _ a) one), all-alike d (k + sites e) es (right (is_formed k e) _ h) (known-right (preorder e) _ a))

        -- the same where it is compared or tested, given what it is where it is not
        operand-alike : (d : Option (List ℕ)) (k : ℕ) (e : Expression) → is_formed k e ≡ true → Known (preorder e) → ((scope : Shape) → Same n old new (meaning d e scope) (meaning d (with_entries n new e) scope))
            → (scope : Shape) → Same n old new (operand_meaning d e scope) (operand_meaning d (with_entries n new e) scope)
        operand-alike d k (literal t) h a one scope = one scope
        operand-alike d k (ast.list es) h a one scope = one scope
        operand-alike d k (operation op.Var es) h a one scope = same-operand (meanings d es) (meanings d (all_with_entries n new es)) (meanings-alike d es (all-alike d k es (right (takes op.Var (expression_count es)) _ h) a)) scope
        operand-alike d k (operation op.And es) h a one scope = same-cost 1 _ _ (same-first false _ _ (operands-alike d es (all-alike d k es (right (takes op.And (expression_count es)) _ h) a)) scope)
        operand-alike d k (operation op.Or es) h a one scope = same-cost 1 _ _ (same-first true _ _ (operands-alike d es (all-alike d k es (right (takes op.Or (expression_count es)) _ h) a)) scope)
        operand-alike d k (operation o es) h a one scope = one scope
        operand-alike d k (fractional m b bs) h a one scope = site-operand d m b bs (m == n) scope (one scope)

        by-alike : (d : Option (List ℕ)) (k : ℕ) (b : By) → by_is_formed k b ≡ true → Known (preorder_in_by b) → (scope : Shape) → SameIf d (by_meaning d b) (by_meaning d (by_with_entries n new b)) scope
        by-alike d k no_by h a scope = tt
        by-alike d k (by e) h a scope = alike d k e (right (not (is_list e)) _ h) a scope

        pairs-alike : (d : Option (List ℕ)) (k : ℕ) (bs : Buckets) → buckets_are_formed k bs ≡ true → Known (preorder_in_buckets bs) → (scope : Shape)
            → Same n old new (pairs (bucket_meanings d bs) scope) (pairs (bucket_meanings d (buckets_with_entries n new bs)) scope)
        pairs-alike d k no_buckets h a scope = same-gives []
        pairs-alike d k (bucket (literal_bucket name weight) bs) h a scope =
            same-bind _ _ _ _ (same-bind _ _ _ _ (same-gives _) (λ v. same-bind _ _ _ _ (same-gives _) (λ u. same-gives {A = Shape × Shape} (v, u))))
            (λ one. same-bind _ _ _ _ (pairs-alike d (k + 0) bs (right (nat_lt weight (2 ^ 31)) _ h) a scope) (λ rest. same-gives (one ∷ rest)))
        pairs-alike d k (bucket (computed_bucket name weight) bs) h a scope =
            let formed = right (not (are_literals name weight)) _ (left (bucket_is_formed k (computed_bucket name weight)) _ h) in
            let inner : Known (preorder name ++ preorder weight) = known-left (preorder name ++ preorder weight) _ a in
            same-bind _ _ _ _
            (same-bind _ _ _ _ (same-part d name scope (alike d k name (left (is_formed k name) _ formed) (known-left (preorder name) _ inner) scope))
            (λ v. same-bind _ _ _ _ (same-part d weight scope (alike d (k + sites name) weight (right (is_formed k name) _ formed) (known-right (preorder name) _ inner) scope))
            (λ u. same-gives {A = Shape × Shape} (v, u))))
            (λ one. same-bind _ _ _ _ (pairs-alike d (k + sites_in_bucket (computed_bucket name weight)) bs (right (bucket_is_formed k (computed_bucket name weight)) _ h) (known-right (preorder name ++ preorder weight) _ a) scope)
            (λ rest. same-gives (one ∷ rest)))
