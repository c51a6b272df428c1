-- What an expression evaluates to in a whole scope is whole, and what it reaches is of its sites.
use Rattle.std.proofs.Common.{◌≡◌, ℕ, suc, ◌+◌, ◌^◌, pos, Bool, true, false, not, ◌==◌, cond, nat_lt, List, [], ◌∷◌, ◌++◌, Option, Some, None, option_map, Result, Ok, Err, refl, sym, ap, ◌∙◌, arith}
use Rattle.std.specs.Prelude.{IfOk, IfSome}
use Rattle.std.specs.List.{Contains}
use Rattle.std.proofs.lemmas.List.Elements.{Contains-append_left, Contains-append_right}
use Rattle.bucket_core.specs.Rule.{Entries, total_weight, choice}
use Rattle.flag_text.specs.Shape.{Shape, null, boolean, whole, text, list, is_whole, is_tidy}
use Rattle.flag_text.specs.View.{items_of}
use Rattle.flag_text.proofs.Bools.{both, left, right}
use Rattle.logic_ast.specs.Expression.{Expression, literal, operation, fractional, Expressions, no_expressions, expression, By, no_by, by, Buckets, no_buckets, bucket, Bucket, literal_bucket, computed_bucket}
use Rattle.logic_ast.specs.Expression as ast
use Rattle.logic_ast.specs.Formed.{is_literal, is_list, expression_count, are_literals, is_formed, are_formed, by_is_formed, buckets_are_formed, bucket_is_formed}
use Rattle.logic_ast.specs.Operator.{takes}
use Rattle.logic_ast.specs.Sites.{Site, sites, sites_in_by, sites_in_bucket, preorder, preorder_in, preorder_in_by, preorder_in_buckets, entries_of}
use Rattle.logic_ast.specs.declared.operator.Operator.{Operator}
use Rattle.logic_ast.specs.declared.operator.Operator.TheVariants as op
use Rattle.logic_values.specs.declared.fault.EvalFault.{EvalFault}
use Rattle.logic_values.specs.Comparison.{bool_eq}
use Rattle.logic_eval.specs.Evaluation.{part_of, pairs, input, meaning, meanings, operands, operand_meaning, by_meaning, bucket_meanings}
use Rattle.logic_eval.specs.Fractional as buckets
use Rattle.logic_eval.specs.Fractional.{buckets_of, not_too_heavy, chosen, reached, by_input, by_buckets, decided, given_input, made_input}
use Rattle.logic_values.specs.Lists.{items_in}
use Rattle.logic_eval.specs.Operators.{Meaning, values, variable_run, strict, conditional, first_of_truth, mapped, kept, occurs, is_empty, all_of, reduced, over_items, over, start, over_from_start, found_decimal, compares, with_tests, with_early_tests, asked, operated, applied_exactly}
use Rattle.logic_values.specs.Objects.{reduce_scope}
use Rattle.logic_eval.specs.Run.{Reach, Run, cost, gives, after, ◌>>=◌}
use Rattle.logic_eval.specs.Scope.{size, variable}
use Rattle.logic_values.specs.Truth.{is_true}
use Rattle.logic_eval.proofs.Choices.{buckets_entries}
use Rattle.logic_eval.proofs.Runs.{Runs, runs-ends, runs-gives, runs-faults, runs-cost, runs-reach, runs-bind}
use Rattle.logic_eval.proofs.Tidy.{tidy_whole}
use Rattle.logic_eval.proofs.WholeValues.{IsWhole, are_whole, are_whole-items_in, IsTidy, variable-tidy, read-whole, is_operand, IsOperand, AreOperands, operand-whole, false-whole, read_decimal-operand, applied_exactly-whole, reduce_scope-tidy}

-- an entry of a site
pub record IsReachOf (s : Site) (r : Reach) : Type 0 where
  pub number : r.site ≡ s.number
  pub total : (es : Entries) → entries_of s.buckets ≡ Some es → r.total ≡ total_weight es

abbrev pub AreWhole : List Shape → Type 0
AreWhole vs = are_whole vs ≡ true

abbrev pub Anything : {A : Type 0} → A → Type 0
Anything v = Unit {0}

-- the buckets of these names and weights are the entries, where they are literal
abbrev pub Spells : Buckets → List (Shape × Shape) → Type 0
Spells bs ps = (es : Entries) → entries_of bs ≡ Some es → buckets.entries_of ps ≡ Some es

module _ (Q : Reach → Type 0) where
  -- in a tidy scope it gives a whole value, and each site that it reaches has Q
  abbrev pub Keeps : Meaning → Type 0
  Keeps m = (scope : Shape) → is_tidy scope ≡ true → Runs IsWhole Q (m scope)

  abbrev pub AllKeep : List Meaning → Type 0
  AllKeep [] = Unit {0}
  AllKeep (m ∷ ms) = Keeps m × AllKeep ms

  keeps-values : (ms : List Meaning) (scope : Shape) → AllKeep ms → is_tidy scope ≡ true → Runs AreWhole Q (values ms scope)
  keeps-values [] scope ks w = runs-gives Q AreWhole [] refl
  keeps-values (m ∷ ms) scope ks w =
      runs-bind Q IsWhole AreWhole _ _ (ks.0 scope w) (λ v p. runs-bind Q AreWhole AreWhole _ _ (keeps-values ms scope ks.1 w) (λ vs ps. runs-gives Q AreWhole (v ∷ vs) (both (is_whole v) _ p ps)))

  keeps-variable : (ms : List Meaning) → AllKeep ms → Keeps (variable_run ms)
  keeps-variable ms ks scope w =
      runs-bind Q AreWhole IsWhole _ _ (keeps-values ms scope ks w)
      (λ vs ps. runs-bind Q IsTidy IsWhole _ _ (runs-cost Q IsTidy (size (variable scope vs)) _ (runs-gives Q IsTidy (variable scope vs) (variable-tidy scope vs w ps)))
      (λ v p. runs-ends Q IsWhole _ (read-whole v p)))

  -- the same where it is compared or tested: there it may give a decimal, too
  abbrev pub KeepsOperand : Meaning → Type 0
  KeepsOperand m = (scope : Shape) → is_tidy scope ≡ true → Runs IsOperand Q (m scope)

  abbrev pub AllKeepOperands : List Meaning → Type 0
  AllKeepOperands [] = Unit {0}
  AllKeepOperands (m ∷ ms) = KeepsOperand m × AllKeepOperands ms

  as-operand : {r : Run Shape} → Runs IsWhole Q r → Runs IsOperand Q r
  as-operand {r} h = record { value = go r.ending h.value; reached = h.reached }
    where
      go : (j : Result Shape EvalFault) → IfOk j IsWhole → IfOk j IsOperand
      go (Ok v) p = operand-whole v p
      go (Err f) p = tt

  as-operands : (ms : List Meaning) → AllKeep ms → AllKeepOperands ms
  as-operands [] ks = tt
  as-operands (m ∷ ms) ks = ((λ scope w. as-operand (ks.0 scope w)), as-operands ms ks.1)

  keeps-operand_values : (ms : List Meaning) (scope : Shape) → AllKeepOperands ms → is_tidy scope ≡ true → Runs AreOperands Q (values ms scope)
  keeps-operand_values [] scope ks w = runs-gives Q AreOperands [] refl
  keeps-operand_values (m ∷ ms) scope ks w =
      runs-bind Q IsOperand AreOperands _ _ (ks.0 scope w)
      (λ v p. runs-bind Q AreOperands AreOperands _ _ (keeps-operand_values ms scope ks.1 w) (λ vs ps. runs-gives Q AreOperands (v ∷ vs) (both (is_operand v) _ p ps)))

  keeps-operand_variable : (ms : List Meaning) → AllKeep ms → KeepsOperand (λ scope. after (cost 1) (values ms scope >>= λ vs. found_decimal (variable scope vs)))
  keeps-operand_variable ms ks scope w =
      runs-cost Q IsOperand 1 _ (runs-bind Q AreWhole IsOperand _ _ (keeps-values ms scope ks w)
      (λ vs ps. runs-bind Q IsTidy IsOperand _ _ (runs-cost Q IsTidy (size (variable scope vs)) _ (runs-gives Q IsTidy (variable scope vs) (variable-tidy scope vs w ps)))
      (λ v p. runs-ends Q IsOperand _ (read_decimal-operand v p))))

  keeps-strict : (o : Operator) (ms : List Meaning) → AllKeepOperands ms → Keeps (strict o ms)
  keeps-strict o ms ks scope w =
      runs-bind Q AreOperands IsWhole _ _ (keeps-operand_values ms scope ks w) (λ vs ps. runs-ends Q IsWhole (applied_exactly o scope vs) (applied_exactly-whole o scope vs ps))

  keeps-if : (b : Bool) (r s : Run Shape) → Runs IsWhole Q r → Runs IsWhole Q s → Runs IsWhole Q (cond b r s)
  keeps-if true r s h k = h
  keeps-if false r s h k = k

  -- the arguments of `if`, whose tests may give decimals
  abbrev pub TestsKeep : List Meaning → Type 0
  TestsKeep [] = Unit {0}
  TestsKeep (last ∷ []) = Keeps last
  TestsKeep (test ∷ result ∷ rest) = KeepsOperand test × (Keeps result × TestsKeep rest)

  as-tests : (ms : List Meaning) → AllKeep ms → TestsKeep ms
  as-tests [] ks = tt
  as-tests (last ∷ []) ks = ks.0
  as-tests (test ∷ result ∷ rest) ks = ((λ scope w. as-operand (ks.0 scope w)), (ks.1.0, as-tests rest ks.1.1))

  tests-keep : (ms operands : List Meaning) → AllKeep ms → AllKeepOperands operands → TestsKeep (with_tests ms operands)
  tests-keep [] operands ks js = tt
  tests-keep (last ∷ []) operands ks js = ks.0
  tests-keep (test ∷ result ∷ rest) [] ks js = as-tests (test ∷ result ∷ rest) ks
  tests-keep (test ∷ result ∷ rest) (t ∷ []) ks js = as-tests (test ∷ result ∷ rest) ks
  tests-keep (test ∷ result ∷ rest) (t ∷ u ∷ operands) ks js = (js.0, (ks.1.0, tests-keep rest operands ks.1.1 js.1.1))

  keeps-conditional : (ms : List Meaning) → TestsKeep ms → Keeps (conditional ms)
  keeps-conditional [] ks scope w = runs-gives Q IsWhole null refl
  keeps-conditional (last ∷ []) ks scope w = ks scope w
  keeps-conditional (test ∷ result ∷ rest) ks scope w =
      runs-bind Q IsOperand IsWhole _ _ (ks.0 scope w) (λ v p. keeps-if (is_true v) _ _ (ks.1.0 scope w) (keeps-conditional rest ks.1.1 scope w))

  keeps-first_of_truth : (b : Bool) (ms : List Meaning) → AllKeep ms → Keeps (first_of_truth b ms)
  keeps-first_of_truth b [] ks scope w = runs-gives Q IsWhole null refl
  keeps-first_of_truth b (last ∷ []) ks scope w = ks.0 scope w
  keeps-first_of_truth b (m ∷ next ∷ rest) ks scope w =
      runs-bind Q IsWhole IsWhole _ _ (ks.0 scope w) (λ v p. keeps-if (bool_eq b (is_true v)) _ _ (runs-gives Q IsWhole v p) (keeps-first_of_truth b (next ∷ rest) ks.1 scope w))

  -- `and` and `or` where they are compared or tested: each argument may give a decimal
  keeps-operand_if : (b : Bool) (r s : Run Shape) → Runs IsOperand Q r → Runs IsOperand Q s → Runs IsOperand Q (cond b r s)
  keeps-operand_if true r s h k = h
  keeps-operand_if false r s h k = k

  keeps-first_operand : (b : Bool) (ms : List Meaning) → AllKeepOperands ms → KeepsOperand (first_of_truth b ms)
  keeps-first_operand b [] ks scope w = runs-gives Q IsOperand null refl
  keeps-first_operand b (last ∷ []) ks scope w = ks.0 scope w
  keeps-first_operand b (m ∷ next ∷ rest) ks scope w =
      runs-bind Q IsOperand IsOperand _ _ (ks.0 scope w) (λ v p. keeps-operand_if (bool_eq b (is_true v)) _ _ (runs-gives Q IsOperand v p) (keeps-first_operand b (next ∷ rest) ks.1 scope w))

  -- the arguments of `and`, of which all but the last may give decimals
  abbrev pub EarlyKeep : List Meaning → Type 0
  EarlyKeep [] = Unit {0}
  EarlyKeep (last ∷ []) = Keeps last
  EarlyKeep (m ∷ next ∷ rest) = KeepsOperand m × EarlyKeep (next ∷ rest)

  as-early : (ms : List Meaning) → AllKeep ms → EarlyKeep ms
  as-early [] ks = tt
  as-early (last ∷ []) ks = ks.0
  as-early (m ∷ next ∷ rest) ks = ((λ scope w. as-operand (ks.0 scope w)), as-early (next ∷ rest) ks.1)

  early-keep : (ms operands : List Meaning) → AllKeep ms → AllKeepOperands operands → EarlyKeep (with_early_tests ms operands)
  early-keep [] operands ks js = tt
  early-keep (m ∷ ms) [] ks js = as-early (m ∷ ms) ks
  early-keep (m ∷ []) (t ∷ operands) ks js = ks.0
  early-keep (m ∷ next ∷ rest) (t ∷ []) ks js = (js.0, as-early (next ∷ rest) ks.1)
  early-keep (m ∷ next ∷ rest) (t ∷ u ∷ operands) ks js = (js.0, early-keep (next ∷ rest) (u ∷ operands) ks.1 js.1)

  -- a value that counts as false ends it, and is whole
  keeps-and_next : (v : Shape) (rest : Run Shape) (b : Bool) → is_operand v ≡ true → is_true v ≡ b → Runs IsWhole Q rest → Runs IsWhole Q (cond (bool_eq false b) (gives v) rest)
  keeps-and_next v rest true p e k = k
  keeps-and_next v rest false p e k = runs-gives Q IsWhole v (false-whole v p e)

  keeps-and : (ms : List Meaning) → EarlyKeep ms → Keeps (first_of_truth false ms)
  keeps-and [] ks scope w = runs-gives Q IsWhole null refl
  keeps-and (last ∷ []) ks scope w = ks scope w
  keeps-and (m ∷ next ∷ rest) ks scope w =
      runs-bind Q IsOperand IsWhole _ _ (ks.0 scope w) (λ v p. keeps-and_next v _ (is_true v) p refl (keeps-and (next ∷ rest) ks.1 scope w))

  module _ (body : Meaning) (k : Keeps body) where
    keeps-mapped : (ts : List Shape) → AreWhole ts → Runs AreWhole Q (mapped body ts)
    keeps-mapped [] w = runs-gives Q AreWhole [] refl
    keeps-mapped (t ∷ ts) w =
        runs-bind Q IsWhole AreWhole _ _ (k t (tidy_whole t (left (is_whole t) _ w)))
        (λ v p. runs-bind Q AreWhole AreWhole _ _ (keeps-mapped ts (right (is_whole t) _ w)) (λ vs ps. runs-gives Q AreWhole (v ∷ vs) (both (is_whole v) _ p ps)))

    kept-whole : (b : Bool) (t : Shape) (vs : List Shape) → is_whole t ≡ true → AreWhole vs → AreWhole (cond b (t ∷ vs) vs)
    kept-whole true t vs p ps = both (is_whole t) _ p ps
    kept-whole false t vs p ps = ps

    keeps-kept : (ts : List Shape) → AreWhole ts → Runs AreWhole Q (kept body ts)
    keeps-kept [] w = runs-gives Q AreWhole [] refl
    keeps-kept (t ∷ ts) w =
        runs-bind Q IsWhole AreWhole _ _ (k t (tidy_whole t (left (is_whole t) _ w)))
        (λ v p. runs-bind Q AreWhole AreWhole _ _ (keeps-kept ts (right (is_whole t) _ w)) (λ vs ps. runs-gives Q AreWhole (cond (is_true v) (t ∷ vs) vs) (kept-whole (is_true v) t vs (left (is_whole t) _ w) ps)))

    keeps-occurs_if : (b : Bool) (r s : Run Bool) → Runs Anything Q r → Runs Anything Q s → Runs Anything Q (cond b r s)
    keeps-occurs_if true r s h j = h
    keeps-occurs_if false r s h j = j

    keeps-occurs : (wanted : Bool) (ts : List Shape) → AreWhole ts → Runs Anything Q (occurs wanted body ts)
    keeps-occurs wanted [] w = runs-gives Q Anything false tt
    keeps-occurs wanted (t ∷ ts) w =
        runs-bind Q IsWhole Anything _ _ (k t (tidy_whole t (left (is_whole t) _ w)))
        (λ v p. keeps-occurs_if (bool_eq wanted (is_true v)) _ _ (runs-gives Q Anything true tt) (keeps-occurs wanted ts (right (is_whole t) _ w)))

    keeps-all_of : (ts : List Shape) → AreWhole ts → Runs IsWhole Q (all_of body ts)
    keeps-all_of ts w = keeps-if (is_empty ts) _ _ (runs-gives Q IsWhole (boolean false) refl) (runs-bind Q Anything IsWhole _ _ (keeps-occurs false ts w) (λ b p. runs-gives Q IsWhole (boolean (not b)) refl))

    keeps-reduced : (so_far : Shape) (ts : List Shape) → is_whole so_far ≡ true → AreWhole ts → Runs IsWhole Q (reduced body so_far ts)
    keeps-reduced so_far [] h w = runs-gives Q IsWhole so_far h
    keeps-reduced so_far (t ∷ ts) h w =
        runs-bind Q IsWhole IsWhole _ _ (k (reduce_scope so_far t) (reduce_scope-tidy so_far t h (left (is_whole t) _ w)))
        (λ v p. keeps-reduced v ts p (right (is_whole t) _ w))

    keeps-over_items : (o : Operator) (ts : List Shape) → AreWhole ts → Runs IsWhole Q (over_items o body ts)
    keeps-over_items op.Map ts w = runs-bind Q AreWhole IsWhole _ _ (keeps-mapped ts w) (λ vs ps. runs-gives Q IsWhole (list (items_of vs)) ps)
    keeps-over_items op.Filter ts w = runs-bind Q AreWhole IsWhole _ _ (keeps-kept ts w) (λ vs ps. runs-gives Q IsWhole (list (items_of vs)) ps)
    keeps-over_items op.AllOf ts w = keeps-all_of ts w
    keeps-over_items op.SomeOf ts w = runs-bind Q Anything IsWhole _ _ (keeps-occurs true ts w) (λ b p. runs-gives Q IsWhole (boolean b) refl)
    keeps-over_items op.NoneOf ts w = runs-bind Q Anything IsWhole _ _ (keeps-occurs true ts w) (λ b p. runs-gives Q IsWhole (boolean (not b)) refl)
    keeps-over_items o ts w = runs-gives Q IsWhole null refl

  keeps-over : (o : Operator) (ms : List Meaning) → AllKeep ms → Keeps (over o ms)
  keeps-over o [] ks scope w = runs-gives Q IsWhole null refl
  keeps-over o (items ∷ []) ks scope w = runs-gives Q IsWhole null refl
  keeps-over o (items ∷ body ∷ rest) ks scope w =
      runs-bind Q IsWhole IsWhole _ _ (ks.0 scope w) (λ v p. keeps-over_items body ks.1.0 o (items_in v) (are_whole-items_in v p))

  keeps-start : (ms : List Meaning) → AllKeep ms → Keeps (start ms)
  keeps-start [] ks scope w = runs-gives Q IsWhole null refl
  keeps-start (m ∷ ms) ks scope w = ks.0 scope w

  keeps-reduce : (ms : List Meaning) → AllKeep ms → Keeps (over_from_start ms)
  keeps-reduce [] ks scope w = runs-gives Q IsWhole null refl
  keeps-reduce (items ∷ []) ks scope w = runs-gives Q IsWhole null refl
  keeps-reduce (items ∷ body ∷ rest) ks scope w =
      runs-bind Q IsWhole IsWhole _ _ (ks.0 scope w)
      (λ v p. runs-bind Q IsWhole IsWhole _ _ (keeps-start rest ks.1.1 scope w) (λ u q. keeps-reduced body ks.1.0 u (items_in v) q (are_whole-items_in v p)))

  compared-keep : (b : Bool) (ms operands : List Meaning) → AllKeep ms → AllKeepOperands operands → AllKeepOperands (cond b operands ms)
  compared-keep true ms operands ks js = js
  compared-keep false ms operands ks js = as-operands ms ks

  keeps-operated : (o : Operator) (ms operands : List Meaning) → AllKeep ms → AllKeepOperands operands → Keeps (operated o (asked o ms operands))
  keeps-operated op.Var ms operands ks js = keeps-variable ms ks
  keeps-operated op.If ms operands ks js = keeps-conditional (with_tests ms operands) (tests-keep ms operands ks js)
  keeps-operated op.And ms operands ks js = keeps-and (with_early_tests ms operands) (early-keep ms operands ks js)
  keeps-operated op.Or ms operands ks js = keeps-first_of_truth true ms ks
  keeps-operated op.Map ms operands ks js = keeps-over op.Map ms ks
  keeps-operated op.Filter ms operands ks js = keeps-over op.Filter ms ks
  keeps-operated op.AllOf ms operands ks js = keeps-over op.AllOf ms ks
  keeps-operated op.SomeOf ms operands ks js = keeps-over op.SomeOf ms ks
  keeps-operated op.NoneOf ms operands ks js = keeps-over op.NoneOf ms ks
  keeps-operated op.Reduce ms operands ks js = keeps-reduce ms ks
  keeps-operated o ms operands ks js = keeps-strict o (cond (compares o) operands ms) (compared-keep (compares o) ms operands ks js)

  -- ---- a site

  keeps-chosen : (o : Option (List ℕ)) → Runs IsWhole Q (chosen o)
  keeps-chosen None = runs-gives Q IsWhole null refl
  keeps-chosen (Some name) = runs-gives Q IsWhole (text name) refl

  keeps-by_input : (n : ℕ) (i : Option (Result (List ℕ) EvalFault)) (r : Entries) → ((s : List ℕ) → Q (record { site = n; input = s; total = total_weight r })) → Runs IsWhole Q (by_input n i r)
  keeps-by_input n None r q = runs-gives Q IsWhole null refl
  keeps-by_input n (Some i) r q =
      keeps-if (total_weight r == 0) _ _ (runs-gives Q IsWhole null refl)
      (runs-bind Q Anything IsWhole _ _ (runs-ends Q Anything i (known i)) (λ s p. runs-reach Q IsWhole _ _ (q s) (keeps-chosen (choice r s))))
    where
      known : (j : Result (List ℕ) EvalFault) → IfOk j Anything
      known (Ok s) = tt
      known (Err f) = tt

  keeps-decided : (n : ℕ) (i : Option (Result (List ℕ) EvalFault)) (ps : List (Shape × Shape)) → ((r : Entries) → buckets.entries_of ps ≡ Some r → (s : List ℕ) → Q (record { site = n; input = s; total = total_weight r }))
      → Runs IsWhole Q (decided n i ps)
  keeps-decided n i ps q = go (buckets_of ps) refl
    where
      go : (o : Option Entries) → buckets_of ps ≡ o → Runs IsWhole Q (by_buckets n i o)
      go None e = runs-faults Q IsWhole _
      go (Some r) e = keeps-by_input n i r (q r (buckets_entries ps r e))

  keeps-input : (default : Option (List ℕ)) (o : Option Meaning) (scope : Shape) → IfSome o (λ m. Runs IsWhole Q (m scope)) → Runs Anything Q (input default o scope)
  keeps-input default None scope k = runs-gives Q Anything (made_input default) tt
  keeps-input default (Some m) scope k = runs-bind Q IsWhole Anything _ _ k (λ v p. runs-gives Q Anything (given_input v) tt)

  -- ---- an expression: each entry of its sites has Q

  abbrev pub Allows : List Site → Type 0
  Allows ss = (s : Site) → Contains ss s → (r : Reach) → IsReachOf s r → Q r

  allows-left : (xs ys : List Site) → Allows (xs ++ ys) → Allows xs
  allows-left xs ys a s i = a s (Contains-append_left xs ys s i)

  allows-right : (xs ys : List Site) → Allows (xs ++ ys) → Allows ys
  allows-right xs ys a s i = a s (Contains-append_right xs ys s i)

  spells-literal : (name : List ℕ) (weight : ℕ) (bs : Buckets) (ps : List (Shape × Shape)) → nat_lt weight (2 ^ 31) ≡ true → Spells bs ps
      → Spells (bucket (literal_bucket name weight) bs) ((text name, whole (pos weight)) ∷ ps)
  spells-literal name weight bs ps h k es e = go (entries_of bs) refl e
    where
      go : (o : Option Entries) → entries_of bs ≡ o → option_map (λ rest. (name, weight) ∷ rest) o ≡ Some es
          → buckets.entries_of ((text name, whole (pos weight)) ∷ ps) ≡ Some es
      go None f g = absurd (cc)
      go (Some rest) f g = rw (h, k rest f) g

  forget : {r : Run Shape} → Runs IsWhole Q r → Runs Anything Q r
  forget {r} h = record { value = go r.ending; reached = h.reached }
    where
      go : (j : Result Shape EvalFault) → IfOk j Anything
      go (Ok s) = tt
      go (Err f) = tt

  keeps-part : (e : Expression) (m : Meaning) (scope : Shape) → Runs IsWhole Q (m scope) → Runs Anything Q (part_of e m scope)
  keeps-part (literal t) m scope k = runs-gives Q Anything t tt
  keeps-part (ast.list es) m scope k = forget k
  keeps-part (operation o es) m scope k = forget k
  keeps-part (fractional n b bs) m scope k = forget k

  mutual
    pub keeps-meaning : (default : Option (List ℕ)) (k : ℕ) (e : Expression) → is_formed k e ≡ true → Allows (preorder e) → Keeps (meaning default e)
    keeps-meaning default k (literal t) h a scope w = runs-cost Q IsWhole (size t) _ (runs-gives Q IsWhole t (right (is_literal t) _ h))
    keeps-meaning default k (ast.list es) h a scope w =
        runs-cost Q IsWhole 1 _ (runs-bind Q AreWhole IsWhole _ _ (keeps-values (meanings default es) scope (keep-meanings default k es h a) w) (λ vs ps. runs-gives Q IsWhole (list (items_of vs)) ps))
    keeps-meaning default k (operation o es) h a scope w =
        let formed = right (takes o (expression_count es)) _ h in
        runs-cost Q IsWhole 1 _ (keeps-operated o (meanings default es) (operands default es) (keep-meanings default k es formed a) (keep-operands default k es formed a) scope w)
    keeps-meaning default k (fractional n b bs) h a scope w =
        let parts = right (n == k) _ h in
        let here : Site = record { number = n; bucketing = b; buckets = bs } in
        let inner = preorder_in_by b ++ preorder_in_buckets bs in
        let below : Allows inner = allows-right (here ∷ []) inner a in
        runs-cost Q IsWhole 1 _
        (runs-bind Q Anything IsWhole _ _
        (keeps-input default (by_meaning default b) scope (keeps-by default (suc k) b (left (by_is_formed (suc k) b) _ parts) (allows-left (preorder_in_by b) _ below) scope w))
        (λ i p. runs-bind Q (Spells bs) IsWhole _ _
        (keeps-pairs default (suc k + sites_in_by b) bs (right (by_is_formed (suc k) b) _ parts) (allows-right (preorder_in_by b) _ below) scope w)
        (λ ps spelled. keeps-decided n i ps (λ r e s. a here (0, (omega arith), refl) _ (record { number = refl; total = λ es f. ap total_weight (same r es (sym e ∙ spelled es f)) })))))
      where
        same : (r es : Entries) → Some r ≡ Some es → r ≡ es
        same r es e = cc

    keep-meanings : (default : Option (List ℕ)) (k : ℕ) (es : Expressions) → are_formed k es ≡ true → Allows (preorder_in es) → AllKeep (meanings default es)
    keep-meanings default k no_expressions h a = tt
    keep-meanings default k (expression e es) h a =
        (keeps-meaning default k e (left (is_formed k e) _ h) (allows-left (preorder e) _ a), keep-meanings default (k + sites e) es (right (is_formed k e) _ h) (allows-right (preorder e) _ a))

    keep-operands : (default : Option (List ℕ)) (k : ℕ) (es : Expressions) → are_formed k es ≡ true → Allows (preorder_in es) → AllKeepOperands (operands default es)
    keep-operands default k no_expressions h a = tt
    keep-operands default k (expression e es) h a =
        let formed = left (is_formed k e) _ h in
        let below = allows-left (preorder e) _ a in
        (keeps-operand default k e formed below (keeps-meaning default k e formed below), keep-operands default (k + sites e) es (right (is_formed k e) _ h) (allows-right (preorder e) _ a))

    -- given what it gives where it is not compared or tested
    keeps-operand : (default : Option (List ℕ)) (k : ℕ) (e : Expression) → is_formed k e ≡ true → Allows (preorder e) → Keeps (meaning default e) → KeepsOperand (operand_meaning default e)
    keeps-operand default k (literal t) h a one scope w = as-operand (one scope w)
    keeps-operand default k (ast.list es) h a one scope w = as-operand (one scope w)
    keeps-operand default k (operation op.Var es) h a one scope w =
        keeps-operand_variable (meanings default es) (keep-meanings default k es (right (takes op.Var (expression_count es)) _ h) a) scope w
    keeps-operand default k (operation op.And es) h a one scope w =
        runs-cost Q IsOperand 1 _ (keeps-first_operand false (operands default es) (keep-operands default k es (right (takes op.And (expression_count es)) _ h) a) scope w)
    keeps-operand default k (operation op.Or es) h a one scope w =
        runs-cost Q IsOperand 1 _ (keeps-first_operand true (operands default es) (keep-operands default k es (right (takes op.Or (expression_count es)) _ h) a) scope w)
    keeps-operand default k (operation o es) h a one scope w = as-operand (one scope w)
    keeps-operand default k (fractional n b bs) h a one scope w = as-operand (one scope w)

    keeps-by : (default : Option (List ℕ)) (k : ℕ) (b : By) → by_is_formed k b ≡ true → Allows (preorder_in_by b) → (scope : Shape) → is_tidy scope ≡ true → IfSome (by_meaning default b) (λ m. Runs IsWhole Q (m scope))
    keeps-by default k no_by h a scope w = tt
    keeps-by default k (by e) h a scope w = keeps-meaning default k e (right (not (is_list e)) _ h) a scope w

    keeps-pairs : (default : Option (List ℕ)) (k : ℕ) (bs : Buckets) → buckets_are_formed k bs ≡ true → Allows (preorder_in_buckets bs) → (scope : Shape) → is_tidy scope ≡ true
        → Runs (Spells bs) Q (pairs (bucket_meanings default bs) scope)
    keeps-pairs default k no_buckets h a scope w = runs-gives Q (Spells no_buckets) [] (λ es e. e)
    keeps-pairs default k (bucket (literal_bucket name weight) bs) h a scope w =
        runs-bind Q (λ p. p ≡ (text name, whole (pos weight))) (Spells (bucket (literal_bucket name weight) bs)) _ _
        (runs-bind Q (λ v. v ≡ text name) _ _ _ (runs-gives Q _ (text name) refl) (λ v p. runs-bind Q (λ u. u ≡ whole (pos weight)) _ _ _ (runs-gives Q _ (whole (pos weight)) refl) (λ u q. runs-gives Q _ (v, u) cc)))
        (λ one is. runs-bind Q (Spells bs) _ _ _ (keeps-pairs default (k + 0) bs (right (nat_lt weight (2 ^ 31)) _ h) a scope w)
        (λ rest spelled. runs-gives Q _ (one ∷ rest) (rw is (spells-literal name weight bs rest (left (nat_lt weight (2 ^ 31)) _ h) spelled))))
    keeps-pairs default k (bucket (computed_bucket name weight) bs) h a scope w =
        let formed = right (not (are_literals name weight)) _ (left (bucket_is_formed k (computed_bucket name weight)) _ h) in
        let inner : Allows (preorder name ++ preorder weight) = allows-left (preorder name ++ preorder weight) _ a in
        runs-bind Q Anything (Spells (bucket (computed_bucket name weight) bs)) _ _
        (runs-bind Q Anything Anything _ _ (keeps-part name (meaning default name) scope (keeps-meaning default k name (left (is_formed k name) _ formed) (allows-left (preorder name) _ inner) scope w))
        (λ v p. runs-bind Q Anything Anything _ _ (keeps-part weight (meaning default weight) scope (keeps-meaning default (k + sites name) weight (right (is_formed k name) _ formed) (allows-right (preorder name) _ inner) scope w))
        (λ u q. runs-gives Q Anything (v, u) tt)))
        (λ one p. runs-bind Q (Spells bs) _ _ _ (keeps-pairs default (k + sites_in_bucket (computed_bucket name weight)) bs (right (bucket_is_formed k (computed_bucket name weight)) _ h) (allows-right (preorder name ++ preorder weight) _ a) scope w)
        (λ rest spelled. runs-gives Q _ (one ∷ rest) (λ es e. absurd (cc))))
