-- An evaluation reaches no more sites than it costs units: each reached site has a unit of its own.
use Rattle.std.proofs.Common.{◌≡◌, ℕ, ◌+◌, ◌≤◌, Bool, true, false, not, ◌==◌, cond, nat_lt, List, [], ◌∷◌, map, length, length-append, Option, Some, None, Result, Ok, Err, is_none, option_and_then, refl, ap, ◌∙◌, arith}
use Rattle.std.specs.Prelude.{IfOk, IfSome}
use Rattle.std.specs.Map.{lookup}
use Rattle.std.specs.Str.{bytes_eq}
use borrow.Author.Tests.{ltb-false}
use Rattle.bucket_core.specs.Rule.{Entries, total_weight, choice}
use Rattle.flag_text.specs.Readers.{as_object}
use Rattle.flag_text.specs.Shape.{Shape, null, boolean, whole, other, text, list, object}
use Rattle.flag_text.specs.View.{items_of}
use Rattle.flag_defs.specs.Definition.{Definition}
use Rattle.flag_defs.specs.Document.{Definitions}
use Rattle.flag_defs.specs.Flag.{is_broken, is_enabled, targeting_in}
use Rattle.logic_ast.specs.Expression.{Expression, literal, operation, fractional, Expressions, no_expressions, expression, By, no_by, by, Buckets, no_buckets, bucket, Bucket, literal_bucket, computed_bucket}
use Rattle.logic_ast.specs.Expression as ast
use Rattle.logic_ast.specs.declared.operator.Operator.{Operator}
use Rattle.logic_ast.specs.declared.operator.Operator.TheVariants as op
use Rattle.logic_values.specs.declared.fault.EvalFault.{EvalFault}
use Rattle.logic_values.specs.declared.fault.EvalFault.TheVariants.{TooLong}
use Rattle.logic_values.specs.Comparison.{bool_eq}
use Rattle.logic_eval.specs.Evaluation.{evaluation_of, part_of, pair, pairs, input, meaning, meanings, operands, operand_meaning, by_meaning, bucket_meaning, bucket_meanings}
use Rattle.logic_eval.specs.Fractional.{buckets_of, chosen, by_input, by_buckets, given_input, made_input}
use Rattle.logic_values.specs.Lists.{items_in}
use Rattle.logic_eval.specs.Operators.{Meaning, values, variable_run, strict, conditional, first_of_truth, mapped, kept, occurs, is_empty, all_of, reduced, over_items, over, start, over_from_start, found_decimal, compares, with_tests, with_early_tests, asked, operated, applied_exactly}
use Rattle.logic_values.specs.Objects.{reduce_scope}
use Rattle.logic_eval.specs.Run.{Reach, Run, cost, reach, ends, gives, after, continues, ◌>>=◌, units_of, reached_of, most_units, with_reached}
use Rattle.logic_eval.specs.Scope.{Situation, root_scope, default_input, size, variable}
use Rattle.logic_values.specs.Truth.{is_true}
use Rattle.logic_eval.proofs.Budgets.{reached_of-append, units_of-append}
use Rattle.flag_defs.specs.Kind.{is_of_kind}
use Rattle.flag_resolve.specs.Resolution.{Asked, given, given_default, chosen as chosen_variant, targeted, evaluated, enabled, found, resolution_of, default_of, variant_named, name_in}
use Rattle.flag_resolve.specs.Resolved.{Resolved}
use Rattle.flag_resolve.specs.Views.{resolution_view}
use Rattle.flag_resolve.specs.declared.resolution.Resolution.{Resolution}
use Rattle.logic_eval.specs.Views.{reach_view}
use Rattle.flag_resolve.specs.declared.reason.Reason.{Reason}
use Rattle.book_share.specs.Asked.{resolved}
use Rattle.book_share.specs.declared.ask.Ask.{Ask}

-- so many more sites than units at most
abbrev Beyond : {A : Type 0} → ℕ → Run A → Type 0
Beyond n r = length (reached_of r.trace) ≤ units_of r.trace + n

abbrev Bounded : {A : Type 0} → Run A → Type 0
Bounded r = Beyond 0 r

-- ---- runs

b-ends : {A : Type 0} (n : ℕ) (e : Result A EvalFault) → Beyond n (ends e)
unfolding ends
b-ends n e = omega arith

b-gives : {A : Type 0} (n : ℕ) (v : A) → Beyond n (gives v)
b-gives n v = b-ends n (Ok v)

b-cost : {A : Type 0} (n : ℕ) (r : Run A) → Bounded r → Bounded (after (cost n) r)
unfolding after
b-cost n r h = omega (arith, h)

b-paid : {A : Type 0} (r : Run A) → Beyond 1 r → Bounded (after (cost 1) r)
unfolding after
b-paid r h = omega (arith, h)

b-reach : {A : Type 0} (x : Reach) (r : Run A) → Bounded r → Beyond 1 (after (reach x) r)
unfolding after
b-reach x r h = omega (arith, h)

b-bind : {A B : Type 0} (n : ℕ) (r : Run A) (f : A → Run B) → Bounded r → ((v : A) → Beyond n (f v)) → Beyond n (r >>= f)
unfolding ◌>>=◌
b-bind {A} {B} n r f h k = go r.ending
  where
    go : (e : Result A EvalFault) → Beyond n (continues r.trace e f)
    go (Ok v) =
        let s = k v in
        let sites = ap length (reached_of-append r.trace (f v).trace) ∙ length-append (reached_of r.trace) (reached_of (f v).trace) in
        let units = units_of-append r.trace (f v).trace in
        omega (arith, h, s, sites, units)
    go (Err e) = omega (arith, h)

b-if : {A : Type 0} (n : ℕ) (b : Bool) (r s : Run A) → Beyond n r → Beyond n s → Beyond n (cond b r s)
b-if n true r s h k = h
b-if n false r s h k = k

-- ---- operators

abbrev Fits : Meaning → Type 0
Fits m = (scope : Shape) → Bounded (m scope)

abbrev AllFit : List Meaning → Type 0
AllFit [] = Unit {0}
AllFit (m ∷ ms) = Fits m × AllFit ms

b-values : (ms : List Meaning) (scope : Shape) → AllFit ms → Bounded (values ms scope)
b-values [] scope ks = b-ends 0 _
b-values (m ∷ ms) scope ks = b-bind 0 _ _ (ks.0 scope) (λ v. b-bind 0 _ _ (b-values ms scope ks.1) (λ vs. b-ends 0 _))

b-variable : (ms : List Meaning) → AllFit ms → Fits (variable_run ms)
b-variable ms ks scope = b-bind 0 _ _ (b-values ms scope ks) (λ vs. b-bind 0 _ _ (b-cost (size (variable scope vs)) _ (b-ends 0 _)) (λ v. b-ends 0 _))

b-strict : (o : Operator) (ms : List Meaning) → AllFit ms → Fits (strict o ms)
b-strict o ms ks scope = b-bind 0 _ _ (b-values ms scope ks) (λ vs. b-ends 0 (applied_exactly o scope vs))

-- a `var` that is compared or tested
b-operand : (ms : List Meaning) → AllFit ms → Fits (λ scope. after (cost 1) (values ms scope >>= λ vs. found_decimal (variable scope vs)))
b-operand ms ks scope = b-cost 1 _ (b-bind 0 _ _ (b-values ms scope ks) (λ vs. b-bind 0 _ _ (b-cost (size (variable scope vs)) _ (b-ends 0 _)) (λ v. b-ends 0 _)))

b-conditional : (ms : List Meaning) → AllFit ms → Fits (conditional ms)
b-conditional [] ks scope = b-ends 0 _
b-conditional (last ∷ []) ks scope = ks.0 scope
b-conditional (test ∷ result ∷ rest) ks scope = b-bind 0 _ _ (ks.0 scope) (λ v. b-if 0 (is_true v) _ _ (ks.1.0 scope) (b-conditional rest ks.1.1 scope))

b-first_of_truth : (b : Bool) (ms : List Meaning) → AllFit ms → Fits (first_of_truth b ms)
b-first_of_truth b [] ks scope = b-ends 0 _
b-first_of_truth b (last ∷ []) ks scope = ks.0 scope
b-first_of_truth b (m ∷ next ∷ rest) ks scope = b-bind 0 _ _ (ks.0 scope) (λ v. b-if 0 (bool_eq b (is_true v)) _ _ (b-gives 0 v) (b-first_of_truth b (next ∷ rest) ks.1 scope))

module _ (body : Meaning) (k : Fits body) where
  b-mapped : (ts : List Shape) → Bounded (mapped body ts)
  b-mapped [] = b-ends 0 _
  b-mapped (t ∷ ts) = b-bind 0 _ _ (k t) (λ v. b-bind 0 _ _ (b-mapped ts) (λ vs. b-ends 0 _))

  b-kept : (ts : List Shape) → Bounded (kept body ts)
  b-kept [] = b-ends 0 _
  b-kept (t ∷ ts) = b-bind 0 _ _ (k t) (λ v. b-bind 0 _ _ (b-kept ts) (λ vs. b-ends 0 _))

  b-occurs : (wanted : Bool) (ts : List Shape) → Bounded (occurs wanted body ts)
  b-occurs wanted [] = b-ends 0 _
  b-occurs wanted (t ∷ ts) = b-bind 0 _ _ (k t) (λ v. b-if 0 (bool_eq wanted (is_true v)) _ _ (b-gives 0 true) (b-occurs wanted ts))

  b-all_of : (ts : List Shape) → Bounded (all_of body ts)
  b-all_of ts = b-if 0 (is_empty ts) _ _ (b-gives 0 (boolean false)) (b-bind 0 _ _ (b-occurs false ts) (λ b. b-gives 0 (boolean (not b))))

  b-reduced : (so_far : Shape) (ts : List Shape) → Bounded (reduced body so_far ts)
  b-reduced so_far [] = b-ends 0 _
  b-reduced so_far (t ∷ ts) = b-bind 0 _ _ (k (reduce_scope so_far t)) (λ v. b-reduced v ts)

  b-over_items : (o : Operator) (ts : List Shape) → Bounded (over_items o body ts)
  b-over_items op.Map ts = b-bind 0 _ _ (b-mapped ts) (λ vs. b-gives 0 (list (items_of vs)))
  b-over_items op.Filter ts = b-bind 0 _ _ (b-kept ts) (λ vs. b-gives 0 (list (items_of vs)))
  b-over_items op.AllOf ts = b-all_of ts
  b-over_items op.SomeOf ts = b-bind 0 _ _ (b-occurs true ts) (λ b. b-gives 0 (boolean b))
  b-over_items op.NoneOf ts = b-bind 0 _ _ (b-occurs true ts) (λ b. b-gives 0 (boolean (not b)))
  b-over_items o ts = b-gives 0 null

b-over : (o : Operator) (ms : List Meaning) → AllFit ms → Fits (over o ms)
b-over o [] ks scope = b-gives 0 null
b-over o (items ∷ []) ks scope = b-gives 0 null
b-over o (items ∷ body ∷ rest) ks scope = b-bind 0 _ _ (ks.0 scope) (λ v. b-over_items body ks.1.0 o (items_in v))

b-start : (ms : List Meaning) → AllFit ms → Fits (start ms)
b-start [] ks scope = b-gives 0 null
b-start (m ∷ ms) ks scope = ks.0 scope

b-reduce : (ms : List Meaning) → AllFit ms → Fits (over_from_start ms)
b-reduce [] ks scope = b-gives 0 null
b-reduce (items ∷ []) ks scope = b-gives 0 null
b-reduce (items ∷ body ∷ rest) ks scope = b-bind 0 _ _ (ks.0 scope) (λ v. b-bind 0 _ _ (b-start rest ks.1.1 scope) (λ u. b-reduced body ks.1.0 u (items_in v)))

b-operated : (o : Operator) (ms : List Meaning) → AllFit ms → Fits (operated o ms)
b-operated op.Var ms ks = b-variable ms ks
b-operated op.If ms ks = b-conditional ms ks
b-operated op.And ms ks = b-first_of_truth false ms ks
b-operated op.Or ms ks = b-first_of_truth true ms ks
b-operated op.Map ms ks = b-over op.Map ms ks
b-operated op.Filter ms ks = b-over op.Filter ms ks
b-operated op.AllOf ms ks = b-over op.AllOf ms ks
b-operated op.SomeOf ms ks = b-over op.SomeOf ms ks
b-operated op.NoneOf ms ks = b-over op.NoneOf ms ks
b-operated op.Reduce ms ks = b-reduce ms ks
b-operated o ms ks = b-strict o ms ks

-- ---- the arguments of an operator, of which some are compared or tested

b-tests : (ms operands : List Meaning) → AllFit ms → AllFit operands → AllFit (with_tests ms operands)
b-tests [] operands ks js = tt
b-tests (last ∷ []) operands ks js = ks
b-tests (test ∷ result ∷ rest) [] ks js = ks
b-tests (test ∷ result ∷ rest) (t ∷ []) ks js = ks
b-tests (test ∷ result ∷ rest) (t ∷ u ∷ operands) ks js = (js.0, (ks.1.0, b-tests rest operands ks.1.1 js.1.1))

b-early : (ms operands : List Meaning) → AllFit ms → AllFit operands → AllFit (with_early_tests ms operands)
b-early [] operands ks js = tt
b-early (m ∷ ms) [] ks js = ks
b-early (m ∷ []) (t ∷ operands) ks js = (ks.0, tt)
b-early (m ∷ next ∷ rest) (t ∷ operands) ks js = (js.0, b-early (next ∷ rest) operands ks.1 js.1)

b-compared : (b : Bool) (ms operands : List Meaning) → AllFit ms → AllFit operands → AllFit (cond b operands ms)
b-compared true ms operands ks js = js
b-compared false ms operands ks js = ks

b-asked : (o : Operator) (ms operands : List Meaning) → AllFit ms → AllFit operands → AllFit (asked o ms operands)
b-asked op.If ms operands ks js = b-tests ms operands ks js
b-asked op.And ms operands ks js = b-early ms operands ks js
b-asked o ms operands ks js = b-compared (compares o) ms operands ks js

-- ---- a site

b-chosen : (o : Option (List ℕ)) → Bounded (chosen o)
b-chosen None = b-gives 0 null
b-chosen (Some name) = b-gives 0 (text name)

b-by_input : (n : ℕ) (i : Option (Result (List ℕ) EvalFault)) (r : Entries) → Beyond 1 (by_input n i r)
b-by_input n None r = b-gives 1 null
b-by_input n (Some i) r = b-if 1 (total_weight r == 0) _ _ (b-gives 1 null) (b-bind 1 _ _ (b-ends 0 i) (λ s. b-reach _ _ (b-chosen (choice r s))))

b-by_buckets : (n : ℕ) (i : Option (Result (List ℕ) EvalFault)) (o : Option Entries) → Beyond 1 (by_buckets n i o)
b-by_buckets n i None = b-ends 1 _
b-by_buckets n i (Some r) = b-by_input n i r

b-input : (default : Option (List ℕ)) (o : Option Meaning) (scope : Shape) → IfSome o (λ m. Bounded (m scope)) → Bounded (input default o scope)
b-input default None scope k = b-gives 0 (made_input default)
b-input default (Some m) scope k = b-bind 0 _ _ k (λ v. b-gives 0 (given_input v))

b-part : (e : Expression) (m : Meaning) (scope : Shape) → Bounded (m scope) → Bounded (part_of e m scope)
b-part (literal t) m scope k = b-gives 0 t
b-part (ast.list es) m scope k = k
b-part (operation o es) m scope k = k
b-part (fractional n b bs) m scope k = k

-- ---- an expression

mutual
  b-meaning : (default : Option (List ℕ)) (e : Expression) → Fits (meaning default e)
  b-meaning default (literal t) scope = b-cost (size t) _ (b-gives 0 t)
  b-meaning default (ast.list es) scope = b-cost 1 _ (b-bind 0 _ _ (b-values (meanings default es) scope (b-meanings default es)) (λ vs. b-gives 0 (list (items_of vs))))
  b-meaning default (operation o es) scope =
      b-cost 1 _ (b-operated o (asked o (meanings default es) (operands default es)) (b-asked o (meanings default es) (operands default es) (b-meanings default es) (b-operands default es)) scope)
  b-meaning default (fractional n b bs) scope =
      b-paid _ (b-bind 1 _ _ (b-input default (by_meaning default b) scope (b-by default b scope)) (λ i. b-bind 1 _ _ (b-pairs default bs scope) (λ ps. b-by_buckets n i (buckets_of ps))))

  b-meanings : (default : Option (List ℕ)) (es : Expressions) → AllFit (meanings default es)
  b-meanings default no_expressions = tt
  b-meanings default (expression e es) = (b-meaning default e, b-meanings default es)

  b-operands : (default : Option (List ℕ)) (es : Expressions) → AllFit (operands default es)
  b-operands default no_expressions = tt
  b-operands default (expression e es) = (b-operand_meaning default e (b-meaning default e), b-operands default es)

  b-operand_meaning : (default : Option (List ℕ)) (e : Expression) → Fits (meaning default e) → Fits (operand_meaning default e)
  b-operand_meaning default (literal t) k = k
  b-operand_meaning default (ast.list es) k = k
  b-operand_meaning default (operation op.Var es) k = b-operand (meanings default es) (b-meanings default es)
  b-operand_meaning default (operation op.And es) k = λ scope. b-cost 1 _ (b-first_of_truth false (operands default es) (b-operands default es) scope)
  b-operand_meaning default (operation op.Or es) k = λ scope. b-cost 1 _ (b-first_of_truth true (operands default es) (b-operands default es) scope)
  b-operand_meaning default (operation o es) k = k
  b-operand_meaning default (fractional n b bs) k = k

  b-by : (default : Option (List ℕ)) (b : By) (scope : Shape) → IfSome (by_meaning default b) (λ m. Bounded (m scope))
  b-by default no_by scope = tt
  b-by default (by e) scope = b-meaning default e scope

  b-pairs : (default : Option (List ℕ)) (bs : Buckets) (scope : Shape) → Bounded (pairs (bucket_meanings default bs) scope)
  b-pairs default no_buckets scope = b-ends 0 _
  b-pairs default (bucket b bs) scope = b-bind 0 _ _ (b-pair default b scope) (λ one. b-bind 0 _ _ (b-pairs default bs scope) (λ rest. b-ends 0 _))

  b-pair : (default : Option (List ℕ)) (b : Bucket) (scope : Shape) → Bounded (pair (bucket_meaning default b) scope)
  b-pair default (literal_bucket name weight) scope = b-bind 0 _ _ (b-ends 0 _) (λ v. b-bind 0 _ _ (b-ends 0 _) (λ u. b-ends 0 _))
  b-pair default (computed_bucket name weight) scope =
      b-bind 0 _ _ (b-part name (meaning default name) scope (b-meaning default name scope)) (λ v. b-bind 0 _ _ (b-part weight (meaning default weight) scope (b-meaning default weight scope)) (λ u. b-ends 0 _))

-- ---- an evaluation

abbrev Few : Resolved → Type 0
Few r = length r.reached ≤ most_units

few_evaluated : (e : Expression) (s : Situation) → IfOk (evaluation_of e s) (λ o. length o.1 ≤ most_units)
unfolding evaluation_of
few_evaluated e s = go (nat_lt most_units (units_of run.trace)) run.ending refl
  where
    run : Run Shape
    run = meaning (default_input s) e (root_scope s)

    within : Bounded run
    within = b-meaning (default_input s) e (root_scope s)

    go : (b : Bool) (r : Result Shape EvalFault) → nat_lt most_units (units_of run.trace) ≡ b → IfOk (cond b (Err TooLong) (with_reached (reached_of run.trace) r)) (λ o. length o.1 ≤ most_units)
    go true r h = tt
    go false (Err f) h = tt
    go false (Ok v) h = let less = ltb-false _ _ h in let more = within in omega (arith, less, more)

-- ---- a resolution

either : (b : Bool) (r s : Resolved) → Few r → Few s → Few (cond b r s)
either true r s h k = h
either false r s h k = k

nothing : 0 ≤ most_units
nothing = omega arith

few_given : (a : Asked) (v : List ℕ × Shape) (reason : Reason) (rs : List Reach) → length rs ≤ most_units → Few (given a v reason rs)
few_given a v reason rs h = either (is_of_kind a.want v.1) _ _ h h

few_default : (a : Asked) (v : Option (List ℕ × Shape)) (reason : Reason) (rs : List Reach) → length rs ≤ most_units → Few (given_default a v reason rs)
few_default a None reason rs h = h
few_default a (Some v) reason rs h = few_given a v reason rs h

few_chosen : (a : Asked) (v : Option (List ℕ × Shape)) (rs : List Reach) → length rs ≤ most_units → Few (chosen_variant a v rs)
few_chosen a None rs h = h
few_chosen a (Some v) rs h = few_given a v _ rs h

few_targeted : (a : Asked) (d : Definition) (t : Shape) (rs : List Reach) → length rs ≤ most_units → Few (targeted a d t rs)
few_targeted a d null rs h = few_default a (default_of d) _ rs h
few_targeted a d (boolean b) rs h = few_chosen a (option_and_then (variant_named d) (name_in (boolean b))) rs h
few_targeted a d (whole n) rs h = h
few_targeted a d other rs h = h
few_targeted a d (text s) rs h = few_chosen a (variant_named d s) rs h
few_targeted a d (list ts) rs h = h
few_targeted a d (object ms) rs h = h

few_outcome : (a : Asked) (d : Definition) (o : Result (Shape × List Reach) EvalFault) → IfOk o (λ x. length x.1 ≤ most_units) → Few (evaluated a d o)
few_outcome a d (Err f) h = nothing
few_outcome a d (Ok x) h = few_targeted a d x.0 x.1 h

few_enabled : (a : Asked) (d : Definition) (o : Option Expression) (s : Situation) → Few (enabled a d o s)
few_enabled a d None s = few_default a (default_of d) _ [] nothing
few_enabled a d (Some e) s = few_outcome a d (evaluation_of e s) (few_evaluated e s)

few_found : (a : Asked) (o : Option Definition) (s : Situation) → Few (found a o s)
few_found a None s = nothing
few_found a (Some d) s = either (is_broken d) _ _ nothing (either (is_enabled d) _ _ (few_enabled a d (targeting_in d) s) nothing)

few_of : (flags : Definitions) (a : Asked) (s : Situation) → Few (resolution_of (Some flags) a s)
unfolding resolution_of
few_of flags a s = either (is_none (as_object s.context)) _ _ nothing (few_found a (lookup (bytes_eq s.flag) flags) s)

-- what is resolved has reached few sites
few_resolved : (flags : Definitions) (a : Ask) → length (resolved flags a).reached ≤ most_units
unfolding resolved
few_resolved flags a = few_of flags _ _

length_map : {X Y : Type 0} (f : X → Y) (xs : List X) → length (map f xs) ≡ length xs
length_map f [] = refl
length_map f (x ∷ xs) = let later = length_map f xs in omega (arith, later)

-- the same of what the program holds
pub few_of_view : (flags : Definitions) (a : Ask) (x : Resolution) → resolution_view x ≡ resolved flags a → length x.reached.items ≤ most_units
few_of_view flags a x is =
    let few = few_resolved flags a in
    let same : length (map reach_view x.reached.items) ≡ length (resolved flags a).reached = ap (λ (v : Resolved). length v.reached) is in
    let items = length_map reach_view x.reached.items in
    omega (arith, few, same, items)
