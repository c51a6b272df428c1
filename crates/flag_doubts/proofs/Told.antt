-- What an evaluation gives is among the outcomes of its expression.
use Rattle.std.proofs.Common.{◌≡◌, inl, ℕ, ℤ, Bool, true, false, not, cond, List, [], ◌∷◌, ◌++◌, Option, Some, None, option_map, Result, Ok, Err, IfOk, refl, ap, subst}
use Rattle.flag_text.specs.Shape as shape
use Rattle.flag_text.specs.View.{items_of}
use Rattle.flag_text.specs.Shape.{Shape, null, boolean, whole, text}
use Rattle.logic_ast.specs.Expression.{Expression, literal, list, operation, fractional, Expressions, no_expressions, expression, Buckets, no_buckets, bucket, Bucket, literal_bucket, computed_bucket}
use Rattle.logic_ast.specs.declared.operator.Operator.{Operator}
use Rattle.logic_ast.specs.declared.operator.Operator.TheVariants as op
use Rattle.logic_eval.proofs.Runs.{runs-ends, runs-gives, runs-cost, runs-bind}
use Rattle.logic_values.specs.Comparison.{bool_eq}
use Rattle.logic_eval.specs.Evaluation.{meaning, meanings, operands, operand_meaning, bucket_meaning, bucket_meanings, pairs}
use Rattle.logic_values.specs.Arithmetic.{if_number}
use Rattle.logic_values.specs.declared.fault.EvalFault.{EvalFault}
use Rattle.logic_eval.specs.Operators.{Meaning, all_of, applied, applied_exactly, as_list, asked, exact_test, has_decimal, if_tested, with_tests, with_early_tests, conditional, first_of_truth, is_empty, kept, mapped, none_of, occurs, over, over_items, some_of, strict, values}
use Rattle.logic_eval.specs.Operators as operators
use Rattle.logic_eval.specs.Run.{Run, gives, ◌>>=◌}
use Rattle.logic_values.specs.Lists.{items_in}
use Rattle.logic_values.specs.Number.{number_of}
use Rattle.logic_eval.specs.Scope.{missing_unless, size}
use Rattle.logic_values.specs.Truth.{is_true}
use Rattle.flag_doubts.specs.Laws.{IsAmong}
use Rattle.flag_doubts.specs.Outcomes.{Outcome, named, nameless, truth, computed, as_many, by_test, literal_outcomes, literal_name, literal_truth, given_by, given_outcome, outcomes, arguments, branches, names, name}
use Rattle.flag_doubts.specs.Outcomes as spec
use Rattle.flag_doubts.proofs.Buckets.{AllNamed, Named, bucket_told, decided_told, same_text}
use Rattle.flag_doubts.proofs.Giving.{Anything, Gives, any, among_null, among_left, among_right, both, either, gives_computed, weaker}

-- ---- literals

literal_told : (t : Shape) → IsAmong (literal_outcomes t) t
literal_told null = refl
literal_told (boolean true) = inl refl
literal_told (boolean false) = inl refl
literal_told (whole n) = inl refl
literal_told shape.other = inl refl
literal_told (text s) = inl refl
literal_told (shape.list ts) = inl refl
literal_told (shape.object ms) = inl refl

literal_named : (t : Shape) → Named (literal_name t ∷ []) t
literal_named (text x) s e = inl (same_text x s e)
literal_named null s e = cc
literal_named (boolean b) s e = cc
literal_named (whole n) s e = cc
literal_named shape.other s e = cc
literal_named (shape.list ts) s e = cc
literal_named (shape.object ms) s e = cc

among_named : (os : List Outcome) (v : Shape) → IsAmong os v → Named os v
among_named os v h s e = subst (IsAmong os) e h

-- ---- operations that give the same kind of value, whatever their arguments are

abbrev GivenBy : Operator → Shape → Type 0
GivenBy o v = IsAmong (given_outcome (given_by o) ∷ []) v

nothing_given : (o : Operator) → Gives (GivenBy o) (let r : Run Shape = gives null in r)
nothing_given o = runs-gives Anything (GivenBy o) null (among_null (given_outcome (given_by o) ∷ []) null refl)

truth_or_fault : (r : Result Bool EvalFault) → IfOk (if_tested r) (IsAmong (truth ∷ []))
truth_or_fault (Ok b) = inl (b, refl)
truth_or_fault (Err e) = tt

-- where a value is a decimal, what compares or tests gives a truth, and any other is a fault
exact_told : (o : Operator) (vs : List Shape) → IfOk (if_tested (exact_test o vs)) (GivenBy o)
exact_told op.Less vs = truth_or_fault _
exact_told op.LessOrEqual vs = truth_or_fault _
exact_told op.Greater vs = truth_or_fault _
exact_told op.GreaterOrEqual vs = truth_or_fault _
exact_told op.Equal vs = truth_or_fault _
exact_told op.NotEqual vs = truth_or_fault _
exact_told op.StrictEqual vs = truth_or_fault _
exact_told op.StrictNotEqual vs = truth_or_fault _
exact_told op.Not vs = inl (_, refl)
exact_told op.Truth vs = inl (_, refl)
exact_told o vs = tt

strict_told : (o : Operator) (ms : List Meaning) (scope : Shape) → ((vs : List Shape) → IfOk (applied o scope vs) (GivenBy o)) → Gives (GivenBy o) (strict o ms scope)
strict_told o ms scope h = runs-bind Anything Anything (GivenBy o) _ _ (any _) (λ vs _. runs-ends Anything (GivenBy o) (applied_exactly o scope vs) (go vs (has_decimal vs)))
  where
    go : (vs : List Shape) (b : Bool) → IfOk (cond b (if_tested (exact_test o vs)) (applied o scope vs)) (GivenBy o)
    go vs true = exact_told o vs
    go vs false = h vs

number_told : (n : Option ℤ) → IfOk (if_number n) (IsAmong (nameless ∷ []))
number_told None = tt
number_told (Some n) = inl refl

missing_told : (scope : Shape) (n : Option ℤ) (ts : List Shape) → IfOk (missing_unless scope n ts) (IsAmong (nameless ∷ []))
missing_told scope None ts = tt
missing_told scope (Some n) ts = inl refl

over_told : (o : Operator) (ms : List Meaning) (scope : Shape) → ((body : Meaning) (ts : List Shape) → Gives (GivenBy o) (over_items o body ts)) → Gives (GivenBy o) (over o ms scope)
over_told o [] scope h = nothing_given o
over_told o (items ∷ []) scope h = nothing_given o
over_told o (items ∷ body ∷ rest) scope h = runs-bind Anything Anything (GivenBy o) _ _ (any _) (λ v _. h body (items_in v))

listed : (r : Run (List Shape)) → Gives (IsAmong (nameless ∷ [])) (r >>= as_list)
listed r = runs-bind Anything Anything (IsAmong (nameless ∷ [])) _ _ (any r) (λ vs _. runs-gives Anything (IsAmong (nameless ∷ [])) (shape.list (items_of vs)) (inl refl))

tested : (r : Run Bool) (f : Bool → Bool) → Gives (IsAmong (truth ∷ [])) (r >>= λ b. gives (boolean (f b)))
tested r f = runs-bind Anything Anything (IsAmong (truth ∷ [])) _ _ (any r) (λ b _. runs-gives Anything (IsAmong (truth ∷ [])) (boolean (f b)) (inl (f b, refl)))

all_told : (body : Meaning) (ts : List Shape) → Gives (IsAmong (truth ∷ [])) (all_of body ts)
all_told body ts = either (IsAmong (truth ∷ [])) (is_empty ts) _ _ (runs-gives Anything (IsAmong (truth ∷ [])) (boolean false) (inl (false, refl))) (tested (occurs false body ts) not)

given_told : (o : Operator) (ms : List Meaning) (scope : Shape) → Gives (GivenBy o) (operators.operated o ms scope)
given_told op.Var ms scope = gives_computed _
given_told op.If ms scope = gives_computed _
given_told op.And ms scope = gives_computed _
given_told op.Or ms scope = gives_computed _
given_told op.Reduce ms scope = gives_computed _
given_told op.Cat ms scope = gives_computed _
given_told op.Substr ms scope = gives_computed _
given_told op.Missing ms scope = strict_told op.Missing ms scope (λ vs. inl refl)
given_told op.MissingSome ms scope = strict_told op.MissingSome ms scope (λ vs. missing_told scope (number_of (operators.argument 0 vs)) (items_in (operators.argument 1 vs)))
given_told op.Merge ms scope = strict_told op.Merge ms scope (λ vs. inl refl)
given_told op.Add ms scope = strict_told op.Add ms scope (λ vs. number_told _)
given_told op.Subtract ms scope = strict_told op.Subtract ms scope (λ vs. number_told _)
given_told op.Multiply ms scope = strict_told op.Multiply ms scope (λ vs. number_told _)
given_told op.Remainder ms scope = strict_told op.Remainder ms scope (λ vs. number_told _)
given_told op.Max ms scope = strict_told op.Max ms scope (λ vs. number_told _)
given_told op.Min ms scope = strict_told op.Min ms scope (λ vs. number_told _)
given_told op.Map ms scope = over_told op.Map ms scope (λ body ts. listed (mapped body ts))
given_told op.Filter ms scope = over_told op.Filter ms scope (λ body ts. listed (kept body ts))
given_told op.AllOf ms scope = over_told op.AllOf ms scope all_told
given_told op.SomeOf ms scope = over_told op.SomeOf ms scope (λ body ts. tested (occurs true body ts) (λ b. b))
given_told op.NoneOf ms scope = over_told op.NoneOf ms scope (λ body ts. tested (occurs true body ts) not)
given_told op.Not ms scope = strict_told op.Not ms scope (λ vs. inl (_, refl))
given_told op.Truth ms scope = strict_told op.Truth ms scope (λ vs. inl (_, refl))
given_told op.Equal ms scope = strict_told op.Equal ms scope (λ vs. inl (_, refl))
given_told op.StrictEqual ms scope = strict_told op.StrictEqual ms scope (λ vs. inl (_, refl))
given_told op.NotEqual ms scope = strict_told op.NotEqual ms scope (λ vs. inl (_, refl))
given_told op.StrictNotEqual ms scope = strict_told op.StrictNotEqual ms scope (λ vs. inl (_, refl))
given_told op.Less ms scope = strict_told op.Less ms scope (λ vs. inl (_, refl))
given_told op.LessOrEqual ms scope = strict_told op.LessOrEqual ms scope (λ vs. inl (_, refl))
given_told op.Greater ms scope = strict_told op.Greater ms scope (λ vs. inl (_, refl))
given_told op.GreaterOrEqual ms scope = strict_told op.GreaterOrEqual ms scope (λ vs. inl (_, refl))
given_told op.In ms scope = strict_told op.In ms scope (λ vs. inl (_, refl))
given_told op.StartsWith ms scope = strict_told op.StartsWith ms scope (λ vs. inl (_, refl))
given_told op.EndsWith ms scope = strict_told op.EndsWith ms scope (λ vs. inl (_, refl))
given_told op.SemVer ms scope = strict_told op.SemVer ms scope (λ vs. inl (_, refl))

-- ---- tests

-- where the truth is known, it is this
abbrev Counts : Option Bool → Bool → Type 0
Counts None b = Unit {0}
Counts (Some t) b = t ≡ b

counts_wanted : (wanted : Bool) (test : Option Bool) (b : Bool) → Counts test b → Counts (option_map (bool_eq wanted) test) (bool_eq wanted b)
counts_wanted wanted None b c = tt
counts_wanted wanted (Some t) b c = ap (bool_eq wanted) c

-- what is run by a test is among what comes out by it
by_test_told : (test : Option Bool) (b : Bool) (os ps : List Outcome) (r s : Run Shape) → Counts test b → Gives (IsAmong os) r → Gives (IsAmong ps) s → Gives (IsAmong (by_test test os ps)) (cond b r s)
by_test_told None b os ps r s c h k =
    either (IsAmong (os ++ ps)) b r s (weaker (IsAmong os) (IsAmong (os ++ ps)) r (among_left os ps) h) (weaker (IsAmong ps) (IsAmong (os ++ ps)) s (among_right os ps) k)
by_test_told (Some true) true os ps r s c h k = h
by_test_told (Some true) false os ps r s c h k = absurd (cc c)
by_test_told (Some false) true os ps r s c h k = absurd (cc c)
by_test_told (Some false) false os ps r s c h k = k

module _ (d : Option (List ℕ)) where
  -- a list of as many values counts the same
  abbrev AsMany : Expressions → List Shape → Type 0
  AsMany es vs = is_true (shape.list (as_many es)) ≡ is_true (shape.list (items_of vs))

  values_told : (es : Expressions) (scope : Shape) → Gives (AsMany es) (values (meanings d es) scope)
  values_told no_expressions scope = runs-gives Anything (AsMany no_expressions) [] refl
  values_told (expression e es) scope =
      let P = AsMany (expression e es) in
      runs-bind Anything Anything P _ _ (any _) (λ v _. runs-bind Anything Anything P _ _ (any _) (λ vs _. runs-gives Anything P (v ∷ vs) refl))

  abbrev CountsAs : Expression → Shape → Type 0
  CountsAs e v = Counts (literal_truth e) (is_true v)

  truth_told : (e : Expression) (scope : Shape) → Gives (CountsAs e) (meaning d e scope)
  truth_told (literal t) scope = runs-cost Anything (CountsAs (literal t)) (size t) _ (runs-gives Anything (CountsAs (literal t)) t refl)
  truth_told (list es) scope =
      runs-cost Anything (CountsAs (list es)) 1 _
      (runs-bind Anything (AsMany es) (CountsAs (list es)) _ _ (values_told es scope) (λ vs h. runs-gives Anything (CountsAs (list es)) (shape.list (items_of vs)) h))
  truth_told (operation o es) scope = any _
  truth_told (fractional n b bs) scope = any _

-- ---- expressions

operated_told : (d : Option (List ℕ)) (o : Operator) (es : Expressions) (scope : Shape) → Gives (IsAmong (branches es)) (conditional (with_tests (meanings d es) (operands d es)) scope)
    → Gives (IsAmong (arguments false es)) (first_of_truth false (with_early_tests (meanings d es) (operands d es)) scope) → Gives (IsAmong (arguments true es)) (first_of_truth true (meanings d es) scope)
    → Gives (IsAmong (spec.operated o (branches es) (arguments false es) (arguments true es))) (operators.operated o (asked o (meanings d es) (operands d es)) scope)
operated_told d op.If es scope branch falsy truthy = branch
operated_told d op.And es scope branch falsy truthy = falsy
operated_told d op.Or es scope branch falsy truthy = truthy
operated_told d o es scope branch falsy truthy = given_told o (asked o (meanings d es) (operands d es)) scope

module _ (d : Option (List ℕ)) where
  mutual
    pub told : (e : Expression) (scope : Shape) → Gives (IsAmong (outcomes e)) (meaning d e scope)
    told (literal t) scope = runs-cost Anything (IsAmong (literal_outcomes t)) (size t) _ (runs-gives Anything (IsAmong (literal_outcomes t)) t (literal_told t))
    told (list es) scope =
        runs-cost Anything (IsAmong (nameless ∷ [])) 1 _
        (runs-bind Anything Anything (IsAmong (nameless ∷ [])) _ _ (any _) (λ vs _. runs-gives Anything (IsAmong (nameless ∷ [])) (shape.list (items_of vs)) (inl refl)))
    told (operation o es) scope =
        runs-cost Anything (IsAmong (spec.operated o (branches es) (arguments false es) (arguments true es))) 1 _
        (operated_told d o es scope (branches_told es scope) (all_arguments_told es scope) (arguments_told es scope))
    told (fractional n b bs) scope =
        runs-cost Anything (IsAmong (names bs)) 1 _
        (runs-bind Anything Anything (IsAmong (names bs)) _ _ (any _)
        (λ i _. runs-bind Anything (AllNamed (names bs)) (IsAmong (names bs)) _ _ (pairs_told bs scope) (λ ps h. decided_told (names bs) n i ps h)))

    -- the same where it is compared or tested, given what it is where it is not
    operand_told : (e : Expression) (scope : Shape) → Gives (IsAmong (outcomes e)) (meaning d e scope) → Gives (IsAmong (outcomes e)) (operand_meaning d e scope)
    operand_told (literal t) scope h = h
    operand_told (list es) scope h = h
    operand_told (operation op.Var es) scope h = gives_computed _
    operand_told (operation op.And es) scope h = runs-cost Anything (IsAmong (arguments false es)) 1 _ (operands_told false es scope)
    operand_told (operation op.Or es) scope h = runs-cost Anything (IsAmong (arguments true es)) 1 _ (operands_told true es scope)
    operand_told (operation o es) scope h = h
    operand_told (fractional n b bs) scope h = h

    operand_truth_told : (e : Expression) (scope : Shape) → Gives (CountsAs d e) (operand_meaning d e scope)
    operand_truth_told (literal t) scope = truth_told d (literal t) scope
    operand_truth_told (list es) scope = truth_told d (list es) scope
    operand_truth_told (operation o es) scope = any _
    operand_truth_told (fractional n b bs) scope = any _

    -- the arguments of `and` or `or` where it is compared or tested
    operands_told : (w : Bool) (es : Expressions) (scope : Shape) → Gives (IsAmong (arguments w es)) (first_of_truth w (operands d es) scope)
    operands_told w no_expressions scope = runs-gives Anything (IsAmong []) null refl
    operands_told w (expression last no_expressions) scope = operand_told last scope (told last scope)
    operands_told w (expression e (expression next es)) scope =
        let test = option_map (bool_eq w) (literal_truth e) in
        let rest = arguments w (expression next es) in
        let P = IsAmong (outcomes e) in
        runs-bind Anything (λ v. P v × CountsAs d e v) (IsAmong (by_test test (outcomes e) rest)) _ _ (both P (CountsAs d e) _ (operand_told e scope (told e scope)) (operand_truth_told e scope))
        (λ v h. by_test_told test (bool_eq w (is_true v)) (outcomes e) rest (gives v) (first_of_truth w (operands d (expression next es)) scope)
        (counts_wanted w (literal_truth e) (is_true v) h.1) (runs-gives Anything P v h.0) (operands_told w (expression next es) scope))

    branches_told : (es : Expressions) (scope : Shape) → Gives (IsAmong (branches es)) (conditional (with_tests (meanings d es) (operands d es)) scope)
    branches_told no_expressions scope = runs-gives Anything (IsAmong []) null refl
    branches_told (expression last no_expressions) scope = told last scope
    branches_told (expression test (expression e es)) scope =
        let P = IsAmong (by_test (literal_truth test) (outcomes e) (branches es)) in
        runs-bind Anything (CountsAs d test) P _ _ (operand_truth_told test scope)
        (λ v c. by_test_told (literal_truth test) (is_true v) (outcomes e) (branches es) (meaning d e scope) (conditional (with_tests (meanings d es) (operands d es)) scope) c (told e scope) (branches_told es scope))

    -- the arguments of `or`
    arguments_told : (es : Expressions) (scope : Shape) → Gives (IsAmong (arguments true es)) (first_of_truth true (meanings d es) scope)
    arguments_told no_expressions scope = runs-gives Anything (IsAmong []) null refl
    arguments_told (expression last no_expressions) scope = told last scope
    arguments_told (expression e (expression next es)) scope =
        let test = option_map (bool_eq true) (literal_truth e) in
        let rest = arguments true (expression next es) in
        let P = IsAmong (outcomes e) in
        runs-bind Anything (λ v. P v × CountsAs d e v) (IsAmong (by_test test (outcomes e) rest)) _ _ (both P (CountsAs d e) _ (told e scope) (truth_told d e scope))
        (λ v h. by_test_told test (bool_eq true (is_true v)) (outcomes e) rest (gives v) (first_of_truth true (meanings d (expression next es)) scope)
        (counts_wanted true (literal_truth e) (is_true v) h.1) (runs-gives Anything P v h.0) (arguments_told (expression next es) scope))

    -- those of `and`, all but the last of which are tested
    all_arguments_told : (es : Expressions) (scope : Shape) → Gives (IsAmong (arguments false es)) (first_of_truth false (with_early_tests (meanings d es) (operands d es)) scope)
    all_arguments_told no_expressions scope = runs-gives Anything (IsAmong []) null refl
    all_arguments_told (expression last no_expressions) scope = told last scope
    all_arguments_told (expression e (expression next es)) scope =
        let test = option_map (bool_eq false) (literal_truth e) in
        let rest = arguments false (expression next es) in
        let P = IsAmong (outcomes e) in
        runs-bind Anything (λ v. P v × CountsAs d e v) (IsAmong (by_test test (outcomes e) rest)) _ _ (both P (CountsAs d e) _ (operand_told e scope (told e scope)) (operand_truth_told e scope))
        (λ v h. by_test_told test (bool_eq false (is_true v)) (outcomes e) rest (gives v) (first_of_truth false (with_early_tests (meanings d (expression next es)) (operands d (expression next es))) scope)
        (counts_wanted false (literal_truth e) (is_true v) h.1) (runs-gives Anything P v h.0) (all_arguments_told (expression next es) scope))

    pairs_told : (bs : Buckets) (scope : Shape) → Gives (AllNamed (names bs)) (pairs (bucket_meanings d bs) scope)
    pairs_told no_buckets scope = runs-gives Anything (AllNamed []) [] tt
    pairs_told (bucket b bs) scope = bucket_told d scope b bs (name_told b scope) (pairs_told bs scope)

    name_told : (b : Bucket) (scope : Shape) → Gives (Named (name b)) ((bucket_meaning d b).0 scope)
    name_told (literal_bucket s w) scope = runs-gives Anything (Named (named s ∷ [])) (text s) (λ t e. inl (same_text s t e))
    name_told (computed_bucket (literal t) w) scope = runs-gives Anything (Named (literal_name t ∷ [])) t (literal_named t)
    name_told (computed_bucket (list es) w) scope = weaker _ _ _ (among_named (outcomes (list es))) (told (list es) scope)
    name_told (computed_bucket (operation o es) w) scope = weaker _ _ _ (among_named (outcomes (operation o es))) (told (operation o es) scope)
    name_told (computed_bucket (fractional n b bs) w) scope = weaker _ _ _ (among_named (outcomes (fractional n b bs))) (told (fractional n b bs) scope)
