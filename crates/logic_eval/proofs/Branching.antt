-- What isn't evaluated of `if`, `and`, `or` and a site whose entries are literal.
use Rattle.std.proofs.Common.{◌≡◌, ℕ, ◌<◌, ◌^◌, pos, Bool, true, false, not, cond, ◌&&◌, nat_lt, List, [], ◌∷◌, append-nil, Option, Some, None, option_map, option_and_then, Result, Ok, Err, refl, sym, ap, ◌∙◌, arith}
use Rattle.bucket_core.specs.Rule.{Entries, total_weight}
use Rattle.bucket_core.proofs.Points.{total_weight-cons}
use Rattle.flag_text.specs.Shape.{Shape, text, whole, has_other}
use Rattle.logic_ast.specs.Expression as ast
use Rattle.logic_ast.specs.Expression.{Expression, literal, operation, fractional, Expressions, no_expressions, expression, Buckets, no_buckets, bucket, literal_bucket, computed_bucket}
use Rattle.logic_ast.specs.Sites.{entries_of}
use Rattle.logic_values.specs.declared.fault.EvalFault.{EvalFault}
use Rattle.logic_ast.specs.declared.operator.Operator.TheVariants as op
use Rattle.logic_values.specs.Comparison.{bool_eq}
use Rattle.logic_values.specs.Truth.{is_true}
use Rattle.logic_values.specs.Decimals.{is_readable}
use Rattle.logic_values.specs.declared.fault.EvalFault.TheVariants.{Arithmetic}
use Rattle.logic_eval.specs.Evaluation.{pairs, bucket_meanings, meaning, meanings, operands, operand_meaning}
use Rattle.logic_eval.specs.Fractional as buckets
use Rattle.logic_eval.specs.Fractional.{buckets_of, not_too_heavy, by_input, by_buckets, decided}
use Rattle.logic_eval.specs.Operators.{Meaning, values, found, found_whole, found_decimal, read, read_decimal, first_of_truth, with_early_tests}
use Rattle.logic_eval.specs.Scope.{variable}
use Rattle.logic_eval.specs.Run.{Run, cost, ends, gives, after, after_trace, continues, ◌>>=◌}
use Rattle.logic_eval.specs.Laws.{ReadableOperandsAreAsEver, WithoutDecimalsAsEver, LiteralSiteChooses, TrueTestSkipsTheRest, FalseTestSkipsItsResult, FalseEndsAnd, TrueEndsOr}

-- a run that gives a value, and runs after it that are the same at that value
same_after : {A B : Type 0} (r : Run A) (f g : A → Run B) (v : A) → r.ending ≡ Ok v → f v ≡ g v → (r >>= f) ≡ (r >>= g)
unfolding ◌>>=◌
same_after r f g v e h = rw e (ap (after_trace r.trace) h)

-- a run that gives a value, and nothing after it
nothing_after : {A : Type 0} (r : Run A) (f : A → Run A) (v : A) → r.ending ≡ Ok v → f v ≡ gives v → (r >>= f) ≡ r
unfolding ◌>>=◌ ends
nothing_after {A} r f v e h =
    let step : (r >>= f) ≡ after_trace r.trace (f v) = rw e refl in
    step ∙ (ap (after_trace r.trace) h ∙ rw (append-nil r.trace, ← e) refl)

-- nothing before a run
gives-then : {A B : Type 0} (v : A) (f : A → Run B) → (gives v >>= f) ≡ f v
unfolding ◌>>=◌ ends
gives-then v f = refl

-- runs after the same run that are the same where they give the value
same_if_given : {A B : Type 0} (r : Run A) (f g : A → Run B) (v : B) → (r >>= f).ending ≡ Ok v → ((u : A) → (f u).ending ≡ Ok v → f u ≡ g u) → (r >>= f) ≡ (r >>= g)
unfolding ◌>>=◌
same_if_given {A} {B} r f g v e h = go r.ending e
  where
    go : (x : Result A EvalFault) → (continues r.trace x f).ending ≡ Ok v → continues r.trace x f ≡ continues r.trace x g
    go (Ok u) k = ap (after_trace r.trace) (h u k)
    go (Err x) k = absurd (cc)

-- what can be read is read alike where it is compared or tested
read_alike : (u v : Shape) → (read u).ending ≡ Ok v → read u ≡ read_decimal u
unfolding ends
read_alike u v e = go (has_other u) e
  where
    go : (b : Bool) → cond b (let r : Result Shape EvalFault = Err Arithmetic in r) (Ok u) ≡ Ok v
        → (let r : Run Shape = ends (cond b (Err Arithmetic) (Ok u)) in r) ≡ ends (cond (b && not (is_readable u)) (Err Arithmetic) (Ok u))
    go true k = absurd (cc)
    go false k = refl

found_alike : (u v : Shape) → (found_whole u).ending ≡ Ok v → found_whole u ≡ found_decimal u
found_alike u v e = same_if_given (found u) read read_decimal v e (λ w k. read_alike w v k)

variable_alike : (d : Option (List ℕ)) (es : Expressions) (scope v : Shape) → (meaning d (operation op.Var es) scope).ending ≡ Ok v
    → operand_meaning d (operation op.Var es) scope ≡ meaning d (operation op.Var es) scope
unfolding after
variable_alike d es scope v e =
    sym (ap (after (cost 1)) (same_if_given (values (meanings d es) scope) (λ vs. found_whole (variable scope vs)) (λ vs. found_decimal (variable scope vs)) v e (λ vs k. found_alike (variable scope vs) v k)))

-- what was given before it went on
given_before : {A B : Type 0} (r : Run A) (f : A → Run B) (v : B) → (r >>= f).ending ≡ Ok v → (u : A) × (r.ending ≡ Ok u)
unfolding ◌>>=◌
given_before {A} {B} r f v e = go r.ending refl e
  where
    go : (x : Result A EvalFault) → r.ending ≡ x → (continues r.trace x f).ending ≡ Ok v → (u : A) × (r.ending ≡ Ok u)
    go (Ok u) is k = (u, is)
    go (Err x) is k = absurd (cc)

-- the next argument of `and` or `or`, where it is asked for
next_alike : (b : Bool) (u v : Shape) (r s : Run Shape) → (cond b (gives u) r).ending ≡ Ok v → (r.ending ≡ Ok v → r ≡ s) → cond b (gives u) r ≡ cond b (gives u) s
next_alike true u v r s e k = refl
next_alike false u v r s e k = k e

first_alike : (w : Bool) (m n : Meaning) (scope v : Shape) (r s : Run Shape) → (m scope >>= λ u. cond (bool_eq w (is_true u)) (gives u) r).ending ≡ Ok v
    → ((u : Shape) → (m scope).ending ≡ Ok u → n scope ≡ m scope) → (r.ending ≡ Ok v → s ≡ r)
    → (n scope >>= λ u. cond (bool_eq w (is_true u)) (gives u) s) ≡ (m scope >>= λ u. cond (bool_eq w (is_true u)) (gives u) r)
first_alike w m n scope v r s e same rest =
    let before = given_before (m scope) (λ u. cond (bool_eq w (is_true u)) (gives u) r) v e in
    ap (λ x. x >>= λ u. cond (bool_eq w (is_true u)) (gives u) s) (same before.0 before.1)
    ∙ sym (same_if_given (m scope) (λ u. cond (bool_eq w (is_true u)) (gives u) r) (λ u. cond (bool_eq w (is_true u)) (gives u) s) v e (λ u k. next_alike (bool_eq w (is_true u)) u v r s k (λ j. sym (rest j))))

mutual
  unfolding after

  pub operand_as_ever : ReadableOperandsAreAsEver
  operand_as_ever d (literal t) scope v e = refl
  operand_as_ever d (ast.list es) scope v e = refl
  operand_as_ever d (operation op.Var es) scope v e = variable_alike d es scope v e
  operand_as_ever d (operation op.And es) scope v e = ap (after (cost 1)) (and_alike d es scope v e)
  operand_as_ever d (operation op.Or es) scope v e = ap (after (cost 1)) (or_alike d es scope v e)
  operand_as_ever d (operation o es) scope v e = refl
  operand_as_ever d (fractional n b bs) scope v e = refl

  or_alike : (d : Option (List ℕ)) (es : Expressions) (scope v : Shape) → (first_of_truth true (meanings d es) scope).ending ≡ Ok v → first_of_truth true (operands d es) scope ≡ first_of_truth true (meanings d es) scope
  or_alike d no_expressions scope v e = refl
  or_alike d (expression one no_expressions) scope v e = operand_as_ever d one scope v e
  or_alike d (expression one (expression next rest)) scope v e =
      first_alike true (meaning d one) (operand_meaning d one) scope v _ _ e (λ u k. operand_as_ever d one scope u k) (λ k. or_alike d (expression next rest) scope v k)

  and_alike : (d : Option (List ℕ)) (es : Expressions) (scope v : Shape) → (first_of_truth false (with_early_tests (meanings d es) (operands d es)) scope).ending ≡ Ok v
      → first_of_truth false (operands d es) scope ≡ first_of_truth false (with_early_tests (meanings d es) (operands d es)) scope
  and_alike d no_expressions scope v e = refl
  and_alike d (expression one no_expressions) scope v e = operand_as_ever d one scope v e
  and_alike d (expression one (expression next rest)) scope v e =
      first_alike false (operand_meaning d one) (operand_meaning d one) scope v _ _ e (λ u k. refl) (λ k. and_alike d (expression next rest) scope v k)

pub without_decimals : WithoutDecimalsAsEver
without_decimals o scope vs e = rw e refl

bind_alike : {A B : Type 0} (r s : Run A) (f : A → Run B) → r ≡ s → (r >>= f) ≡ (s >>= f)
bind_alike r s f e = ap (λ x. x >>= f) e

pub true_test : TrueTestSkipsTheRest
true_test default test result rest scope v e t = ap (after (cost 1)) (bind_alike _ _ _ (operand_as_ever default test scope v e) ∙ same_after _ _ _ v e (rw t refl))

pub false_test : FalseTestSkipsItsResult
false_test default test result other rest scope v e t =
    let as_ever = operand_as_ever default test scope v e in
    ap (after (cost 1)) (bind_alike _ _ _ as_ever ∙ (same_after _ _ _ v e (rw t refl) ∙ sym (bind_alike _ _ _ as_ever)))

pub false_argument : FalseEndsAnd
false_argument default first no_expressions scope v e t = refl
false_argument default first (expression next rest) scope v e t = ap (after (cost 1)) (bind_alike _ _ _ (operand_as_ever default first scope v e) ∙ nothing_after _ _ v e (rw t refl))

pub true_argument : TrueEndsOr
true_argument default first no_expressions scope v e t = refl
true_argument default first (expression next rest) scope v e t = ap (after (cost 1)) (nothing_after _ _ v e (rw t refl))

-- ---- a site whose entries are literal

-- the names and weights of entries
abbrev pub shares_of : Entries → List (Shape × Shape)
shares_of [] = []
shares_of (e ∷ es) = (text e.0, whole (pos e.1)) ∷ shares_of es

pairs-literal : (default : Option (List ℕ)) (bs : Buckets) (rule : Entries) (scope : Shape) → entries_of bs ≡ Some rule → pairs (bucket_meanings default bs) scope ≡ gives (shares_of rule)
pairs-literal default no_buckets rule scope e = let none : [] ≡ rule = cc in ap (λ r. gives (shares_of r)) none
pairs-literal default (bucket (literal_bucket name weight) bs) rule scope e = go (entries_of bs) refl e (λ es f. pairs-literal default bs es scope f)
  where
    go : (o : Option Entries) → entries_of bs ≡ o → option_map (λ es. (name, weight) ∷ es) o ≡ Some rule → ((es : Entries) → entries_of bs ≡ Some es → pairs (bucket_meanings default bs) scope ≡ gives (shares_of es))
        → pairs (bucket_meanings default (bucket (literal_bucket name weight) bs)) scope ≡ gives (shares_of rule)
    go None f g of_rest = absurd (cc)
    go (Some es) f g of_rest =
        let all : (name, weight) ∷ es ≡ rule = cc in
        let rest = of_rest es f in
        let one : Shape × Shape = (text name, whole (pos weight)) in
        rw (gives-then (text name), gives-then (whole (pos weight)), gives-then one, rest, gives-then (shares_of es)) (ap (λ r. gives (shares_of r)) all)
pairs-literal default (bucket (computed_bucket name weight) bs) rule scope e = absurd (cc)

shares-entries : (rule : Entries) → total_weight rule < 2 ^ 31 → buckets.entries_of (shares_of rule) ≡ Some rule
shares-entries [] h = refl
shares-entries (e ∷ es) h =
    let sum = total_weight-cons e es in
    let small : nat_lt e.1 (2 ^ 31) ≡ true = grind arith in
    rw (small, shares-entries es (omega arith)) refl

shares-buckets : (rule : Entries) → total_weight rule < 2 ^ 31 → buckets_of (shares_of rule) ≡ Some rule
shares-buckets rule h = let small : nat_lt (total_weight rule) (2 ^ 31) ≡ true = grind arith in ap (option_and_then not_too_heavy) (shares-entries rule h) ∙ rw small refl

decided-literal : (n : ℕ) (i : Option (Result (List ℕ) EvalFault)) (rule : Entries) → total_weight rule < 2 ^ 31 → decided n i (shares_of rule) ≡ by_input n i rule
decided-literal n i rule h = ap (by_buckets n i) (shares-buckets rule h)

same_next : {A B : Type 0} (r : Run A) (f g : A → Run B) → ((v : A) → f v ≡ g v) → (r >>= f) ≡ (r >>= g)
unfolding ◌>>=◌
same_next {A} {B} r f g h = go r.ending
  where
    go : (e : Result A EvalFault) → continues r.trace e f ≡ continues r.trace e g
    go (Ok v) = ap (after_trace r.trace) (h v)
    go (Err e) = refl

pub literal_site : LiteralSiteChooses
literal_site default n b bs rule scope e h =
    ap (after (cost 1)) (same_next _ _ _ (λ i. ap (λ r. r >>= decided n i) (pairs-literal default bs rule scope e) ∙ (gives-then (shares_of rule) (decided n i) ∙ decided-literal n i rule h)))
