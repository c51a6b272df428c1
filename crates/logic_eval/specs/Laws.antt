-- What the definition of an evaluation amounts to: which sites are reached, what a site gives, and what isn't evaluated.
use Rattle.std.specs.Prelude.{ℕ, ◌≡◌, ◌<◌, ◌-◌, ◌^◌, ◌==◌, nat_lt, if◌then◌else◌, true, false, List, [], ◌∷◌, map, Option, Some, Result, Ok, Err}
use Rattle.std.specs.List.{All}
use Rattle.bucket_core.specs.Rule.{Entries, IsRuleTotal, total_weight, choice}
use Rattle.flag_text.specs.Shape.{Shape}
use Rattle.logic_ast.specs.Expression.{Expression, operation, fractional, Expressions, expression, By, Buckets}
use Rattle.logic_ast.specs.Formed.{is_well_formed}
use Rattle.logic_ast.specs.Sites.{sites, entries_of, entries_at, with_entries}
use Rattle.logic_ast.specs.declared.operator.Operator.TheVariants.{If, And, Or}
use Rattle.logic_ast.specs.declared.operator.Operator.{Operator}
use Rattle.logic_eval.specs.Evaluation.{evaluation_of, meaning, operand_meaning, by_meaning, input}
use Rattle.logic_eval.specs.Fractional.{by_input}
use Rattle.logic_eval.specs.Operators.{applied, applied_exactly, has_decimal}
use Rattle.logic_eval.specs.Run.{Reach, Entry, cost, reach, after, ◌>>=◌, reached_of, most_units}
use Rattle.logic_eval.specs.Scope.{Situation, default_input, root_scope}
use Rattle.logic_values.specs.declared.fault.EvalFault.{EvalFault}
use Rattle.logic_values.specs.Truth.{is_true}

-- A reached entry is of a site of the expression: it has the site's number, and the total weight of its entries where they are literal.
pub record IsOfSite (e : Expression) (r : Reach) : Type 0 where
  pub number : r.site < sites e
  pub total : (es : Entries) → entries_at r.site e ≡ Ok es → r.total ≡ total_weight es

-- A site with a literal rule evaluates its bucketing expression and nothing else; then `by_input` says what it gives: null
-- without an input, else the name that the rule chooses for the input, which reaches the site with the rule's total weight.
abbrev pub LiteralSiteChooses : Type 0
LiteralSiteChooses =
    (default : Option (List ℕ)) (n : ℕ) (b : By) (bs : Buckets) (rule : Entries) (scope : Shape) → entries_of bs ≡ Some rule → total_weight rule < 2 ^ 31
    → meaning default (fractional n b bs) scope ≡ after (cost 1) (input default (by_meaning default b) scope >>= λ i. by_input n i rule)

-- `if` with a true test is the test and then its result: what stands behind them isn't evaluated.
abbrev pub TrueTestSkipsTheRest : Type 0
TrueTestSkipsTheRest =
    (default : Option (List ℕ)) (test result : Expression) (rest : Expressions) (scope v : Shape) → (meaning default test scope).ending ≡ Ok v → is_true v ≡ true
    → meaning default (operation If (expression test (expression result rest))) scope ≡ after (cost 1) (meaning default test scope >>= λ _. meaning default result scope)

-- `if` with a false test is the same whatever its result is.
abbrev pub FalseTestSkipsItsResult : Type 0
FalseTestSkipsItsResult =
    (default : Option (List ℕ)) (test result other : Expression) (rest : Expressions) (scope v : Shape) → (meaning default test scope).ending ≡ Ok v → is_true v ≡ false
    → meaning default (operation If (expression test (expression result rest))) scope ≡ meaning default (operation If (expression test (expression other rest))) scope

-- `and` with a false first argument is that argument alone.
abbrev pub FalseEndsAnd : Type 0
FalseEndsAnd =
    (default : Option (List ℕ)) (first : Expression) (rest : Expressions) (scope v : Shape) → (meaning default first scope).ending ≡ Ok v → is_true v ≡ false
    → meaning default (operation And (expression first rest)) scope ≡ after (cost 1) (meaning default first scope)

-- `or` with a true first argument is that argument alone.
abbrev pub TrueEndsOr : Type 0
TrueEndsOr =
    (default : Option (List ℕ)) (first : Expression) (rest : Expressions) (scope v : Shape) → (meaning default first scope).ending ≡ Ok v → is_true v ≡ true
    → meaning default (operation Or (expression first rest)) scope ≡ after (cost 1) (meaning default first scope)

-- An expression that gives a value, and so reads no number that is not whole, is evaluated where it is compared or tested as it is elsewhere.
abbrev pub ReadableOperandsAreAsEver : Type 0
ReadableOperandsAreAsEver = (default : Option (List ℕ)) (e : Expression) (scope v : Shape) → (meaning default e scope).ending ≡ Ok v → operand_meaning default e scope ≡ meaning default e scope

-- An operator that is given no decimal gives of its values what it gave before decimals were compared.
abbrev pub WithoutDecimalsAsEver : Type 0
WithoutDecimalsAsEver = (o : Operator) (scope : Shape) (vs : List Shape) → has_decimal vs ≡ false → applied_exactly o scope vs ≡ applied o scope vs

-- an entry of site n with this total, any other entry as it is
abbrev pub with_total : ℕ → ℕ → Reach → Reach
with_total n total r = if r.site == n then record { site = r.site; input = r.input; total = total } else r

-- the part of a trace that these units pay for
abbrev pub paid_for : ℕ → List Entry → List Entry
paid_for units [] = []
paid_for units (cost n ∷ t) = if nat_lt units n then [] else cost n ∷ paid_for (units - n) t
paid_for units (reach r ∷ t) = reach r ∷ paid_for units t

-- the sites that an evaluation reaches before it ends: with a value, with a fault, or where its budget is spent
abbrev pub reached_in : Expression → Situation → List Reach
reached_in e s = reached_of (paid_for most_units (meaning (default_input s) e (root_scope s)).trace)

-- Of an evaluation that gives a value they are the sites that it gives beside it.
abbrev pub ReachedAreGiven : Type 0
ReachedAreGiven = (e : Expression) (s : Situation) (v : Shape) (rs : List Reach) → evaluation_of e s ≡ Ok (v, rs) → reached_in e s ≡ rs

-- a fault, or the same value with each reached site changed
abbrev pub each_reached : (Reach → Reach) → Result (Shape × List Reach) EvalFault → Result (Shape × List Reach) EvalFault
each_reached f (Ok outcome) = Ok (outcome.0, map f outcome.1)
each_reached f (Err fault) = Err fault

-- Where one site gets another rule, and each input that reaches it chooses as before, an evaluation gives the same value, or
-- the same fault, and reaches the same sites by the same inputs: only that site's total is the new rule's.
abbrev pub OneSiteReplaced : Type 0
OneSiteReplaced =
    (e : Expression) (n : ℕ) (old new : Entries) (s : Situation)
    → is_well_formed e ≡ true → entries_at n e ≡ Ok old → IsRuleTotal (total_weight old) → IsRuleTotal (total_weight new)
    → All (λ r. r.site ≡ n → choice new r.input ≡ choice old r.input) (reached_in e s)
    → evaluation_of (with_entries n new e) s ≡ each_reached (with_total n (total_weight new)) (evaluation_of e s)
