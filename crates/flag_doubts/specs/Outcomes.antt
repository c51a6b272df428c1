-- What a targeting can result in, as far as it stands there to be read.
use Rattle.std.specs.Prelude.{ℕ, List, [], ◌∷◌, ◌++◌, codes, Bool, true, false, if◌then◌else◌, Option, Some, None, option_map}
use Rattle.flag_text.specs.Shape as shape
use Rattle.flag_text.specs.Shape.{Shape, null, boolean, text, Items, no_items, item}
use Rattle.logic_ast.specs.Expression.{Expression, literal, list, operation, fractional, Expressions, no_expressions, expression, Buckets, no_buckets, bucket, Bucket, literal_bucket, computed_bucket}
use Rattle.logic_ast.specs.declared.operator.Operator.{Operator}
use Rattle.logic_ast.specs.declared.operator.Operator.TheVariants as op
use Rattle.logic_values.specs.Comparison.{bool_eq}
use Rattle.logic_values.specs.Truth.{is_true}
use Rattle.flag_doubts.specs.Weights.{is_zero, literal_weight}
use Rattle.flag_doubts.specs.declared.given.Given.{Given}
use Rattle.flag_doubts.specs.declared.given.Given.TheVariants.{Computed, NoName, Truth}

-- a name, a value that is none, `true` or `false`, or what only an evaluation tells
pub data Outcome : Type 0 where
  named : List ℕ → Outcome
  nameless : Outcome
  truth : Outcome
  computed : Outcome

-- A text names a variant, and so do `true` and `false`; null leaves it at the default variant (flagd: targeting).
abbrev pub literal_outcomes : Shape → List Outcome
literal_outcomes null = []
literal_outcomes (text s) = named s ∷ []
literal_outcomes (boolean true) = named (codes "true") ∷ []
literal_outcomes (boolean false) = named (codes "false") ∷ []
literal_outcomes t = nameless ∷ []

-- the name of a bucket has to be a text
abbrev pub literal_name : Shape → Outcome
literal_name (text s) = named s
literal_name t = nameless

-- What an operation gives, whatever its arguments are (JsonLogic; flagd: custom operations): a test gives `true` or `false`,
-- arithmetic a number, and these a list. Of the others only an evaluation tells.
abbrev pub given_by : Operator → Given
given_by op.Not = Truth
given_by op.Truth = Truth
given_by op.Equal = Truth
given_by op.StrictEqual = Truth
given_by op.NotEqual = Truth
given_by op.StrictNotEqual = Truth
given_by op.Less = Truth
given_by op.LessOrEqual = Truth
given_by op.Greater = Truth
given_by op.GreaterOrEqual = Truth
given_by op.AllOf = Truth
given_by op.NoneOf = Truth
given_by op.SomeOf = Truth
given_by op.In = Truth
given_by op.StartsWith = Truth
given_by op.EndsWith = Truth
given_by op.SemVer = Truth
given_by op.Add = NoName
given_by op.Subtract = NoName
given_by op.Multiply = NoName
given_by op.Remainder = NoName
given_by op.Max = NoName
given_by op.Min = NoName
given_by op.Missing = NoName
given_by op.MissingSome = NoName
given_by op.Map = NoName
given_by op.Filter = NoName
given_by op.Merge = NoName
given_by o = Computed

-- a number or a list names no variant
abbrev pub given_outcome : Given → Outcome
given_outcome Truth = truth
given_outcome NoName = nameless
given_outcome Computed = computed

-- a list of as many values, whatever they are
abbrev pub as_many : Expressions → Items
as_many no_expressions = no_items
as_many (expression e es) = item null (as_many es)

-- Whether it counts as true (JsonLogic, "Truthy and Falsy"), where that stands there to be read: of a literal, and of a list
-- by whether it has items.
abbrev pub literal_truth : Expression → Option Bool
literal_truth (literal t) = Some (is_true t)
literal_truth (list es) = Some (is_true (shape.list (as_many es)))
literal_truth e = None

-- What comes out by a test that takes the first or leaves it to the others: of either, where only an evaluation tells.
abbrev pub by_test : Option Bool → List Outcome → List Outcome → List Outcome
by_test (Some true) first others = first
by_test (Some false) first others = others
by_test None first others = first ++ others

-- `if` results in one of its branches, `and` in its first argument that counts as false and `or` in its first that counts as true
abbrev pub operated : Operator → List Outcome → List Outcome → List Outcome → List Outcome
operated op.If branches first_false first_true = branches
operated op.And branches first_false first_true = first_false
operated op.Or branches first_false first_true = first_true
operated o branches first_false first_true = given_outcome (given_by o) ∷ []

-- What comes out of an expression, null left out. A list names no variant.
abbrev mutual
  pub outcomes : Expression → List Outcome
  outcomes (literal t) = literal_outcomes t
  outcomes (list es) = nameless ∷ []
  outcomes (operation o es) = operated o (branches es) (arguments false es) (arguments true es)
  outcomes (fractional n b bs) = names bs

  -- pairs of a test and a branch, and a last branch
  pub branches : Expressions → List Outcome
  branches no_expressions = []
  branches (expression last no_expressions) = outcomes last
  branches (expression test (expression e es)) = by_test (literal_truth test) (outcomes e) (branches es)

  -- the first argument that counts as wanted, else the last
  pub arguments : Bool → Expressions → List Outcome
  arguments wanted no_expressions = []
  arguments wanted (expression last no_expressions) = outcomes last
  arguments wanted (expression e (expression next es)) = by_test (option_map (bool_eq wanted) (literal_truth e)) (outcomes e) (arguments wanted (expression next es))

  -- a bucket of the literal weight 0 comes out for nobody
  pub names : Buckets → List Outcome
  names no_buckets = []
  names (bucket b bs) = if is_zero (literal_weight b) then names bs else name b ++ names bs

  pub name : Bucket → List Outcome
  name (literal_bucket s weight) = named s ∷ []
  name (computed_bucket (literal t) weight) = literal_name t ∷ []
  name (computed_bucket e weight) = outcomes e
