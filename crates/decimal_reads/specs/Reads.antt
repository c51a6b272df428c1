-- The number at which the evaluation of a targeting ends: one of the context that is not whole, which a variable gives where it may not be read (JsonLogic: `var`).
use Rattle.std.specs.Prelude.{ℕ, Bool, true, false, not, ◌&&◌, ◌||◌, List, [], if◌then◌else◌, Option, Some, None, option_map, option_and_then, string_bytes, Result, Ok, Err}
use Rattle.std.specs.Fmt.{signed_decimal}
use Rattle.flag_text.specs.Shape.{Shape, null, whole, text}
use Rattle.logic_ast.specs.Expression.{Expression, literal, list, operation, fractional, Expressions, no_expressions, expression, By, no_by, by, Buckets, no_buckets, bucket, Bucket, literal_bucket, computed_bucket}
use Rattle.logic_ast.specs.declared.operator.Operator.{Operator}
use Rattle.logic_ast.specs.declared.operator.Operator.TheVariants as op
use Rattle.logic_values.specs.Decimals.{is_readable}
use Rattle.logic_values.specs.Comparison.{bool_eq}
use Rattle.logic_values.specs.Truth.{is_true}
use Rattle.logic_values.specs.declared.fault.EvalFault.{EvalFault}
use Rattle.logic_values.specs.declared.fault.EvalFault.TheVariants.{Arithmetic}
use Rattle.logic_eval.specs.Evaluation.{evaluation_of}
use Rattle.logic_eval.specs.Operators.{compares}
use Rattle.logic_eval.specs.Parts.{given_by}
use Rattle.logic_eval.specs.Run.{Reach}
use Rattle.logic_eval.specs.Scope.{Situation, find_text, root_scope}
use Rattle.decimal_reads.specs.Inside.{first_spelling, way_of}
use Rattle.decimal_reads.specs.declared.reading.DecimalRead.{DecimalRead}

-- a number that is not whole: the way to it, and its spelling
pub record Reading : Type 0 where
  pub way : List ℕ
  pub spelling : List ℕ

abbrev pub reading : List ℕ → List ℕ → Reading
reading way spelling = record { way = way; spelling = spelling }

-- ---- one variable

-- the first such number in what a path leads to: where this is compared or tested it may be such a number itself
abbrev pub unless_compared : Bool → List ℕ → Shape → Option Reading
unless_compared tested path t = if tested && is_readable t then None else option_map (reading (way_of path t)) (first_spelling t)

abbrev pub read_at : Bool → Shape → List ℕ → Option Reading
read_at tested scope path = option_and_then (unless_compared tested path) (find_text scope path)

-- the path that a first argument gives: null is the whole scope, a whole number its decimal text
abbrev pub path_in : Shape → Option (List ℕ)
path_in null = Some []
path_in (text s) = Some s
path_in (whole n) = Some (signed_decimal n)
path_in t = None

-- ---- the parts of a targeting, in the order in which they are evaluated

abbrev pub Outcome : Type 0
Outcome = Result (Shape × List Reach) EvalFault

abbrev pub value_of : Outcome → Option Shape
value_of (Ok r) = Some r.0
value_of (Err f) = None

-- whether what a part gives counts as true; none where the evaluation ends in it
abbrev pub truth_of : Bool → Situation → Expression → Option Bool
truth_of tested s e = option_map is_true (value_of (given_by tested e s))

-- The evaluation goes on after a part, or ends in it: at such a number, or for another reason.
pub data Course : Type 0 where
  goes_on : Course
  ends : Option Reading → Course

-- after a part whose value is that true; a literal ends none
abbrev pub course_of : Expression → Option Bool → Option Reading → Course
course_of (literal t) truth reading = goes_on
course_of e (Some b) reading = goes_on
course_of e None reading = ends reading

-- where it goes on, what follows decides
abbrev pub then_course : Course → Course → Course
then_course goes_on following = following
then_course (ends reading) following = ends reading

abbrev pub reading_or : Course → Option Reading → Option Reading
reading_or goes_on following = following
reading_or (ends reading) following = reading

-- the variable itself, once its arguments have their values
abbrev pub read_by : Bool → Situation → Expressions → Option Reading
read_by tested s no_expressions = read_at tested (root_scope s) []
read_by tested s (expression e es) = option_and_then (read_at tested (root_scope s)) (option_and_then path_in (value_of (given_by false e s)))

-- after the test of an `if`, what it chooses
abbrev pub read_by_test : Option Bool → Option Reading → Option Reading → Option Reading → Option Reading
read_by_test None test result otherwise = test
read_by_test (Some b) test result otherwise = if b then result else otherwise

-- after an argument of `and` or `or`, the next one unless this is the value
abbrev pub read_by_truth : Bool → Option Bool → Option Reading → Option Reading → Option Reading
read_by_truth wanted None here next = here
read_by_truth wanted (Some b) here next = if bool_eq wanted b then None else next

-- Where the evaluation of an expression ends. The items at which `map` and its like evaluate their second argument have no such numbers, for no
-- value of an evaluation has one.
abbrev mutual
  pub read_in : Bool → Situation → Expression → Option Reading
  read_in tested s (literal t) = None
  read_in tested s (list es) = reading_or (courses false s es) None
  read_in tested s (operation op.If es) = read_in_conditional s es
  read_in tested s (operation op.And es) = read_in_truth false tested s es
  read_in tested s (operation op.Or es) = read_in_truth true tested s es
  read_in tested s (operation op.Var es) = reading_or (courses false s es) (read_by tested s es)
  read_in tested s (operation op.Map es) = read_in_items s es
  read_in tested s (operation op.Filter es) = read_in_items s es
  read_in tested s (operation op.AllOf es) = read_in_items s es
  read_in tested s (operation op.SomeOf es) = read_in_items s es
  read_in tested s (operation op.NoneOf es) = read_in_items s es
  read_in tested s (operation op.Reduce es) = read_in_reduce s es
  read_in tested s (operation o es) = reading_or (courses (compares o) s es) None
  read_in tested s (fractional n b bs) = reading_or (course_by s b) (reading_or (course_in_buckets s bs) None)

  pub courses : Bool → Situation → Expressions → Course
  courses tested s no_expressions = goes_on
  courses tested s (expression e es) = then_course (course_of e (truth_of tested s e) (read_in tested s e)) (courses tested s es)

  pub read_in_conditional : Situation → Expressions → Option Reading
  read_in_conditional s no_expressions = None
  read_in_conditional s (expression last no_expressions) = read_in false s last
  read_in_conditional s (expression test (expression result rest)) = read_by_test (truth_of true s test) (read_in true s test) (read_in false s result) (read_in_conditional s rest)

  pub read_in_truth : Bool → Bool → Situation → Expressions → Option Reading
  read_in_truth wanted tested s no_expressions = None
  read_in_truth wanted tested s (expression last no_expressions) = read_in tested s last
  read_in_truth wanted tested s (expression e (expression next rest)) =
      read_by_truth wanted (truth_of (tested || not wanted) s e) (read_in (tested || not wanted) s e) (read_in_truth wanted tested s (expression next rest))

  -- the list of `map` and its like
  pub read_in_items : Situation → Expressions → Option Reading
  read_in_items s no_expressions = None
  read_in_items s (expression items no_expressions) = None
  read_in_items s (expression items (expression body rest)) = read_in false s items

  -- that of `reduce`, then its start value
  pub read_in_reduce : Situation → Expressions → Option Reading
  read_in_reduce s no_expressions = None
  read_in_reduce s (expression items no_expressions) = None
  read_in_reduce s (expression items (expression body rest)) = reading_or (course_of items (truth_of false s items) (read_in false s items)) (read_in_start s rest)

  pub read_in_start : Situation → Expressions → Option Reading
  read_in_start s no_expressions = None
  read_in_start s (expression start rest) = read_in false s start

  pub course_by : Situation → By → Course
  course_by s no_by = goes_on
  course_by s (by e) = course_of e (truth_of false s e) (read_in false s e)

  pub course_in_buckets : Situation → Buckets → Course
  course_in_buckets s no_buckets = goes_on
  course_in_buckets s (bucket b bs) = then_course (course_in_bucket s b) (course_in_buckets s bs)

  pub course_in_bucket : Situation → Bucket → Course
  course_in_bucket s (literal_bucket name weight) = goes_on
  course_in_bucket s (computed_bucket name weight) = then_course (course_of name (truth_of false s name) (read_in false s name)) (course_of weight (truth_of false s weight) (read_in false s weight))

-- an operation
abbrev pub read_in_operation : Operator → Bool → Situation → Expressions → Option Reading
read_in_operation o tested s es = read_in tested s (operation o es)

-- a part, where it is compared or tested or not
abbrev pub course : Bool → Situation → Expression → Course
course tested s e = course_of e (truth_of tested s e) (read_in tested s e)

-- an evaluation that ends in another fault, or with a value, ends at no such number
abbrev pub is_arithmetic : Outcome → Bool
is_arithmetic (Err Arithmetic) = true
is_arithmetic o = false

-- the number at which the evaluation of an expression ends
abbrev pub ended_at : Expression → Situation → Option Reading
ended_at e s = if is_arithmetic (evaluation_of e s) then read_in false s e else None

-- ---- of the program

abbrev pub read_view : DecimalRead → Reading
read_view r = reading (string_bytes r.way) r.spelling.items
