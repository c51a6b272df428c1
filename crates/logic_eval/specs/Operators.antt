-- The operators over the meanings of their arguments, each by its JsonLogic or flagd name.
use Rattle.std.specs.Prelude.{ℕ, unwrap_or, slice_get, Bool, true, false, not, ◌&&◌, List, [], ◌∷◌, if◌then◌else◌, Result, Ok, Err}
use Rattle.flag_text.specs.Shape.{Shape, null, boolean, list, has_other}
use Rattle.flag_text.specs.View.{items_of}
use Rattle.logic_ast.specs.declared.operator.Operator.{Operator}
use Rattle.logic_ast.specs.declared.operator.Operator.TheVariants as op
use Rattle.logic_values.specs.declared.fault.EvalFault.{EvalFault}
use Rattle.logic_values.specs.declared.fault.EvalFault.TheVariants.{Arithmetic}
use Rattle.logic_values.specs.Arithmetic.{if_number, sum, product, difference, remainder, maximum, minimum}
use Rattle.logic_values.specs.Comparison.{bool_eq, is_same, is_equal, is_less, is_at_most, is_chain}
use Rattle.logic_values.specs.Decimals.{is_decimal, is_readable, less, at_most, equal, same, chain}
use Rattle.logic_values.specs.Lists.{items_in, merged, is_in}
use Rattle.logic_values.specs.Objects.{reduce_scope}
use Rattle.logic_eval.specs.Run.{cost, Run, ends, gives, after, ◌>>=◌}
use Rattle.logic_eval.specs.Scope.{size, variable, missing, missing_some}
use Rattle.logic_values.specs.Text.{joined, part, both_texts}
use Rattle.logic_values.specs.Truth.{is_true}
use Rattle.logic_values.specs.Version.{version_matches}
use Rattle.std.specs.List.{list_any, starts_with, ends_with}
use Rattle.std.specs.Prelude.{nat_eq}

-- what an expression gives, by the scope
abbrev pub Meaning : Type 0
Meaning = Shape → Run Shape

-- the values of all, from the left
abbrev pub values : List Meaning → Shape → Run (List Shape)
values [] scope = gives []
values (m ∷ ms) scope = m scope >>= λ v. values ms scope >>= λ vs. gives (v ∷ vs)

-- the argument at a place, null where there is none
abbrev pub argument : ℕ → List Shape → Shape
argument k vs = unwrap_or (slice_get vs k) null

-- the operators that only test their first two arguments
abbrev pub test_of : Operator → Shape → Shape → Bool
test_of op.Not a b = not (is_true a)
test_of op.Truth a b = is_true a
test_of op.Equal a b = is_equal a b
test_of op.StrictEqual a b = is_same a b
test_of op.NotEqual a b = not (is_equal a b)
test_of op.StrictNotEqual a b = not (is_same a b)
test_of op.Greater a b = is_less b a
test_of op.GreaterOrEqual a b = is_at_most b a
test_of op.In a b = is_in a b
test_of op.StartsWith a b = both_texts (starts_with nat_eq) a b
test_of op.EndsWith a b = both_texts (ends_with nat_eq) a b
test_of o a b = false

-- what an operator that takes the values of all its arguments gives
abbrev pub applied : Operator → Shape → List Shape → Result Shape EvalFault
applied op.Missing scope vs = Ok (list (items_of (missing scope vs)))
applied op.MissingSome scope vs = missing_some scope (argument 0 vs) (argument 1 vs)
applied op.Less scope vs = Ok (boolean (is_chain is_less vs))
applied op.LessOrEqual scope vs = Ok (boolean (is_chain is_at_most vs))
applied op.Add scope vs = if_number (sum vs)
applied op.Subtract scope vs = if_number (difference vs)
applied op.Multiply scope vs = if_number (product vs)
applied op.Remainder scope vs = if_number (remainder (argument 0 vs) (argument 1 vs))
applied op.Max scope vs = if_number (maximum vs)
applied op.Min scope vs = if_number (minimum vs)
applied op.Merge scope vs = Ok (merged vs)
applied op.Cat scope vs = joined vs
applied op.Substr scope vs = part vs
applied op.SemVer scope vs = Ok (boolean (version_matches (argument 0 vs) (argument 1 vs) (argument 2 vs)))
applied o scope vs = Ok (boolean (test_of o (argument 0 vs) (argument 1 vs)))

-- ---- decimals: numbers of the context that are not whole

abbrev pub has_decimal : List Shape → Bool
has_decimal vs = list_any is_decimal vs

abbrev pub negated : Result Bool EvalFault → Result Bool EvalFault
negated (Ok b) = Ok (not b)
negated (Err e) = Err e

-- what the operators give that compare or test their first two arguments, where one of those may be a decimal; any other is a fault
abbrev pub exact_test_of : Operator → Shape → Shape → Result Bool EvalFault
exact_test_of op.Equal a b = equal a b
exact_test_of op.StrictEqual a b = same a b
exact_test_of op.NotEqual a b = negated (equal a b)
exact_test_of op.StrictNotEqual a b = negated (same a b)
exact_test_of op.Greater a b = less b a
exact_test_of op.GreaterOrEqual a b = at_most b a
exact_test_of op.Not a b = Ok (not (is_true a))
exact_test_of op.Truth a b = Ok (is_true a)
exact_test_of o a b = Err Arithmetic

abbrev pub exact_test : Operator → List Shape → Result Bool EvalFault
exact_test op.Less vs = chain less vs
exact_test op.LessOrEqual vs = chain at_most vs
exact_test o vs = exact_test_of o (argument 0 vs) (argument 1 vs)

abbrev pub if_tested : Result Bool EvalFault → Result Shape EvalFault
if_tested (Ok b) = Ok (boolean b)
if_tested (Err e) = Err e

-- what an operator gives of the values: as ever, unless one of them is a decimal
abbrev pub applied_exactly : Operator → Shape → List Shape → Result Shape EvalFault
applied_exactly o scope vs = if has_decimal vs then if_tested (exact_test o vs) else applied o scope vs

-- `var` also costs the size of what it gives
abbrev pub found : Shape → Run Shape
found v = after (cost (size v)) (gives v)

-- no evaluation goes on with a number that is not whole: the context may have one, which is in nobody's way until it is read
abbrev pub read : Shape → Run Shape
read v = ends (if has_other v then Err Arithmetic else Ok v)

abbrev pub found_whole : Shape → Run Shape
found_whole v = found v >>= read

abbrev pub variable_run : List Meaning → Meaning
variable_run ms scope = values ms scope >>= λ vs. found_whole (variable scope vs)

abbrev pub is_unreadable : Shape → Bool
is_unreadable v = has_other v && not (is_readable v)

-- a decimal within the limits of exact numbers may be read where it is compared or tested
abbrev pub read_decimal : Shape → Run Shape
read_decimal v = ends (if is_unreadable v then Err Arithmetic else Ok v)

abbrev pub found_decimal : Shape → Run Shape
found_decimal v = found v >>= read_decimal

-- the operators that compare or test all their arguments
abbrev pub compares : Operator → Bool
compares op.Less = true
compares op.LessOrEqual = true
compares op.Greater = true
compares op.GreaterOrEqual = true
compares op.Equal = true
compares op.NotEqual = true
compares op.StrictEqual = true
compares op.StrictNotEqual = true
compares op.Not = true
compares op.Truth = true
compares o = false

-- the tests of `if` as operands: of each two arguments the first
abbrev pub with_tests : List Meaning → List Meaning → List Meaning
with_tests (m ∷ result ∷ ms) (test ∷ n ∷ tests) = test ∷ result ∷ with_tests ms tests
with_tests ms tests = ms

abbrev pub unless_last : List Meaning → Meaning → Meaning → Meaning
unless_last [] m test = m
unless_last (next ∷ rest) m test = test

-- those of `and`: all arguments but the last
abbrev pub with_early_tests : List Meaning → List Meaning → List Meaning
with_early_tests (m ∷ ms) (test ∷ tests) = unless_last ms m test ∷ with_early_tests ms tests
with_early_tests ms tests = ms

-- The arguments of an operator, those that it compares or tests as operands. An argument of `or` that counts as true is its value, too, so it
-- may be a decimal only where the `or` itself is compared or tested; the items at which `filter`, `all`, `some` and `none` test have no decimals.
-- For no value of an evaluation has one.
abbrev pub asked : Operator → List Meaning → List Meaning → List Meaning
asked op.If ms operands = with_tests ms operands
asked op.And ms operands = with_early_tests ms operands
asked o ms operands = if compares o then operands else ms

-- the values of all arguments, then the operator on them
abbrev pub strict : Operator → List Meaning → Meaning
strict o ms scope = values ms scope >>= λ vs. ends (applied_exactly o scope vs)

-- `if`: pairs of a test and a result, and a last result
abbrev pub conditional : List Meaning → Meaning
conditional [] scope = gives null
conditional (last ∷ []) scope = last scope
conditional (test ∷ result ∷ rest) scope = test scope >>= λ v. if is_true v then result scope else conditional rest scope

-- `and` looks for a value that counts as false, `or` for one that counts as true: the first, else the last
abbrev pub first_of_truth : Bool → List Meaning → Meaning
first_of_truth wanted [] scope = gives null
first_of_truth wanted (last ∷ []) scope = last scope
first_of_truth wanted (m ∷ next ∷ rest) scope = m scope >>= λ v. if bool_eq wanted (is_true v) then gives v else first_of_truth wanted (next ∷ rest) scope

-- `map`: the body's value at each item
abbrev pub mapped : Meaning → List Shape → Run (List Shape)
mapped body [] = gives []
mapped body (t ∷ ts) = body t >>= λ v. mapped body ts >>= λ vs. gives (v ∷ vs)

-- `filter`: the items at which the body counts as true
abbrev pub kept : Meaning → List Shape → Run (List Shape)
kept body [] = gives []
kept body (t ∷ ts) = body t >>= λ v. kept body ts >>= λ vs. gives (if is_true v then t ∷ vs else vs)

-- whether the body counts as true (false) at some item: it stops at the first
abbrev pub occurs : Bool → Meaning → List Shape → Run Bool
occurs wanted body [] = gives false
occurs wanted body (t ∷ ts) = body t >>= λ v. if bool_eq wanted (is_true v) then gives true else occurs wanted body ts

abbrev pub is_empty : List Shape → Bool
is_empty [] = true
is_empty (t ∷ ts) = false

-- `all`, false of no items
abbrev pub all_of : Meaning → List Shape → Run Shape
all_of body ts = if is_empty ts then gives (boolean false) else (occurs false body ts >>= λ b. gives (boolean (not b)))

-- `some`
abbrev pub some_of : Meaning → List Shape → Run Shape
some_of body ts = occurs true body ts >>= λ b. gives (boolean b)

-- `none`
abbrev pub none_of : Meaning → List Shape → Run Shape
none_of body ts = occurs true body ts >>= λ b. gives (boolean (not b))

-- `reduce`: the body from item to item, on the value so far
abbrev pub reduced : Meaning → Shape → List Shape → Run Shape
reduced body so_far [] = gives so_far
reduced body so_far (t ∷ ts) = body (reduce_scope so_far t) >>= λ v. reduced body v ts

abbrev pub as_list : List Shape → Run Shape
as_list vs = gives (list (items_of vs))

-- the operators that run a body over the items of a list
abbrev pub over_items : Operator → Meaning → List Shape → Run Shape
over_items op.Map body ts = mapped body ts >>= as_list
over_items op.Filter body ts = kept body ts >>= as_list
over_items op.AllOf body ts = all_of body ts
over_items op.SomeOf body ts = some_of body ts
over_items op.NoneOf body ts = none_of body ts
over_items o body ts = gives null

-- the list is evaluated at the scope, the body at each item
abbrev pub over : Operator → List Meaning → Meaning
over o [] scope = gives null
over o (items ∷ []) scope = gives null
over o (items ∷ body ∷ rest) scope = items scope >>= λ v. over_items o body (items_in v)

-- the start value of `reduce`, null where it is absent
abbrev pub start : List Meaning → Meaning
start [] scope = gives null
start (m ∷ ms) scope = m scope

-- the list, then the start value
abbrev pub over_from_start : List Meaning → Meaning
over_from_start [] scope = gives null
over_from_start (items ∷ []) scope = gives null
over_from_start (items ∷ body ∷ rest) scope = items scope >>= λ v. start rest scope >>= λ u. reduced body u (items_in v)

-- an operator on the meanings of its arguments
abbrev pub operated : Operator → List Meaning → Meaning
operated op.Var ms = variable_run ms
operated op.If ms = conditional ms
operated op.And ms = first_of_truth false ms
operated op.Or ms = first_of_truth true ms
operated op.Map ms = over op.Map ms
operated op.Filter ms = over op.Filter ms
operated op.AllOf ms = over op.AllOf ms
operated op.SomeOf ms = over op.SomeOf ms
operated op.NoneOf ms = over op.NoneOf ms
operated op.Reduce ms = over_from_start ms
operated o ms = strict o ms

-- The same where its value is compared or tested: `var` may give a decimal there, and `and` and `or` give one of their arguments, all of
-- which may be decimals for that reason.
abbrev pub tested_operated : Operator → List Meaning → List Meaning → Meaning
tested_operated op.Var ms operands = λ scope. values ms scope >>= λ vs. found_decimal (variable scope vs)
tested_operated op.And ms operands = first_of_truth false operands
tested_operated op.Or ms operands = first_of_truth true operands
tested_operated o ms operands = operated o (asked o ms operands)
