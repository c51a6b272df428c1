-- What is wrong with an operation itself, whatever stands in its arguments.
use Rattle.std.specs.Prelude.{ℕ, ◌+◌, ◌==◌, Bool, List, if◌then◌else◌, Option, Some, None, option_map}
use Rattle.flag_text.specs.Shape.{Shape, list, Items, no_items, item}
use Rattle.logic_ast.specs.FirstFault.{argument_count, is_bucket}
use Rattle.logic_ast.specs.Operator.{operator_of, takes, is_fractional}
use Rattle.logic_ast.specs.declared.fault.LogicFault.{LogicFault}
use Rattle.logic_ast.specs.declared.fault.LogicFault.TheVariants.{UnknownOperator, BadArguments}
use Rattle.logic_ast.specs.declared.misuse.Misuse.{Misuse}
use Rattle.logic_ast.specs.declared.misuse.Misuse.TheVariants as misuse
use Rattle.logic_ast.specs.declared.operator.Operator.{Operator}

-- A `fractional` may have this as its argument at place n: a bucket, or in front a bucketing expression, which is no list.
abbrev pub is_site_argument : ℕ → Shape → Bool
is_site_argument n (list ps) = is_bucket (list ps)
is_site_argument n t = n == 0

-- the place of the first that it may not have, counted from n
abbrev pub first_no_bucket : ℕ → Items → Option ℕ
first_no_bucket n no_items = None
first_no_bucket n (item t ts) = if is_site_argument n t then first_no_bucket (n + 1) ts else Some n

-- one argument may stand without its list, and is the bucketing expression
abbrev pub no_bucket_in : Shape → Option ℕ
no_bucket_in (list ts) = first_no_bucket 0 ts
no_bucket_in t = None

-- the operator is unknown, or does not take so many arguments
abbrev pub operator_misuse : Option Operator → ℕ → Option Misuse
operator_misuse None n = Some misuse.Operator
operator_misuse (Some o) n = if takes o n then None else Some (misuse.Arguments n)

-- of an operation by its name and its arguments
abbrev pub misuse_of : List ℕ → Shape → Option Misuse
misuse_of name t = if is_fractional name then option_map misuse.Bucket (no_bucket_in t) else operator_misuse (operator_of name) (argument_count t)

-- the fault that it is refused with
abbrev pub fault_of : Misuse → LogicFault
fault_of misuse.Operator = UnknownOperator
fault_of (misuse.Arguments n) = BadArguments
fault_of (misuse.Bucket n) = BadArguments
