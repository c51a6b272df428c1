-- What is wrong with a tree that is read as an expression: the first fault in preorder.
use Rattle.std.specs.Prelude.{ℕ, suc, Bool, true, false, ◌&&◌, if◌then◌else◌, Option, Some, None}
use Rattle.flag_text.specs.Shape.{Shape, list, object, Items, no_items, item, Members, no_members, member}
use Rattle.logic_ast.specs.Operator.{operator_of, takes, is_fractional}
use Rattle.logic_ast.specs.declared.fault.LogicFault.{LogicFault}
use Rattle.logic_ast.specs.declared.fault.LogicFault.TheVariants.{UnknownOperator, BadArguments}
use Rattle.logic_ast.specs.declared.operator.Operator.{Operator}

-- the tree is a list
abbrev pub is_list_tree : Shape → Bool
is_list_tree (list ts) = true
is_list_tree t = false

abbrev pub item_count : Items → ℕ
item_count no_items = 0
item_count (item t ts) = suc (item_count ts)

-- one argument may stand without its list
abbrev pub argument_count : Shape → ℕ
argument_count (list ts) = item_count ts
argument_count t = 1

-- a list of a name, or of a name and a weight
abbrev pub is_bucket : Shape → Bool
is_bucket (list (item name no_items)) = true
is_bucket (list (item name (item weight no_items))) = true
is_bucket t = false

abbrev pub are_buckets : Items → Bool
are_buckets no_items = true
are_buckets (item t ts) = is_bucket t && are_buckets ts

-- buckets, after the bucketing expression if the first is no list
abbrev pub are_site_arguments : Items → Bool
are_site_arguments no_items = true
are_site_arguments (item (list ps) ts) = are_buckets (item (list ps) ts)
are_site_arguments (item t ts) = are_buckets ts

-- the first of two faults, the first in front
abbrev pub first : Option LogicFault → Option LogicFault → Option LogicFault
first (Some f) g = Some f
first None g = g

-- of the operator itself: the name, then the number of its arguments
abbrev pub operator_fault : Option Operator → ℕ → Option LogicFault
operator_fault None n = Some UnknownOperator
operator_fault (Some o) n = if takes o n then None else Some BadArguments

abbrev mutual
  pub expression_fault : Shape → Option LogicFault
  expression_fault (list ts) = expressions_fault ts
  expression_fault (object ms) = object_fault ms
  expression_fault t = None

  -- only in one of a single member is something read
  pub object_fault : Members → Option LogicFault
  object_fault (member name t no_members) = if is_fractional name then site_fault t else first (operator_fault (operator_of name) (argument_count t)) (arguments_fault t)
  object_fault ms = None

  pub expressions_fault : Items → Option LogicFault
  expressions_fault no_items = None
  expressions_fault (item t ts) = first (expression_fault t) (expressions_fault ts)

  pub arguments_fault : Shape → Option LogicFault
  arguments_fault (list ts) = expressions_fault ts
  arguments_fault (object ms) = object_fault ms
  arguments_fault t = None

  -- the shape of all the buckets comes before what is wrong inside the arguments
  pub site_fault : Shape → Option LogicFault
  site_fault (list ts) = if are_site_arguments ts then first (by_fault ts) (buckets_fault ts) else Some BadArguments
  site_fault (object ms) = object_fault ms
  site_fault t = None

  -- the first argument is the bucketing expression, unless it is a list
  pub by_fault : Items → Option LogicFault
  by_fault no_items = None
  by_fault (item (list ps) ts) = None
  by_fault (item t ts) = expression_fault t

  -- the buckets are the lists among the arguments
  pub buckets_fault : Items → Option LogicFault
  buckets_fault no_items = None
  buckets_fault (item t ts) = first (site_argument_fault t) (buckets_fault ts)

  pub site_argument_fault : Shape → Option LogicFault
  site_argument_fault (list ps) = bucket_fault ps
  site_argument_fault t = None

  -- nothing is wrong in a literal bucket
  pub bucket_fault : Items → Option LogicFault
  bucket_fault (item name no_items) = expression_fault name
  bucket_fault (item name (item weight ts)) = first (expression_fault name) (expression_fault weight)
  bucket_fault no_items = None
