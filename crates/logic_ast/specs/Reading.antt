-- Which expression a tree stands for.
use Rattle.std.specs.Prelude.{ℕ, suc, ◌+◌, pos, List, [], if◌then◌else◌, Option, Some, None, Result, Ok, Err}
use Rattle.bucket_core.specs.Reading.{bucket_from as entry_of}
use Rattle.flag_text.specs.Shape as shape
use Rattle.flag_text.specs.Shape.{Shape, null, whole, text, object, Items, no_items, item, Members, no_members, member}
use Rattle.logic_ast.specs.Expression.{Expression, literal, list, operation, fractional, Expressions, no_expressions, expression, By, no_by, by, Buckets, no_buckets, bucket, Bucket, literal_bucket, computed_bucket}
use Rattle.logic_ast.specs.FirstFault.{expression_fault}
use Rattle.logic_ast.specs.Operator.{operator_of, is_fractional}
use Rattle.logic_ast.specs.Sites.{sites, sites_in_by, sites_in_bucket}
use Rattle.logic_ast.specs.Size.{is_too_big}
use Rattle.logic_ast.specs.declared.fault.LogicFault.{LogicFault}
use Rattle.logic_ast.specs.declared.fault.LogicFault.TheVariants.{TooBig}
use Rattle.logic_ast.specs.declared.operator.Operator.{Operator}

abbrev pub alone : Expression → Expressions
alone e = expression e no_expressions

-- what is read where the operator is unknown is not looked at
abbrev pub operation_of : Option Operator → Expressions → Expression
operation_of None es = literal null
operation_of (Some o) es = operation o es

-- a literal bucket, or the computed one
abbrev pub or_computed : Option (List ℕ × ℕ) → Bucket → Bucket
or_computed None made = made
or_computed (Some p) made = literal_bucket p.0 p.1

-- The expression of a tree in which nothing is wrong, its sites numbered in preorder from k.
abbrev mutual
  pub expression_from : ℕ → Shape → Expression
  expression_from k (shape.list ts) = list (expressions_from k ts)
  expression_from k (object ms) = object_from k ms
  expression_from k t = literal t

  -- one member makes an operation, none or several a literal
  pub object_from : ℕ → Members → Expression
  object_from k (member name t no_members) = if is_fractional name then site_from k t else operation_of (operator_of name) (arguments_from k t)
  object_from k ms = literal (object ms)

  pub expressions_from : ℕ → Items → Expressions
  expressions_from k no_items = no_expressions
  expressions_from k (item t ts) = expression (expression_from k t) (expressions_from (k + sites (expression_from k t)) ts)

  -- one argument may stand without its list
  pub arguments_from : ℕ → Shape → Expressions
  arguments_from k (shape.list ts) = expressions_from k ts
  arguments_from k (object ms) = alone (object_from k ms)
  arguments_from k t = alone (literal t)

  pub site_from : ℕ → Shape → Expression
  site_from k (shape.list ts) = fractional k (by_from (suc k) ts) (buckets_from (suc k + sites_in_by (by_from (suc k) ts)) ts)
  site_from k (object ms) = fractional k (by (object_from (suc k) ms)) no_buckets
  site_from k t = fractional k (by (literal t)) no_buckets

  -- the first argument, unless it is a list
  pub by_from : ℕ → Items → By
  by_from k no_items = no_by
  by_from k (item (shape.list ps) ts) = no_by
  by_from k (item t ts) = by (expression_from k t)

  -- the lists among the arguments
  pub buckets_from : ℕ → Items → Buckets
  buckets_from k no_items = no_buckets
  buckets_from k (item (shape.list ps) ts) =
      bucket (or_computed (entry_of ps) (computed_from k ps)) (buckets_from (k + sites_in_bucket (or_computed (entry_of ps) (computed_from k ps))) ts)
  buckets_from k (item t ts) = buckets_from k ts

  -- Without a weight it is 1; a list of nothing is no bucket, and what is made of it is not looked at.
  pub computed_from : ℕ → Items → Bucket
  computed_from k no_items = literal_bucket [] 0
  computed_from k (item name no_items) = computed_bucket (expression_from k name) (literal (whole (pos 1)))
  computed_from k (item name (item weight ts)) = computed_bucket (expression_from k name) (expression_from (k + sites (expression_from k name)) weight)

abbrev pub bucket_from : ℕ → Items → Bucket
bucket_from k ps = or_computed (entry_of ps) (computed_from k ps)

abbrev pub unless : {A : Type 0} → Option LogicFault → A → Result A LogicFault
unless (Some f) a = Err f
unless None a = Ok a

-- why a tree is refused: too big, then the first fault in preorder
abbrev pub refusal : Shape → Option LogicFault
refusal t = if is_too_big t then Some TooBig else expression_fault t

-- The reading of a tree: too big, then the first fault in preorder, then the expression.
abbrev pub reading : Shape → Result Expression LogicFault
reading t = if is_too_big t then Err TooBig else unless (expression_fault t) (expression_from 0 t)
