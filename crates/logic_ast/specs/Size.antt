-- How large an expression is: its nodes and its levels, as `write_expr` writes it, without its literal buckets.
use Rattle.std.specs.Prelude.{ℕ, suc, ◌+◌, ◌-◌, max, List, Bool, ◌&&◌, ◌||◌, nat_lt, nat_le, if◌then◌else◌, Option, Some, None}
use Rattle.limits.specs.Limits.{expression_nodes, expression_levels}
use Rattle.bucket_core.specs.Reading.{bucket_from as entry_of}
use Rattle.flag_text.specs.Shape.{Shape, list, object, Items, no_items, item, Members, no_members, member}
use Rattle.logic_ast.specs.Operator.{is_fractional}

pub record Size : Type 0 where
  pub nodes : ℕ
  pub levels : ℕ

-- of nothing
abbrev pub nothing : Size
nothing = record { nodes = 0; levels = 0 }

-- of a scalar
abbrev pub scalar : Size
scalar = record { nodes = 1; levels = 0 }

-- of two parts of one list or object
abbrev pub beside : Size → Size → Size
beside a b = record { nodes = a.nodes + b.nodes; levels = max a.levels b.levels }

-- of a list or an object round its parts
abbrev pub around : Size → Size
around s = record { nodes = suc s.nodes; levels = suc s.levels }

-- A tree in full: each scalar, list and object is a node.
abbrev mutual
  pub full_size : Shape → Size
  full_size (list ts) = around (items_size ts)
  full_size (object ms) = around (members_size ms)
  full_size t = scalar

  pub items_size : Items → Size
  items_size no_items = nothing
  items_size (item t ts) = beside (full_size t) (items_size ts)

  pub members_size : Members → Size
  members_size no_members = nothing
  members_size (member k t ms) = beside (full_size t) (members_size ms)

-- a literal bucket counts nothing, another is a list round its parts
abbrev pub unless_literal : Option (List ℕ × ℕ) → Size → Size
unless_literal None s = around s
unless_literal (Some entry) s = nothing

-- The same of an expression, by each way in which a tree is read.
abbrev mutual
  pub expression_size : Shape → Size
  expression_size (list ts) = around (expressions_size ts)
  expression_size (object ms) = object_size ms
  expression_size t = scalar

  -- an operation with its list of arguments, or a literal in full
  pub object_size : Members → Size
  object_size (member name t no_members) = around (around (if is_fractional name then site_size t else arguments_size t))
  object_size ms = around (members_size ms)

  pub expressions_size : Items → Size
  expressions_size no_items = nothing
  expressions_size (item t ts) = beside (expression_size t) (expressions_size ts)

  -- the arguments of an operator, without the list
  pub arguments_size : Shape → Size
  arguments_size (list ts) = expressions_size ts
  arguments_size (object ms) = object_size ms
  arguments_size t = scalar

  -- the arguments of `fractional`, without the list
  pub site_size : Shape → Size
  site_size (list ts) = buckets_size ts
  site_size (object ms) = object_size ms
  site_size t = scalar

  pub buckets_size : Items → Size
  buckets_size no_items = nothing
  buckets_size (item t ts) = beside (site_argument_size t) (buckets_size ts)

  -- The bucketing expression is no list. What else is no bucket is counted as an expression, too.
  pub site_argument_size : Shape → Size
  site_argument_size (list ps) = unless_literal (entry_of ps) (bucket_parts_size ps)
  site_argument_size (object ms) = object_size ms
  site_argument_size t = scalar

  -- an absent weight is written as 1
  pub bucket_parts_size : Items → Size
  bucket_parts_size no_items = nothing
  bucket_parts_size (item name no_items) = beside (expression_size name) scalar
  bucket_parts_size (item a (item b ts)) = beside (expression_size a) (beside (expression_size b) (expressions_size ts))

abbrev pub bucket_size : Items → Size
bucket_size ps = unless_literal (entry_of ps) (bucket_parts_size ps)

abbrev pub max_nodes : ℕ
max_nodes = expression_nodes

abbrev pub max_levels : ℕ
max_levels = expression_levels

abbrev pub is_over : Size → Bool
is_over s = nat_lt max_nodes s.nodes || nat_lt max_levels s.levels

abbrev pub is_too_big : Shape → Bool
is_too_big t = is_over (expression_size t)

-- The two below serve private contracts alone.

-- how many of the nodes are left, where there are at most so many levels and nodes
abbrev pub left_after : ℕ → ℕ → Size → Option ℕ
left_after levels nodes s = if nat_le s.levels levels && nat_le s.nodes nodes then Some (nodes - s.nodes) else None

-- the levels and nodes that are left for the parts of a list or an object
abbrev pub left_inside : ℕ → ℕ → Option (ℕ × ℕ)
left_inside levels nodes = if nat_lt 0 levels && nat_lt 0 nodes then Some (levels - 1, nodes - 1) else None
