-- How large a tree is as a part of a literal and as an expression: what is needed of a part that is no argument of `fractional`.
use Rattle.std.specs.Prelude.{ℕ, suc, max, true, false, ◌&&◌, List, length, Option, Some, None}
use Rattle.flag_text.specs.Shape.{Shape, null, boolean, whole, other, text, list, object, is_in_range}
use Rattle.logic_ast.specs.Operator.{operator_of}
use Rattle.flag_references.specs.Measure.{plus, scalar_of, takes_count, when}
use Rattle.flag_references.specs.declared.extent.Extent.{Extent}
use Rattle.flag_references.specs.declared.measure.Measure.{Measure}
use Rattle.flag_references.specs.declared.measure.Parts.{Parts}

abbrev pub extent : Measure → Extent
extent m = record {
  full_nodes = m.full.nodes;
  full_levels = m.full.levels;
  nodes = m.expression.nodes;
  levels = m.expression.levels;
  bytes = m.bytes;
  is_full_sound = m.full.is_sound;
  is_sound = m.expression.is_sound;
}

-- of the items of a list, together
abbrev pub parts_extent : Parts → Extent
parts_extent p = record {
  full_nodes = p.full.nodes;
  full_levels = p.full.levels;
  nodes = p.expressions.nodes;
  levels = p.expressions.levels;
  bytes = p.bytes;
  is_full_sound = p.full.is_sound;
  is_sound = p.expressions.is_sound;
}

abbrev pub extent_of_nothing : Extent
extent_of_nothing = record { full_nodes = 0; full_levels = 0; nodes = 0; levels = 0; bytes = 0; is_full_sound = true; is_sound = true }

-- of two parts of one list
abbrev pub beside_extent : Extent → Extent → Extent
beside_extent a b = record {
  full_nodes = plus a.full_nodes b.full_nodes;
  full_levels = max a.full_levels b.full_levels;
  nodes = plus a.nodes b.nodes;
  levels = max a.levels b.levels;
  bytes = plus a.bytes b.bytes;
  is_full_sound = a.is_full_sound && b.is_full_sound;
  is_sound = a.is_sound && b.is_sound;
}

-- of a list round its items
abbrev pub list_extent : Extent → Extent
list_extent e = record {
  full_nodes = plus e.full_nodes 1;
  full_levels = plus e.full_levels 1;
  nodes = plus e.nodes 1;
  levels = plus e.levels 1;
  bytes = plus e.bytes 2;
  is_full_sound = e.is_full_sound;
  is_sound = e.is_sound;
}

-- of an operation, other than `fractional`, round a list of so many arguments
abbrev pub operation_extent : List ℕ → ℕ → Extent → Extent
operation_extent k n e = record {
  full_nodes = plus (plus e.full_nodes 1) 1;
  full_levels = plus (plus e.full_levels 1) 1;
  nodes = plus (plus e.nodes 1) 1;
  levels = plus (plus e.levels 1) 1;
  bytes = plus (plus (length k) (plus e.bytes 2)) 2;
  is_full_sound = e.is_full_sound;
  is_sound = takes_count (operator_of k) n && e.is_sound;
}

-- of an object that is no reference, from how large it is
abbrev pub object_of_extent : Extent → Measure
object_of_extent e = record {
  full = record { nodes = e.full_nodes; levels = e.full_levels; is_sound = e.is_full_sound };
  expression = record { nodes = e.nodes; levels = e.levels; is_sound = e.is_sound };
  arguments = record { nodes = e.nodes; levels = e.levels; is_sound = e.is_sound };
  argument_count = 1;
  site = record { nodes = e.nodes; levels = e.levels; is_sound = e.is_sound };
  bucket = when false (record { nodes = e.nodes; levels = e.levels; is_sound = e.is_sound });
  is_list = false;
  is_text = false;
  is_weight = false;
  bytes = e.bytes;
}

-- of a tree that has no parts
abbrev pub scalar_extent : Shape → Option Extent
scalar_extent null = Some (extent (scalar_of true false false 0))
scalar_extent (boolean b) = Some (extent (scalar_of true false false 0))
scalar_extent (whole z) = Some (extent (scalar_of (is_in_range z) false false 0))
scalar_extent other = Some (extent (scalar_of false false false 0))
scalar_extent (text s) = Some (extent (scalar_of true true false (suc (length s))))
scalar_extent (list ts) = None
scalar_extent (object ms) = None
