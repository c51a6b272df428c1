-- What holds of the rules of each good flag, and what they are in the program.
use Rattle.std.specs.Prelude.{ℕ, List, Bool, true, false, not, ◌&&◌, is_some, Option, Some, None, option_map, String, string_bytes}
use Rattle.std.specs.declared.alloc.Global.{Global}
use Rattle.flag_text.specs.Readers.{find_member}
use Rattle.flag_text.specs.Shape.{Shape, object, Members, member}
use Rattle.flag_text.specs.View.{members_view}
use Rattle.flag_text.specs.declared.tree.Tree.{Tree}
use Rattle.logic_ast.specs.Expr.{view}
use Rattle.logic_ast.specs.Expression.{Expression}
use Rattle.logic_ast.specs.Formed.{is_well_formed}
use Rattle.logic_ast.specs.Writing.{written}
use Rattle.logic_ast.specs.declared.expr.Expr.{Expr}
use Rattle.flag_defs.specs.Definition.{Rules, are_variants}
use Rattle.flag_references.specs.Inlining.{has_reference}

-- an object that has a member
abbrev pub has_members : Shape → Bool
has_members (object (member k t ms)) = true
has_members t = false

-- It can be read, is written as an object that is not empty, and refers to no evaluator: so it reads as itself in each document.
abbrev pub is_targeting : Expression → Bool
is_targeting e = is_well_formed e && (has_members (written e) && not (has_reference (written e)))

abbrev pub are_targetings : Option Expression → Bool
are_targetings None = true
are_targetings (Some e) = is_targeting e

-- no default variant, or the name of a variant
abbrev pub is_default : Members → Option (List ℕ) → Bool
is_default variants None = true
is_default variants (Some name) = is_some (find_member name variants)

-- The variants are 1 to 64 of one kind and whole, the default variant is one of them, and the targeting stands alone.
abbrev pub are_rules : Rules → Bool
are_rules r = are_variants r.variants && (is_default r.variants r.default_variant && are_targetings r.targeting)

-- the rules that these fields of the program stand for
abbrev pub rules_of : Bool → List (String Global × Tree) → Option (String Global) → Option Expr → Rules
rules_of enabled variants default_variant targeting = record {
  enabled = enabled;
  variants = members_view variants;
  default_variant = option_map string_bytes default_variant;
  targeting = option_map view targeting;
}
