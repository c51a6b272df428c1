-- Where in a tree as it stands the first operation is that is wrong in itself, in preorder. A reference is none, and what it
-- stands for is not looked at.
use Rattle.std.specs.Prelude.{ℕ, zero, suc, ◌+◌, ◌==◌, List, Bool, false, not, ◌&&◌, ◌||◌, is_some, if◌then◌else◌, Option, Some, None, option_map, option_and_then}
use Rattle.flag_text.specs.Shape.{Shape, list, object, Items, no_items, item, Members, no_members, member}
use Rattle.logic_ast.specs.FirstFault.{expression_fault}
use Rattle.logic_ast.specs.Misuse.{misuse_of, fault_of}
use Rattle.logic_ast.specs.declared.fault.LogicFault.{LogicFault}
use Rattle.logic_ast.specs.declared.misuse.Misuse.{Misuse}
use Rattle.flag_references.specs.Inlining.{name_in}
use Rattle.flag_references.specs.declared.misplaced.MisusePlace.{MisusePlace}
use Rattle.flag_references.specs.declared.misplaced.MisusePlace.TheVariants.{Here, Inside}

-- an operation is wrong in itself, somewhere: an object of one member that is no reference
abbrev mutual
  pub has_misuse : Shape → Bool
  has_misuse (list ts) = any_has_misuse ts
  has_misuse (object ms) = object_has_misuse ms
  has_misuse t = false

  pub any_has_misuse : Items → Bool
  any_has_misuse no_items = false
  any_has_misuse (item t ts) = has_misuse t || any_has_misuse ts

  pub object_has_misuse : Members → Bool
  object_has_misuse (member k t no_members) = not (is_some (name_in k t)) && (is_some (misuse_of k t) || has_misuse t)
  object_has_misuse ms = false

-- the first item with such an operation, counted from n
abbrev pub first_misused : ℕ → Items → Option ℕ
first_misused n no_items = None
first_misused n (item t ts) = if has_misuse t then Some n else first_misused (n + 1) ts

-- the operation itself comes before those in its arguments
abbrev pub here_or_inside : Option Misuse → Bool → Option MisusePlace
here_or_inside (Some m) b = Some (Here m)
here_or_inside None b = if b then Some (Inside 0) else None

abbrev pub operation_place : List ℕ → Shape → Option MisusePlace
operation_place k t = if is_some (name_in k t) then None else here_or_inside (misuse_of k t) (has_misuse t)

-- of an object: only in one of a single member is something read
abbrev pub object_place : Members → Option MisusePlace
object_place (member k t no_members) = operation_place k t
object_place ms = None

abbrev pub misuse_place : Shape → Option MisusePlace
misuse_place (list ts) = option_map Inside (first_misused 0 ts)
misuse_place (object ms) = object_place ms
misuse_place t = None

-- ---- for the law

-- item n, from 0
abbrev pub item_at : ℕ → Items → Option Shape
item_at n no_items = None
item_at zero (item t ts) = Some t
item_at (suc n) (item t ts) = item_at n ts

-- item n of a list, or the value of the one member
abbrev pub part_at : ℕ → Shape → Option Shape
part_at n (list ts) = item_at n ts
part_at n (object (member k t no_members)) = if n == 0 then Some t else None
part_at n t = None

-- the fault at a place of a tree that is read as an expression: of the operation itself, or of the part as a tree of its own
abbrev pub fault_at : Shape → MisusePlace → Option LogicFault
fault_at t (Here m) = Some (fault_of m)
fault_at t (Inside n) = option_and_then expression_fault (part_at n t)
