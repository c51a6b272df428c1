-- The shape of a `Tree`.
use Rattle.std.specs.Prelude.{List, [], ◌∷◌, map, String, string_bytes}
use Rattle.std.specs.declared.alloc.Global.{Global}
use Rattle.flag_text.specs.Shape.{Shape, null, boolean, whole, other, text, list, object, Items, no_items, item, Members, no_members, member}
use Rattle.flag_text.specs.declared.tree.Tree.{Tree, fold-Tree}
use Rattle.flag_text.specs.declared.tree.Tree.TheOpen.{Tree-F}

-- shapes as the items of a list
abbrev pub items_of : List Shape → Items
items_of [] = no_items
items_of (t ∷ ts) = item t (items_of ts)

-- names and shapes as the members of an object
abbrev pub members_of : List (String Global × Shape) → Members
members_of [] = no_members
members_of (m ∷ ms) = member (string_bytes m.0) m.1 (members_of ms)

-- one level, with each tree inside already seen as its shape
abbrev pub view_step : Tree-F Shape → Shape
view_step Tree-F.Null = null
view_step (Tree-F.Bool b) = boolean b
view_step (Tree-F.Whole n) = whole n
view_step Tree-F.Other = other
view_step (Tree-F.Text s) = text (string_bytes s)
view_step (Tree-F.List v) = list (items_of v.items)
view_step (Tree-F.Object v) = object (members_of v.items)

-- what a tree is
abbrev pub view : Tree → Shape
view = fold-Tree Shape view_step

-- what the items of a list are
abbrev pub items_view : List Tree → Items
items_view ts = items_of (map view ts)

-- what the members of an object are
abbrev pub members_view : List (String Global × Tree) → Members
members_view ms = members_of (map (λ m. (m.0, view m.1)) ms)
