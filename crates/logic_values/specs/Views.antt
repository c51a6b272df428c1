-- What a value is, and what is seen of it.
use Rattle.std.specs.Prelude.{String, [], ◌∷◌, List, map, string_bytes}
use Rattle.flag_text.specs.Shape.{Shape, null, boolean, whole, other, text, list, object, Members, member}
use Rattle.flag_text.specs.declared.tree.Tree.{Tree}
use Rattle.std.specs.declared.alloc.Global.{Global}
use Rattle.flag_text.specs.View.{view, items_of, items_view, members_view}
use Rattle.logic_values.specs.Objects.{reduce_scope, with_flagd}
use Rattle.logic_values.specs.declared.root.Root.{Root}
use Rattle.logic_values.specs.declared.seen.Seen.{Seen}
use Rattle.logic_values.specs.declared.seen.Seen.TheVariants as seen
use Rattle.logic_values.specs.declared.value.Value.{Value, fold-Value}
use Rattle.logic_values.specs.declared.value.Value.TheOpen.{Value-F}

-- the scope of a whole expression
abbrev pub root_view : Root → Shape
root_view r = with_flagd (view r.flagd.now) (object (members_view r.members.now))

-- one level, with each value inside already seen as its shape
abbrev pub value_step : Value-F Shape → Shape
value_step (Value-F.Lent t) = view t.now
value_step (Value-F.Given p) = view p.tree.now
value_step (Value-F.Name s) = text s.now
value_step Value-F.Null = null
value_step (Value-F.Bool b) = boolean b
value_step (Value-F.Whole n) = whole n
value_step (Value-F.Text s) = text (string_bytes s)
value_step (Value-F.Items v) = list (items_of v.items)
value_step (Value-F.Context r) = root_view r
value_step (Value-F.Fold so_far current) = reduce_scope so_far.value current.value

-- what a value is
abbrev pub value_view : Value → Shape
value_view = fold-Value Shape value_step

-- what is seen of it
abbrev pub seen_view : Seen → Shape
seen_view seen.Null = null
seen_view (seen.Bool b) = boolean b
seen_view (seen.Whole n) = whole n
seen_view seen.Other = other
seen_view (seen.Text s) = text s.now
seen_view (seen.Trees ts) = list (items_view ts.now)
seen_view (seen.Values vs) = list (items_of (map value_view vs.now))
seen_view (seen.Object ms) = object (members_view ms.now)
seen_view (seen.Context r) = root_view r
seen_view (seen.Fold so_far current) = reduce_scope (value_view so_far.now) (value_view current.now)

-- members before others
abbrev pub before : List (String Global × Tree) → Members → Members
before [] rest = rest
before (m ∷ ms) rest = member (string_bytes m.0) (view m.1) (before ms rest)
