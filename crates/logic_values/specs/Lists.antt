-- Lists (JsonLogic: `merge`, `in`).
use Rattle.std.specs.Prelude.{Bool, List, [], ◌∷◌, flat_map}
use Rattle.std.specs.List.{list_any}
use Rattle.flag_text.specs.Shape.{Shape, list, Items, no_items, item}
use Rattle.flag_text.specs.View.{items_of}
use Rattle.logic_values.specs.Comparison.{is_same}
use Rattle.logic_values.specs.Text.{both_texts, occurs_in}

abbrev pub shapes_of : Items → List Shape
shapes_of no_items = []
shapes_of (item t ts) = t ∷ shapes_of ts

-- what `map` and the like go over: a list's items, of another value nothing
abbrev pub items_in : Shape → List Shape
items_in (list ts) = shapes_of ts
items_in t = []

-- the items of a list, or the value itself
abbrev pub parts_of : Shape → List Shape
parts_of (list ts) = shapes_of ts
parts_of t = t ∷ []

-- `merge`
abbrev pub merged : List Shape → Shape
merged vs = list (items_of (flat_map parts_of vs))

-- `in`: a text within a text, or an item of a list that is `===` to the value
abbrev pub is_in : Shape → Shape → Bool
is_in v (list ts) = list_any (is_same v) (shapes_of ts)
is_in v t = both_texts occurs_in v t
