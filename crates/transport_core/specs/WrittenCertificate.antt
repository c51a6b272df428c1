-- A certificate as JSON: how its rows are written, and whether a file can hold its numbers.
use Rattle.std.specs.Prelude.{ℕ, ℤ, pos, Bool, ◌&&◌, List, [], ◌∷◌}
use Rattle.flag_text.specs.Shape.{Shape, whole, text, list, Items, no_items, item, is_in_range, items_are_whole}
use Rattle.transport_core.specs.Certificate.{DualPrices}
use Rattle.transport_core.specs.Groups.{GroupKey}

-- an item for each, as f writes it
abbrev pub items_by : {X : Type 0} → (X → Shape) → List X → Items
items_by f [] = no_items
items_by f (x ∷ xs) = item (f x) (items_by f xs)

-- `[name, count, n]`
abbrev pub alpha_written : GroupKey × ℤ → Shape
alpha_written a = list (item (text a.0.0) (item (whole (pos a.0.1)) (item (whole a.1) no_items)))

-- `[name, n]`
abbrev pub beta_written : List ℕ × ℤ → Shape
beta_written b = list (item (text b.0) (item (whole b.1) no_items))

-- alpha, beta and the cost are whole numbers that a file can hold
abbrev pub has_whole_numbers : DualPrices → Bool
has_whole_numbers c = is_in_range (pos c.cost) && (items_are_whole (items_by alpha_written c.alpha) && items_are_whole (items_by beta_written c.beta))
