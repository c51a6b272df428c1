-- The file of asks, and the items of its list.
use Rattle.std.specs.Prelude.{ℕ, length}
use Rattle.flag_text.specs.Shape.{Shape, list, Items}
use Rattle.flag_text.specs.View.{items_view, view}
use Rattle.flagops_drive.specs.Plain.{asks_shape}
use Rattle.flagops_drive.specs.declared.asks.AskItems.{AskItems}
use Rattle.flagops_drive.specs.declared.asks.AskItems.TheVariants as items
use Rattle.flagops_drive.specs.declared.asks_file.AsksFile.{AsksFile}
use Rattle.flagops_drive.specs.declared.asks_file.AsksFile.TheVariants.{Plain, Tree}

-- the tree that a file is, in whichever form it was read
abbrev pub file_view : AsksFile → Shape
file_view (Plain v) = list (asks_shape v.items)
file_view (Tree t) = view t

-- the items of its list
abbrev pub items_of : AskItems → Items
items_of (items.Plain asks) = asks_shape asks.now
items_of (items.Trees ts) = items_view ts.now

-- how many there are
abbrev pub count_of : AskItems → ℕ
count_of (items.Plain asks) = length asks.now
count_of (items.Trees ts) = length ts.now
