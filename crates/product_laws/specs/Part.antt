-- The part of a tree at a path, and what the bytes at its place read as.
use Rattle.std.specs.Prelude.{◌≡◌, ℕ, zero, suc, List, [], ◌∷◌, Option, Some, None, option_and_then, Ok}
use Rattle.flag_text.specs.Readers.{as_list, member_of}
use Rattle.flag_text.specs.Reading.{doc_of}
use Rattle.flag_text.specs.Shape.{Shape, Items, no_items, item}
use Rattle.text_spans.specs.Path.{Stands, Step, name, index}

-- the item at an index
abbrev pub item_at : ℕ → Items → Option Shape
item_at n no_items = None
item_at zero (item t ts) = Some t
item_at (suc n) (item t ts) = item_at n ts

-- the member of a name, or the item at an index
abbrev pub step_into : Step → Shape → Option Shape
step_into (name k) t = member_of k t
step_into (index i) t = option_and_then (item_at i) (as_list t)

-- the part at a path
abbrev pub part_at : List Step → Shape → Option Shape
part_at [] t = Some t
part_at (s ∷ path) t = option_and_then (part_at path) (step_into s t)

-- Where the value at a path stands in a text, its bytes read as the part of the text's tree at that path.
abbrev pub BytesReadAsPart : Type 0
BytesReadAsPart =
    (text : List ℕ) (limit : ℕ) (path : List Step) (front old back : List ℕ) (t : Shape) → doc_of text limit ≡ Ok t → Stands text path front old back
    → (part : Shape) × (part_at path t ≡ Some part) × (doc_of old limit ≡ Ok part)
