-- In how many bytes a tree is printed without blanks (RFC 8259), counted up to a number above every limit.
use Rattle.std.specs.Prelude.{ℕ, ◌-◌, List, [], ◌∷◌, length, if◌then◌else◌}
use Rattle.std.specs.Fmt.{signed_decimal}
use Rattle.json.specs.Print.{escape_byte}
use Rattle.flag_text.specs.Shape.{Shape, null, boolean, whole, other, text, list, object, Items, no_items, item, Members, no_members, member}
use Rattle.flag_references.specs.Measure.{capped, plus}

-- the bytes that stand for those of a text
abbrev pub escaped_bytes : List ℕ → ℕ
escaped_bytes [] = 0
escaped_bytes (x ∷ s) = plus (length (escape_byte x)) (escaped_bytes s)

-- with its quotes
abbrev pub text_bytes : List ℕ → ℕ
text_bytes s = plus (escaped_bytes s) 2

-- an item with a comma, before others
abbrev pub with_item : ℕ → ℕ → ℕ
with_item n rest = plus (plus n 1) rest

-- a member with its colon and a comma, before others
abbrev pub with_member : List ℕ → ℕ → ℕ → ℕ
with_member k n rest = plus (plus (text_bytes k) (plus n 2)) rest

-- in brackets, where no comma stands behind the last
abbrev pub enclosed : ℕ → ℕ
enclosed n = plus (n - 1) 2

abbrev mutual
  pub tree_bytes : Shape → ℕ
  tree_bytes null = 4
  tree_bytes (boolean b) = if b then 4 else 5
  tree_bytes (whole z) = capped (length (signed_decimal z))
  tree_bytes other = 4
  tree_bytes (text s) = text_bytes s
  tree_bytes (list ts) = enclosed (items_bytes ts)
  tree_bytes (object ms) = enclosed (members_bytes ms)

  pub items_bytes : Items → ℕ
  items_bytes no_items = 0
  items_bytes (item t ts) = with_item (tree_bytes t) (items_bytes ts)

  pub members_bytes : Members → ℕ
  members_bytes no_members = 0
  members_bytes (member k t ms) = with_member k (tree_bytes t) (members_bytes ms)
