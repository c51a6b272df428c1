-- In how many bytes a tree is printed at least (RFC 8259: quotes, brackets and braces).
use Rattle.std.specs.Prelude.{ℕ, ◌+◌, length}
use Rattle.flag_text.specs.Shape.{Shape, null, boolean, whole, other, text, list, object, Items, no_items, item, Members, no_members, member}

-- a byte for each scalar and two for each list, object and text, beside the bytes of texts and names
abbrev mutual
  pub least : Shape → ℕ
  least null = 1
  least (boolean b) = 1
  least (whole n) = 1
  least other = 1
  least (text s) = length s + 2
  least (list ts) = items_least ts + 2
  least (object ms) = members_least ms + 2

  pub items_least : Items → ℕ
  items_least no_items = 0
  items_least (item t ts) = least t + items_least ts

  pub members_least : Members → ℕ
  members_least no_members = 0
  members_least (member k t ms) = (length k + least t) + members_least ms
