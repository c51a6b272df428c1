-- The text of a tree.
use Rattle.std.specs.Prelude.{ℕ, List}
use Rattle.serde_json.specs.Data as json
use Rattle.serde_json.specs.Find.{of_integer}
use Rattle.serde_json.specs.Written.{compact_text}
use Rattle.flag_text.specs.Shape.{Shape, null, boolean, whole, other, text, list, object, Items, no_items, item, Members, no_members, member}

-- the value that is written for a tree, `null` for a number that is not whole
abbrev mutual
  pub data_of : Shape → json.Data
  data_of null = json.null
  data_of (boolean b) = json.boolean b
  data_of (whole n) = json.number (of_integer n)
  data_of other = json.null
  data_of (text s) = json.string s
  data_of (list ts) = json.array (items_data ts)
  data_of (object ms) = json.object (members_data ms)

  pub items_data : Items → json.Items
  items_data no_items = json.no_items
  items_data (item t ts) = json.item (data_of t) (items_data ts)

  pub members_data : Members → json.Members
  members_data no_members = json.no_members
  members_data (member k t ms) = json.put k (data_of t) (members_data ms)

-- the compact text of a tree
unfoldable pub text_of : Shape → List ℕ
text_of t = compact_text (data_of t)
