-- Which tree a value of JSON's grammar stands for, by the numbers and the order of names that `serde_json` reads, and which
-- value is written for a tree.
use Rattle.std.specs.Prelude.{ℕ, List, Option, Some, option_map, option_and_then}
use Rattle.std.specs.Fmt.{signed_decimal}
use Rattle.std.specs.Ordering.{nat_cmp, match_ordering}
use Rattle.std.specs.Cmp.Lexicographic.{slice_cmp}
use Rattle.json.specs.Json as json
use Rattle.json.specs.Lex.{tokens}
use Rattle.serde_json.specs.Read.{number_of}
use Rattle.flag_text.specs.Shape.{Shape, null, boolean, whole, other, text, list, object, Items, no_items, item, Members, no_members, member}
use Rattle.flag_text.specs.Reading.{json_levels, number_shape}

-- the value that bytes are, where its lists and objects nest no deeper than is read
abbrev pub value_in : List ℕ → Option json.Json
value_in bytes = option_and_then (λ p. json.if_last p.0 p.1) (json.value json_levels (tokens bytes))

-- the members, with t at the name k
abbrev pub put : List ℕ → Shape → Members → Members
put k t no_members = member k t no_members
put k t (member l u ms) = match_ordering (slice_cmp nat_cmp k l) (member k t (member l u ms)) (member l t ms) (member l u (put k t ms))

-- None where a number is too large for a float. The last value of a name stays.
abbrev mutual
  pub tree_from : json.Json → Option Shape
  tree_from json.null = Some null
  tree_from (json.boolean b) = Some (boolean b)
  tree_from (json.number s) = option_map number_shape (number_of s)
  tree_from (json.string s) = Some (text s)
  tree_from (json.array js) = option_map list (items_from js)
  tree_from (json.object ms) = option_map object (members_from ms no_members)

  pub items_from : json.Items → Option Items
  items_from json.no_items = Some no_items
  items_from (json.item j js) = option_and_then (λ t. option_map (item t) (items_from js)) (tree_from j)

  pub members_from : json.Members → Members → Option Members
  members_from json.no_members found = Some found
  members_from (json.member k j ms) found = option_and_then (λ t. members_from ms (put k t found)) (tree_from j)

-- `null` is written for a number that is not whole
abbrev mutual
  pub written : Shape → json.Json
  written null = json.null
  written (boolean b) = json.boolean b
  written (whole n) = json.number (signed_decimal n)
  written other = json.null
  written (text s) = json.string s
  written (list ts) = json.array (items_written ts)
  written (object ms) = json.object (members_written ms)

  pub items_written : Items → json.Items
  items_written no_items = json.no_items
  items_written (item t ts) = json.item (written t) (items_written ts)

  pub members_written : Members → json.Members
  members_written no_members = json.no_members
  members_written (member k t ms) = json.member k (written t) (members_written ms)
