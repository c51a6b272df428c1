-- Which variants have numbers that are not whole, and a document with them as texts (flagd: flag definitions; RFC 8259, section 6).
use Rattle.std.specs.Prelude.{ℕ, suc, List, codes, Bool, true, false, not, ◌&&◌, ◌||◌, nat_le, nat_lt, is_some, option_and_then, if◌then◌else◌}
use Rattle.std.specs.Str.{bytes_eq}
use Rattle.json.specs.Json.{Json, null, boolean, number, string, array, object, Items, no_items, item, Members, no_members, member}
use Rattle.json.specs.Print.{print}
use Rattle.json.specs.Tree.{json_tokens, members_depth}
use Rattle.limits.specs.Limits as limit
use Rattle.flag_text.specs.Grammar.{tree_from}
use Rattle.flag_text.specs.Readers.{as_whole}

-- ---- whole numbers

-- the reader of documents has it as a whole number: so it has `5`, and neither `5.0` nor `1e3` nor what is out of range
abbrev pub is_whole_number : List ℕ → Bool
is_whole_number s = is_some (option_and_then as_whole (tree_from (number s)))

-- each number in a value is whole
abbrev mutual
  pub has_whole_numbers : Json → Bool
  has_whole_numbers null = true
  has_whole_numbers (boolean b) = true
  has_whole_numbers (number s) = is_whole_number s
  has_whole_numbers (string s) = true
  has_whole_numbers (array js) = items_have_whole_numbers js
  has_whole_numbers (object ms) = members_have_whole_numbers ms

  pub items_have_whole_numbers : Items → Bool
  items_have_whole_numbers no_items = true
  items_have_whole_numbers (item j js) = has_whole_numbers j && items_have_whole_numbers js

  pub members_have_whole_numbers : Members → Bool
  members_have_whole_numbers no_members = true
  members_have_whole_numbers (member k j ms) = has_whole_numbers j && members_have_whole_numbers ms

-- ---- variants

abbrev pub is_number : Json → Bool
is_number (number s) = true
is_number null = false
is_number (boolean b) = false
is_number (string s) = false
is_number (array js) = false
is_number (object ms) = false

abbrev pub is_object : Json → Bool
is_object (object ms) = true
is_object null = false
is_object (boolean b) = false
is_object (number s) = false
is_object (string s) = false
is_object (array js) = false

abbrev pub member_count : Members → ℕ
member_count no_members = 0
member_count (member k j ms) = suc (member_count ms)

abbrev pub has_name : List ℕ → Members → Bool
has_name name no_members = false
has_name name (member k j ms) = bytes_eq k name || has_name name ms

-- each value that counts: of members of one name the last
abbrev pub all_counting : (Json → Bool) → Members → Bool
all_counting f no_members = true
all_counting f (member k j ms) = (has_name k ms || f j) && all_counting f ms

-- how many members a flag's variants may have, and how deep these may nest
abbrev pub are_within : Members → Bool
are_within ms = nat_le (member_count ms) limit.variants && nat_lt (members_depth ms) limit.expression_levels

-- within the limits, of numbers alone or of objects alone, in which some number is not whole
abbrev pub are_floats : Members → Bool
are_floats ms = are_within ms && ((all_counting is_number ms || all_counting is_object ms) && not (all_counting has_whole_numbers ms))

-- variants with numbers that are not whole
abbrev pub has_floats : Json → Bool
has_floats (object ms) = are_floats ms
has_floats null = false
has_floats (boolean b) = false
has_floats (number s) = false
has_floats (string s) = false
has_floats (array js) = false

-- ---- a document with such variants as texts

-- the members, the value of each by its name
abbrev pub each_member : (List ℕ → Json → Json) → Members → Members
each_member f no_members = no_members
each_member f (member k j ms) = member k (f k j) (each_member f ms)

-- the same of an object
abbrev pub in_object : (List ℕ → Json → Json) → Json → Json
in_object f (object ms) = object (each_member f ms)
in_object f null = null
in_object f (boolean b) = boolean b
in_object f (number s) = number s
in_object f (string s) = string s
in_object f (array js) = array js

-- the text of a value: of a number its spelling
abbrev pub spelled : Json → Json
spelled j = string (print (json_tokens j))

-- a member of variants, of a flag, of `flags`, and of the document
abbrev pub of_variants : List ℕ → Json → Json
of_variants k j = spelled j

abbrev pub of_flag : List ℕ → Json → Json
of_flag k j = if bytes_eq k (codes "variants") && has_floats j then in_object of_variants j else j

abbrev pub of_flags : List ℕ → Json → Json
of_flags k j = in_object of_flag j

abbrev pub of_document : List ℕ → Json → Json
of_document k j = if bytes_eq k (codes "flags") then in_object of_flags j else j

-- the document with the values of such variants as texts
abbrev pub with_texts : Json → Json
with_texts j = in_object of_document j
