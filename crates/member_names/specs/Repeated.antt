-- Names that stand more than once in an object within a JSON text (RFC 8259, section 4: the names within an object should be
-- unique), of which readers keep the last alone.
use Rattle.std.specs.Prelude.{ℕ, List, [], ◌∷◌, Bool, false, ◌||◌, if◌then◌else◌, Option, Some, None}
use Rattle.std.specs.List.{list_any}
use Rattle.std.specs.Str.{bytes_eq, is_utf8}
use Rattle.json.specs.Json.{Json, null, boolean, number, string, array, object, Items, no_items, item, Members, no_members, member, document}

-- the value of the bytes, where they are a JSON text
abbrev pub json_of : List ℕ → Option Json
json_of bytes = if is_utf8 bytes then document bytes else None

-- the names of members, in the order of the text
abbrev pub member_names : Members → List (List ℕ)
member_names no_members = []
member_names (member k j ms) = k ∷ member_names ms

-- one of the names stands again behind it
abbrev pub has_twin : List (List ℕ) → Bool
has_twin [] = false
has_twin (k ∷ ks) = list_any (bytes_eq k) ks || has_twin ks

-- an object within the value has a name that stands more than once
abbrev mutual
  pub repeats : Json → Bool
  repeats null = false
  repeats (boolean b) = false
  repeats (number s) = false
  repeats (string s) = false
  repeats (array js) = item_repeats js
  repeats (object ms) = has_twin (member_names ms) || member_repeats ms

  pub item_repeats : Items → Bool
  item_repeats no_items = false
  item_repeats (item j js) = repeats j || item_repeats js

  pub member_repeats : Members → Bool
  member_repeats no_members = false
  member_repeats (member k j ms) = repeats j || member_repeats ms

-- so it is of a value, where there is one
abbrev pub repeats_in : Option Json → Bool
repeats_in None = false
repeats_in (Some j) = repeats j

-- the bytes are a JSON text with such a name
abbrev pub is_repeating : List ℕ → Bool
is_repeating bytes = repeats_in (json_of bytes)
