-- Which tree the bytes of a text stand for (JSON: RFC 8259, as `serde_json` reads it).
use Rattle.std.specs.Prelude.{ℕ, ◌^◌, pos, List, length, nat_lt, if◌then◌else◌, Option, Some, None, Result, Ok, Err}
use Rattle.std.specs.Str.{is_utf8}
use Rattle.serde_json.specs.Data as json
use Rattle.serde_json.specs.Read.{read}
use Rattle.flag_text.specs.Shape.{Shape, null, boolean, whole, other, text, list, object, Items, no_items, item, Members, no_members, member, is_in_range, levels, has_other}
use Rattle.flag_text.specs.declared.fault.TextFault.{TextFault}
use Rattle.flag_text.specs.declared.fault.TextFault.TheVariants.{NotJson, NotWhole, TooLarge, TooDeep}

-- A fraction, an exponent, `-0` and what does not fit 64 bits are floats to `serde_json`.
abbrev pub number_shape : json.Num → Shape
number_shape (json.unsigned n) = if nat_lt n (2 ^ 53) then whole (pos n) else other
number_shape (json.negative z) = if is_in_range z then whole z else other
number_shape (json.float x) = other

-- a JSON value as a tree
abbrev mutual
  pub shape_of : json.Data → Shape
  shape_of json.null = null
  shape_of (json.boolean b) = boolean b
  shape_of (json.number n) = number_shape n
  shape_of (json.string s) = text s
  shape_of (json.array ds) = list (items_shape ds)
  shape_of (json.object ms) = object (members_shape ms)

  pub items_shape : json.Items → Items
  items_shape json.no_items = no_items
  items_shape (json.item d ds) = item (shape_of d) (items_shape ds)

  pub members_shape : json.Members → Members
  members_shape json.no_members = no_members
  members_shape (json.member k d ms) = member k (shape_of d) (members_shape ms)

-- the value of the bytes, where they are a JSON text
unfoldable pub json_of : List ℕ → Option json.Data
json_of bytes = if is_utf8 bytes then read bytes else None

-- how deep lists and objects of a JSON text nest at most
abbrev pub json_levels : ℕ
json_levels = 127

-- how deep those of a tree may nest
abbrev pub max_levels : ℕ
max_levels = 120

-- the tree of a JSON value, where there is one
abbrev pub if_json : Option json.Data → Result Shape TextFault
if_json None = Err NotJson
if_json (Some d) = Ok (shape_of d)

-- the tree of bytes that are not above the limit, `other` standing for a number that is not whole
abbrev pub doc_of : List ℕ → ℕ → Result Shape TextFault
doc_of bytes limit = if nat_lt limit (length bytes) then Err TooLarge else if_json (json_of bytes)

-- a tree that does not nest too deep, and whose numbers are all whole
abbrev pub if_whole : Result Shape TextFault → Result Shape TextFault
if_whole (Err e) = Err e
if_whole (Ok t) = if nat_lt max_levels (levels t) then Err TooDeep else (if has_other t then Err NotWhole else Ok t)

-- the tree of a text of whole numbers; its refusals in their order: too large, no JSON, too deep, not whole
abbrev pub tree_of : List ℕ → ℕ → Result Shape TextFault
tree_of bytes limit = if_whole (doc_of bytes limit)
