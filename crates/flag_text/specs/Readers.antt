-- What kind of value a tree is, and its parts by kind and name.
use Rattle.std.specs.Prelude.{ℕ, ℤ, Bool, List, Option, Some, None, if◌then◌else◌}
use Rattle.std.specs.Str.{bytes_eq}
use Rattle.flag_text.specs.Shape.{Shape, boolean, whole, text, list, object, Items, Members, no_members, member}

-- the truth value of a boolean
abbrev pub as_bool : Shape → Option Bool
as_bool (boolean b) = Some b
as_bool t = None

-- the number of a whole number
abbrev pub as_whole : Shape → Option ℤ
as_whole (whole n) = Some n
as_whole t = None

-- the bytes of a text
abbrev pub as_text : Shape → Option (List ℕ)
as_text (text s) = Some s
as_text t = None

-- the items of a list
abbrev pub as_list : Shape → Option Items
as_list (list ts) = Some ts
as_list t = None

-- the members of an object
abbrev pub as_object : Shape → Option Members
as_object (object ms) = Some ms
as_object t = None

-- the value of the first member of this name
abbrev pub find_member : List ℕ → Members → Option Shape
find_member name no_members = None
find_member name (member k t ms) = if bytes_eq k name then Some t else find_member name ms

-- the member of this name, of an object that has one
abbrev pub member_of : List ℕ → Shape → Option Shape
member_of name (object ms) = find_member name ms
member_of name t = None
