-- The keys that stand more than once among the flags of a document (RFC 8259, section 4: the names within an object should
-- be unique), of which the tree of the document keeps the last alone.
use Rattle.std.specs.Prelude.{ℕ, List, [], codes, Bool, nat_lt, count_by, Option, Some, option_and_then}
use Rattle.std.specs.Str.{bytes_eq}
use Rattle.json.specs.Find.{get}
use Rattle.json.specs.Json.{Json, object, Members, no_members}
use Rattle.member_names.specs.Repeated.{json_of, member_names}

-- the members of an object; what is no object has none
abbrev pub members_in : Option Json → Members
members_in (Some (object ms)) = ms
members_in o = no_members

-- the names of an object's members, in the order of the text; what is no object has none
abbrev pub names_in : Option Json → List (List ℕ)
names_in (Some (object ms)) = member_names ms
names_in o = []

-- the keys of a document's flags, with each that is repeated
abbrev pub flag_keys : List ℕ → List (List ℕ)
flag_keys bytes = names_in (option_and_then (get (codes "flags")) (json_of bytes))

-- how often a key is among these
abbrev pub count_of : List ℕ → List (List ℕ) → ℕ
count_of key names = count_by (λ name. bytes_eq name key) names

-- the key stands more than once
abbrev pub is_doubled : List ℕ → List ℕ → Bool
is_doubled bytes key = nat_lt 1 (count_of key (flag_keys bytes))
