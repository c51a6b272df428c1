-- Texts that spell the values of variants with numbers that are not whole: so the values of a flag with floats stand.
use Rattle.std.specs.Prelude.{ℕ, List, Bool, false, not, ◌||◌, Option, Some, None, if◌then◌else◌}
use Rattle.std.specs.Str.{bytes_eq}
use Rattle.json.specs.Json as json
use Rattle.json.specs.Print.{print}
use Rattle.json.specs.Tree.{json_tokens}
use Rattle.flag_text.specs.Grammar.{value_in}
use Rattle.flag_text.specs.Shape.{Shape, text, Members, no_members, member}
use Rattle.spelled_numbers.specs.Floats.{has_floats}

-- the value that a text is read as, where it is the compact text of this value
abbrev pub if_compact : List ℕ → Option json.Json → Option json.Json
if_compact s None = None
if_compact s (Some j) = if bytes_eq (print (json_tokens j)) s then Some j else None

abbrev pub value_spelled_by : Shape → Option json.Json
value_spelled_by (text s) = if_compact s (value_in s)
value_spelled_by t = None

abbrev pub if_both : List ℕ → Option json.Json → Option json.Members → Option json.Members
if_both k (Some j) (Some js) = Some (json.member k j js)
if_both k j js = None

-- the members whose values are the compact texts here
abbrev pub members_spelled_by : Members → Option json.Members
members_spelled_by no_members = Some json.no_members
members_spelled_by (member k t vs) = if_both k (value_spelled_by t) (members_spelled_by vs)

abbrev pub are_floats : Option json.Members → Bool
are_floats None = false
are_floats (Some js) = has_floats (json.object js)

-- the texts spell variants with numbers that are not whole
unfoldable pub are_spelled : Members → Bool
are_spelled vs = are_floats (members_spelled_by vs)

-- so do those of a flag that has floats
abbrev pub keep_spelling : Bool → Members → Bool
keep_spelling floats vs = not floats || are_spelled vs
