-- The scope of an evaluation, and what a path finds in it (JsonLogic: `var`, `missing`, `missing_some`; flagd: `$flagd`, `targetingKey`).
use Rattle.std.specs.Prelude.{ℕ, ◌+◌, ◌/◌, ◌==◌, ℤ, pos, Bool, true, false, not, ◌||◌, List, [], ◌∷◌, ◌++◌, length, filter, codes, if◌then◌else◌, int_lt, Option, Some, None, unwrap_or, option_map, option_and_then, slice_get, Result, Ok, Err}
use Rattle.std.specs.Fmt.{signed_decimal}
use Rattle.std.specs.List.{slice_split}
use Rattle.std.specs.Str.{bytes_eq}
use Rattle.flag_text.specs.Shape.{Shape, null, boolean, whole, other, text, list, object, Items, no_items, item, Members, no_members, member, has_other}
use Rattle.flag_text.specs.Readers.{as_text, as_list, find_member, member_of}
use Rattle.flag_text.specs.View.{items_of}
use Rattle.logic_values.specs.declared.fault.EvalFault.{EvalFault}
use Rattle.logic_values.specs.declared.fault.EvalFault.TheVariants.{Arithmetic}
use Rattle.logic_values.specs.Lists.{shapes_of, items_in}
use Rattle.logic_values.specs.Number.{digits_value, number_of}
use Rattle.logic_values.specs.Objects.{with_flagd}
use Rattle.logic_values.specs.Truth.{is_empty_text}

-- what an evaluation is given beside the expression: the evaluation context, the flag's key and the moment
pub record Situation : Type 0 where
  pub context : Shape
  pub flag : List ℕ
  pub moment : ℕ

-- what flagd adds to the context
abbrev pub flagd : Situation → Shape
flagd s = object (member (codes "flagKey") (text s.flag) (member (codes "timestamp") (whole (pos s.moment)) no_members))

-- the scope of the whole expression
abbrev pub root_scope : Situation → Shape
root_scope s = with_flagd (flagd s) s.context

-- the targeting key, where it is a text
abbrev pub targeting_key : Situation → Option (List ℕ)
targeting_key s = option_and_then as_text (member_of (codes "targetingKey") s.context)

-- the hash input of a site without a bucketing expression
abbrev pub default_input : Situation → Option (List ℕ)
default_input s = option_map (λ key. s.flag ++ key) (targeting_key s)

-- a number without leading zeros
abbrev pub index_of : List ℕ → Option ℕ
index_of [] = None
index_of (b ∷ []) = digits_value (b ∷ [])
index_of (b ∷ c ∷ bs) = if b == 48 then None else digits_value (b ∷ c ∷ bs)

-- one step of a path: an object's member, or a list's item by its index
abbrev pub step : Shape → List ℕ → Option Shape
step (object ms) name = find_member name ms
step (list ts) name = option_and_then (slice_get (shapes_of ts)) (index_of name)
step t name = None

abbrev pub follow : Shape → List (List ℕ) → Option Shape
follow t [] = Some t
follow t (name ∷ names) = option_and_then (λ u. follow u names) (step t name)

abbrev pub is_dot : ℕ → Bool
is_dot b = b == 46

-- what a text finds: the whole scope where it is empty, else its steps from the scope on
abbrev pub find_text : Shape → List ℕ → Option Shape
find_text scope s = if is_empty_text s then Some scope else follow scope (slice_split is_dot s)

-- what a path finds: null is the whole scope, a whole number its decimal text
abbrev pub find : Shape → Shape → Option Shape
find scope null = Some scope
find scope (text s) = find_text scope s
find scope (whole n) = find_text scope (signed_decimal n)
find scope t = None

-- `var`: no path is the whole scope; where nothing is found, the second argument, or null
abbrev pub variable : Shape → List Shape → Shape
variable scope [] = scope
variable scope (path ∷ []) = unwrap_or (find scope path) null
variable scope (path ∷ default ∷ rest) = unwrap_or (find scope path) default

abbrev pub is_blank : Option Shape → Bool
is_blank None = true
is_blank (Some null) = true
is_blank (Some (text s)) = is_empty_text s
is_blank (Some t) = false

-- nothing is found under the name, or null or the empty text
abbrev pub is_missing : Shape → Shape → Bool
is_missing scope name = is_blank (find scope name)

-- the names are given in one list, or as values of their own
abbrev pub names_from : Option Items → List Shape → List Shape
names_from (Some ts) vs = shapes_of ts
names_from None vs = vs

abbrev pub names_of : List Shape → List Shape
names_of [] = []
names_of (v ∷ vs) = names_from (as_list v) (v ∷ vs)

-- `missing`
abbrev pub missing : Shape → List Shape → List Shape
missing scope vs = filter (is_missing scope) (names_of vs)

abbrev pub found_count : Shape → List Shape → ℕ
found_count scope names = length (filter (λ name. not (is_missing scope name)) names)

-- the missing names where fewer than n are found, else none
abbrev pub missing_unless : Shape → Option ℤ → List Shape → Result Shape EvalFault
missing_unless scope None names = Err Arithmetic
missing_unless scope (Some n) names = Ok (list (items_of (if int_lt (pos (found_count scope names)) n then filter (is_missing scope) names else [])))

-- `missing_some`
abbrev pub missing_some : Shape → Shape → Shape → Result Shape EvalFault
missing_some scope n names = missing_unless scope (number_of n) (items_in names)

-- The size of a value, in units: a text adds 1 for each 64 bytes, a list or an object the sizes of its parts.
abbrev mutual
  pub size : Shape → ℕ
  size null = 1
  size (boolean b) = 1
  size (whole n) = 1
  size other = 1
  size (text s) = 1 + length s / 64
  size (list ts) = 1 + items_size ts
  size (object ms) = 1 + members_size ms

  pub items_size : Items → ℕ
  items_size no_items = 0
  items_size (item t ts) = size t + items_size ts

  pub members_size : Members → ℕ
  members_size no_members = 0
  members_size (member k t ms) = size t + members_size ms

-- whether a number that is not whole stands in a member of another name
abbrev pub others_have_other : List ℕ → Members → Bool
others_have_other name no_members = false
others_have_other name (member k t ms) = (if bytes_eq k name then false else has_other t) || others_have_other name ms

-- the sizes of the members of other names
abbrev pub others_size : List ℕ → Members → ℕ
others_size name no_members = 0
others_size name (member k t ms) = (if bytes_eq k name then 0 else size t) + others_size name ms
