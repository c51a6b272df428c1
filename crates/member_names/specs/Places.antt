-- Where a name stands more than once in a JSON text, as a text for people: the steps that lead from the whole to the member.
use Rattle.std.specs.Prelude.{◌++◌, ◌&&◌, ◌||◌, ◌+◌, ◌-◌, ◌^◌, ℕ, min, Bool, not, nat_eq, List, [], ◌∷◌, codes, decimal, length, if◌then◌else◌, Option, Some, None, option_map, String, string_bytes}
use Rattle.std.specs.Char.{is_ascii_alphanumeric}
use Rattle.std.specs.List.{list_all, list_any}
use Rattle.std.specs.Option.{option_or}
use Rattle.std.specs.Str.{bytes_eq}
use Rattle.std.specs.declared.alloc.Global.{Global}
use Rattle.json.specs.Json.{Json, null, boolean, number, string, array, object, Items, no_items, item, Members, no_members, member}
use Rattle.flag_text.specs.Printing.{text_of}
use Rattle.flag_text.specs.Shape.{text}
use Rattle.member_names.specs.Repeated.{member_names}

-- a letter, a digit, `_`, `-` or `$`
abbrev pub is_word_byte : ℕ → Bool
is_word_byte byte = is_ascii_alphanumeric byte || (nat_eq byte 95 || (nat_eq byte 45 || nat_eq byte 36))

abbrev pub is_word : List ℕ → Bool
is_word name = not (nat_eq (length name) 0) && list_all is_word_byte name

-- the step to a member: `.name`, or the name as a JSON text in brackets where it is no plain word
unfoldable pub step_to : List ℕ → List ℕ
step_to name = if is_word name then codes "." ++ name else codes "[" ++ (text_of (text name) ++ codes "]")

-- the step to an item, by its number from 0
abbrev pub step_at : ℕ → List ℕ
step_at n = codes "[" ++ (decimal n ++ codes "]")

-- the number of the next item, as far as 64 bits count
abbrev pub next : ℕ → ℕ
next n = min (n + 1) (2 ^ 64 - 1)

-- a place behind a step
abbrev pub behind : List ℕ → Option (List ℕ) → Option (List ℕ)
behind step place = option_map (λ p. step ++ p) place

-- the first of the names that stands before, among them or among those that were met
abbrev pub first_again : List (List ℕ) → List (List ℕ) → Option (List ℕ)
first_again met [] = None
first_again met (k ∷ ks) = if list_any (λ n. bytes_eq n k) met then Some k else first_again (k ∷ met) ks

-- the step to that name
abbrev pub twin_place : List (List ℕ) → Option (List ℕ)
twin_place names = option_map step_to (first_again [] names)

-- The place of the first name of an object that stands there before; where an object has none, the first place within its
-- values.
abbrev mutual
  pub place_of : Json → Option (List ℕ)
  place_of null = None
  place_of (boolean b) = None
  place_of (number s) = None
  place_of (string s) = None
  place_of (array js) = items_place 0 js
  place_of (object ms) = option_or (twin_place (member_names ms)) (members_place ms)

  -- of items of which the first has the number n
  pub items_place : ℕ → Items → Option (List ℕ)
  items_place n no_items = None
  items_place n (item j js) = option_or (behind (step_at n) (place_of j)) (items_place (next n) js)

  pub members_place : Members → Option (List ℕ)
  members_place no_members = None
  members_place (member k j ms) = option_or (behind (step_to k) (place_of j)) (members_place ms)

-- a place as people are told it: without the dot before its first step
abbrev pub within : List ℕ → List ℕ
within [] = []
within (x ∷ xs) = if nat_eq x 46 then xs else x ∷ xs

-- the bytes of a place, where one is told
abbrev pub told : Option (String Global) → Option (List ℕ)
told = option_map string_bytes
