-- The way to what nests too deep in a request's body, for people: `.name` to a member, `[2]` to an item.
use Rattle.std.specs.Prelude.{ℕ, ◌+◌, ◌-◌, ◌==◌, List, [], ◌++◌, codes, decimal, length, nat_lt, if◌then◌else◌, Option, Some, None, option_map, Result, Ok, Err}
use Rattle.flag_text.specs.Reading.{max_levels}
use Rattle.flag_text.specs.Readers.{find_member}
use Rattle.flag_text.specs.Shape.{Shape, null, boolean, whole, other, text, list, object, Items, no_items, item, Members, no_members, member}
use Rattle.flag_text.specs.declared.fault.TextFault.{TextFault}
use Rattle.ofrep_answers.specs.Context.{max_body}
use Rattle.ofrep_answers.specs.Fault.{details_of}
use Rattle.ofrep_answers.specs.declared.fault.ContextFault.{ContextFault}
use Rattle.ofrep_answers.specs.declared.fault.ContextFault.TheVariants.{WantOfMemory, TooLarge, BodyTooDeep, NotJson, BodyNotObject, NotObject, TooDeep}
use Rattle.spelled_numbers.specs.Levels.{stand_for_number}
use Rattle.spelled_numbers.specs.Sent.{sent_of}

-- the most bytes of a way
abbrev pub max_way : ℕ
max_way = 200

-- a step that begins a way which is too long
abbrev pub cut : List ℕ → List ℕ
cut step = if nat_lt max_way (length step + 2) then codes ".." else step ++ codes ".."

-- a step and the way behind it, cut where both are too long
abbrev pub joined : List ℕ → List ℕ → List ℕ
joined step rest = if nat_lt max_way (length step + length rest) then cut step else step ++ rest

-- the first of two ways
abbrev pub first : Option (List ℕ) → Option (List ℕ) → Option (List ℕ)
first None later = later
first (Some way) later = Some way

-- the way to the first list or object within so many others, in the order of the names and the places; an object that stands for a number is none
abbrev mutual
  pub way_to : ℕ → Shape → Option (List ℕ)
  way_to levels null = None
  way_to levels (boolean b) = None
  way_to levels (whole n) = None
  way_to levels other = None
  way_to levels (text t) = None
  way_to levels (list ts) = if levels == 0 then Some [] else way_in_items (levels - 1) ts 0
  way_to levels (object ms) = if stand_for_number ms then None else (if levels == 0 then Some [] else way_in_members (levels - 1) ms)

  pub way_in_items : ℕ → Items → ℕ → Option (List ℕ)
  way_in_items levels no_items place = None
  way_in_items levels (item t ts) place = first (option_map (joined (codes "[" ++ decimal place ++ codes "]")) (way_to levels t)) (way_in_items levels ts (place + 1))

  pub way_in_members : ℕ → Members → Option (List ℕ)
  way_in_members levels no_members = None
  way_in_members levels (member name t ms) = first (option_map (joined (codes "." ++ name)) (way_to levels t)) (way_in_members levels ms)

-- what is wrong at the end of the way
abbrev pub deep_at : List ℕ → List ℕ
deep_at way = codes "`context" ++ way ++ codes "` nests deeper than 120 levels"

-- the way in the member `context`
abbrev pub way_in : Option Shape → Option (List ℕ)
way_in None = None
way_in (Some t) = way_to max_levels t

-- the way in the context of a body that was read
abbrev pub way_of : Result Shape TextFault → Option (List ℕ)
way_of (Ok (object ms)) = way_in (find_member (codes "context") ms)
way_of (Ok t) = None
way_of (Err e) = None

-- what is wrong in a context that nests too deep: the place, where there is one
abbrev pub details_at : Option (List ℕ) → List ℕ
details_at None = details_of TooDeep
details_at (Some way) = deep_at way

-- what is wrong with a body that has this fault, for people
abbrev pub details_in : List ℕ → ContextFault → List ℕ
details_in body TooDeep = details_at (way_of (sent_of body max_body))
details_in body WantOfMemory = details_of WantOfMemory
details_in body TooLarge = details_of TooLarge
details_in body BodyTooDeep = details_of BodyTooDeep
details_in body NotJson = details_of NotJson
details_in body BodyNotObject = details_of BodyNotObject
details_in body NotObject = details_of NotObject
