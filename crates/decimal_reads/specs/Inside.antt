-- The first number in a value that is not whole, and the way to it: items from the first on, members in the order of their names (JsonLogic: `var`).
use Rattle.std.specs.Prelude.{ℕ, ◌+◌, Bool, List, [], ◌++◌, codes, decimal, is_some, if◌then◌else◌, Option, Some, None}
use Rattle.logic_values.specs.Decimals.{spelling_in}
use Rattle.flag_text.specs.Shape.{Shape, null, boolean, whole, other, text, list, object, Items, no_items, item, Members, no_members, member}
use Rattle.logic_values.specs.Truth.{is_empty_text}

-- the first of two
abbrev pub first : Option (List ℕ) → Option (List ℕ) → Option (List ℕ)
first None later = later
first (Some s) later = Some s

-- the spelling of the first such number: of the value itself, or of one that stands in it
abbrev mutual
  pub first_spelling : Shape → Option (List ℕ)
  first_spelling null = None
  first_spelling (boolean b) = None
  first_spelling (whole n) = None
  first_spelling other = None
  first_spelling (text s) = None
  first_spelling (list ts) = spelling_in_items ts
  first_spelling (object ms) = first (spelling_in ms) (spelling_in_members ms)

  pub spelling_in_items : Items → Option (List ℕ)
  spelling_in_items no_items = None
  spelling_in_items (item t ts) = first (first_spelling t) (spelling_in_items ts)

  pub spelling_in_members : Members → Option (List ℕ)
  spelling_in_members no_members = None
  spelling_in_members (member name t ms) = first (first_spelling t) (spelling_in_members ms)

abbrev pub has_number : Shape → Bool
has_number t = is_some (first_spelling t)

-- the names on the way to it, each behind a point, but the first behind what separates it from a path
abbrev mutual
  pub inside : List ℕ → Shape → List ℕ
  inside separator null = []
  inside separator (boolean b) = []
  inside separator (whole n) = []
  inside separator other = []
  inside separator (text s) = []
  inside separator (list ts) = inside_items separator ts 0
  inside separator (object ms) = inside_members separator ms

  pub inside_items : List ℕ → Items → ℕ → List ℕ
  inside_items separator no_items place = []
  inside_items separator (item t ts) place = if has_number t then separator ++ (decimal place ++ inside (codes ".") t) else inside_items separator ts (place + 1)

  pub inside_members : List ℕ → Members → List ℕ
  inside_members separator no_members = []
  inside_members separator (member name t ms) = if has_number t then separator ++ (name ++ inside (codes ".") t) else inside_members separator ms

abbrev pub separator_behind : List ℕ → List ℕ
separator_behind path = if is_empty_text path then [] else codes "."

-- the way to it from the whole context, as a variable spells it, where the path leads to the value
abbrev pub way_of : List ℕ → Shape → List ℕ
way_of path t = path ++ inside (separator_behind path) t
