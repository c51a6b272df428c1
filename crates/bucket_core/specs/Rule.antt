-- What a `Rule` is: names with weights, and the points that they hold (flagd's page on the fractional operation).
use Rattle.std.specs.Prelude.{◌≡◌, ℕ, ◌<◌, ◌≤◌, ◌+◌, ◌*◌, ◌^◌, nat_lt, List, [], ◌∷◌, ◌++◌, map, replicate, sum_by, count_by, length, Option, option_map, slice_get, slice_index, slice_index_or, String, string_bytes}
use Rattle.std.specs.List.{All, position_or_len}
use Rattle.std.specs.Str.{bytes_eq}
use Rattle.std.specs.declared.alloc.Global.{Global}
use Rattle.bucket_core.specs.Point.{point_of}

-- names, each with its weight
abbrev pub Entries : Type 0
Entries = List (List ℕ × ℕ)

-- the sum of the weights
abbrev pub total_weight : Entries → ℕ
total_weight = sum_by (λ e. e.1)

-- a total that a rule may have
pub record IsRuleTotal (n : ℕ) : Type 0 where
  pub some : 0 < n
  pub small : n < 2 ^ 31

-- the name at each point, from 0 to the total: each name as often as its weight says
unfoldable pub points : Entries → List (List ℕ)
points [] = []
points (e ∷ es) = replicate e.1 e.0 ++ points es

-- the name at a point
abbrev pub at : Entries → ℕ → Option (List ℕ)
at r p = slice_get (points r) p

-- how many points have the name
abbrev pub total_of : Entries → List ℕ → ℕ
total_of r name = count_by (λ n. bytes_eq n name) (points r)

-- the name that a hash input is given
abbrev pub choice : Entries → List ℕ → Option (List ℕ)
choice r key = at r (point_of (total_weight r) key)

-- an entry of this name lies around the point: the weights before it sum to at most p, and with its own to more
pub record IsAround (r : Entries) (p : ℕ) (name : List ℕ) : Type 0 where
  pub before : Entries
  pub weight : ℕ
  pub after : Entries
  pub parts : r ≡ before ++ (name, weight) ∷ after
  pub from : total_weight before ≤ p
  pub to : p < total_weight before + weight

-- the cumulative weights: at each entry the weights up to it and its own, with what came before the first
unfoldable pub ends_from : ℕ → Entries → List ℕ
ends_from before [] = []
ends_from before (e ∷ es) = (before + e.1) ∷ ends_from (before + e.1) es

-- entries that have their names as numbers: each is the place of a name in a list
abbrev pub Numbered : Type 0
Numbered = List (ℕ × ℕ)

-- each number is the place of a name
abbrev pub AreNamed : List (List ℕ) → Numbered → Type 0
AreNamed names es = All (λ e. e.0 < length names) es

-- an entry with its name
abbrev pub named : List (List ℕ) → ℕ × ℕ → List ℕ × ℕ
named names e = (slice_index_or names e.0 [], e.1)

-- the entries with their names
abbrev pub all_named : List (List ℕ) → Numbered → Entries
all_named names es = map (named names) es

-- what a rule keeps: each entry has a name, and the sums beside the entries are those of their weights
pub record IsRuleOf (names : List (List ℕ)) (es : Numbered) (cumulative : List ℕ) (total : ℕ) : Type 0 where
  pub named : AreNamed names es
  pub ends : cumulative ≡ ends_from 0 (all_named names es)
  pub sum : total ≡ total_weight (all_named names es)
  pub allowed : IsRuleTotal total

-- the point at which the entry's points end, and those of the next begin
abbrev pub end_of : Entries → ℕ → ℕ
end_of r i = slice_index (ends_from 0 r) i

-- the entry that holds a point: the first whose cumulative weight exceeds it
abbrev pub entry_at : Entries → ℕ → ℕ
entry_at r p = position_or_len (λ end. nat_lt p end) (ends_from 0 r)

-- the name of an entry
abbrev pub entry_name : Entries → ℕ → Option (List ℕ)
entry_name r i = option_map (λ e. e.0) (slice_get r i)

-- from a point on, all points before `end` have the name that it has
abbrev pub IsRun : Entries → ℕ → ℕ → Type 0
IsRun r p end = (q : ℕ) → p ≤ q → q < end → at r q ≡ at r p

-- each weight times m
abbrev pub refinement : ℕ → Entries → Entries
refinement m r = map (λ e. (e.0, e.1 * m)) r

-- the entries of the program, without where the names lie in memory
abbrev pub entry_view : String Global × ℕ → List ℕ × ℕ
entry_view e = (string_bytes e.0, e.1)

-- the same of a list of entries
abbrev pub entries_view : List (String Global × ℕ) → Entries
entries_view es = map entry_view es

-- names of the program as bytes
abbrev pub names_view : List (String Global) → List (List ℕ)
names_view names = map string_bytes names

-- the name that each item is the index of
abbrev pub names_at : List (List ℕ) → List ℕ → List (List ℕ)
names_at names items = map (λ i. slice_index_or names i []) items
