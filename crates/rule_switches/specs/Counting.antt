-- Counting inputs by the entries of two rules that they fall on.
use Rattle.std.specs.Prelude.{◌≡◌, ◌⊎◌, ℕ, ◌+◌, ◌*◌, ◌/◌, ◌<◌, ◌≤◌, ◌^◌, Bool, not, ◌&&◌, List, [], length, count_by, sum, sum_by, slice_index, slice_index_or, unwrap_or, if◌then◌else◌}
use Rattle.std.specs.List.{All, range_with_len}
use Rattle.std.specs.List.Sorted.{IsStrictlySortedBy}
use Rattle.std.specs.Map.{keys_of}
use Rattle.std.specs.Str.{bytes_eq}
use Rattle.exposures.specs.Exposure.{Inputs}
use Rattle.bucket_core.specs.Rule.{Entries, entry_at, entry_name, total_weight}
use Rattle.price_core.specs.Cost.{name_at, name_of_input}
use Rattle.price_core.specs.Pricing.{Pair, pair_cmp}
use Rattle.rule_switches.specs.Switches.{Rows}
use Rattle.rule_switches.specs.declared.counting.Cell.{Cell}

-- Two rules; how many numbers there are of which each falls on a point of either, in proportion (2^32 hashes, or the points of a
-- tally); the number of inputs; and the cells that they are counted in.
pub record Counted : Type 0 where
  pub before : Entries
  pub after : Entries
  pub span : ℕ
  pub inputs : ℕ
  pub cells : List Cell

-- the two names of an input
abbrev pub names_of : Entries → Entries → List ℕ → Pair
names_of before after input = (name_of_input before input, name_of_input after input)

-- the two names that a number below the span falls on
abbrev pub names_at : Counted → ℕ → Pair
names_at s x = (name_at s.before (x * total_weight s.before / s.span), name_at s.after (x * total_weight s.after / s.span))

-- the name of an entry
abbrev pub name_in : Entries → ℕ → List ℕ
name_in r i = unwrap_or (entry_name r i) []

-- the names of the entries that a cell is of
abbrev pub names_in : Entries → Entries → Cell → Pair
names_in before after c = (name_in before c.from, name_in after c.to)

-- the number of the inputs whose names pass a test
abbrev pub users_of : Counted → (Pair → Bool) → ℕ
users_of s test = sum_by (λ c. if test (names_in s.before s.after c) then c.users else 0) s.cells

-- what was counted are these inputs
pub record HasCounted (s : Counted) (inputs : Inputs) : Type 0 where
  pub number : s.inputs ≡ length inputs
  pub users : (test : Pair → Bool) → users_of s test ≡ count_by (λ input. test (names_of s.before s.after input)) inputs

-- ---- for private clauses

abbrev pub no_cell : Cell
no_cell = record { from = 0; to = 0; users = 0 }

-- a number falls on these points of the rules
pub record IsPlace (s : Counted) (p q : ℕ) : Type 0 where
  pub x : ℕ
  pub before : p ≡ x * total_weight s.before / s.span
  pub after : q ≡ x * total_weight s.after / s.span
  pub before_inside : p < total_weight s.before
  pub after_inside : q < total_weight s.after

-- a cell is of two entries that one number falls on, and stands at the sum of their places
pub record IsPlaced (before after : Entries) (span i : ℕ) (c : Cell) : Type 0 where
  pub x : ℕ
  pub from : c.from ≡ entry_at before (x * total_weight before / span)
  pub to : c.to ≡ entry_at after (x * total_weight after / span)
  pub place : c.from + c.to ≡ i
  pub from_inside : c.from < length before
  pub to_inside : c.to < length after

-- each cell has no inputs yet, or is such a one; and there is one for each sum
pub record IsCounting (s : Counted) : Type 0 where
  pub some : 0 < s.span
  pub long : length s.cells ≡ length s.before + length s.after
  pub placed : (i : ℕ) → i < length s.cells → ((slice_index_or s.cells i no_cell).users ≡ 0) ⊎ IsPlaced s.before s.after s.span i (slice_index_or s.cells i no_cell)
  pub whole : sum_by (λ c. c.users) s.cells ≡ s.inputs
  pub few : s.inputs < 2 ^ 64

-- so many more, of these names
pub record Adds (old new : Counted) (names : Pair) (users : ℕ) : Type 0 where
  pub before : new.before ≡ old.before
  pub after : new.after ≡ old.after
  pub span : new.span ≡ old.span
  pub inputs : new.inputs ≡ old.inputs + users
  pub counted : (test : Pair → Bool) → users_of new test ≡ users_of old test + (if test names then users else 0)

-- the amounts of the changes that pass a test
abbrev pub passed : (Pair → Bool) → Rows → ℕ
passed test rows = sum_by (λ r. if test r.0 then r.1 else 0) rows

-- names that differ and pass a test
abbrev pub moves : (Pair → Bool) → Pair → Bool
moves test p = not (bytes_eq p.0 p.1) && test p

-- the changes of what was counted
pub record AreRows (s : Counted) (rows : Rows) : Type 0 where
  pub rise : IsStrictlySortedBy pair_cmp (keys_of rows)
  pub some : All (λ r. 0 < r.1) rows
  pub counted : (test : Pair → Bool) → passed test rows ≡ users_of s (moves test)

-- the numbers of a tally were counted, each at its point
pub record AreTallied (before after : Entries) (total : ℕ) (counts : List ℕ) (s : Counted) : Type 0 where
  pub rules : (s.before ≡ before) × (s.after ≡ after) × (s.span ≡ total)
  pub inputs : s.inputs ≡ sum counts
  pub users : (test : Pair → Bool) → users_of s test ≡ sum_by (λ p. if test (names_at s p) then slice_index counts p else 0) (range_with_len 0 total)
