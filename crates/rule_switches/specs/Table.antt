-- How many points and users go from one variant to another.
use Rattle.std.specs.Prelude.{◌≡◌, ℕ, ◌+◌, ◌*◌, ◌/◌, ◌%◌, ◌<◌, ◌≤◌, ◌^◌, Bool, ◌&&◌, List, [], count_by, length, slice_index, slice_index_or, sum_by, if◌then◌else◌}
use Rattle.std.specs.List.{range_with_len}
use Rattle.std.specs.Str.{bytes_eq}
use Rattle.exposures.specs.Exposure.{Inputs}
use Rattle.exposures.specs.Counts.{counts_of}
use Rattle.bucket_core.specs.Rule.{Entries, total_weight}
use Rattle.limits.specs.Limits.{tally_inputs}
use Rattle.price_core.specs.Cost.{name_at, name_of_input}
use Rattle.rule_switches.specs.Runs.{Run}
use Rattle.rule_switches.specs.declared.table.PairSwitches.{PairSwitches}

-- whether the rules give a point these names
abbrev pub is_switched : Entries → Entries → List ℕ → List ℕ → ℕ → Bool
is_switched old new a b p = bytes_eq (name_at old p) a && bytes_eq (name_at new p) b

-- the number of such points
abbrev pub points_between : Entries → Entries → List ℕ → List ℕ → ℕ
points_between old new a b = count_by (is_switched old new a b) (range_with_len 0 (total_weight old))

-- the number of the inputs that the rules give these names
abbrev pub users_between : Entries → Entries → Inputs → List ℕ → List ℕ → ℕ
users_between old new inputs a b = count_by (λ input. bytes_eq (name_of_input old input) a && bytes_eq (name_of_input new input) b) inputs

-- the same number by how many inputs fall on each point
abbrev pub tally_between : Entries → Entries → List ℕ → List ℕ → List ℕ → ℕ
tally_between old new counts a b = sum_by (λ p. if is_switched old new a b p then slice_index counts p else 0) (range_with_len 0 (total_weight old))

-- it is the same: no more needs to be known of the inputs, of two rules of one total
abbrev pub TalliesTellUsers : Type 0
TalliesTellUsers = (old new : Entries) (inputs : Inputs) (a b : List ℕ) → 0 < total_weight old → total_weight new ≡ total_weight old
    → tally_between old new (counts_of inputs (total_weight old)) a b ≡ users_between old new inputs a b

-- ---- the table

abbrev pub no_switch : PairSwitches
no_switch = record { points = 0; users = 0 }

-- what goes from one place to another
abbrev pub switch_at : ℕ × List PairSwitches → ℕ → ℕ → PairSwitches
switch_at t i j = slice_index_or t.1 (i * t.0 + j) no_switch

abbrev pub name_of : List (List ℕ) → ℕ → List ℕ
name_of names i = slice_index_or names i []

-- a place for each of the names; between each two the points and the users that go from the one to the other
pub record IsSwitchTable (old new : Entries) (names : List (List ℕ)) (counts : List ℕ) (t : ℕ × List PairSwitches) : Type 0 where
  pub width : t.0 ≡ length names
  pub points : (i j : ℕ) → i < length names → j < length names → (switch_at t i j).points ≡ points_between old new (name_of names i) (name_of names j)
  pub users : (i j : ℕ) → i < length names → j < length names → (switch_at t i j).users ≡ tally_between old new counts (name_of names i) (name_of names j)

-- ---- for private clauses

-- a run from the one name to the other
abbrev pub is_between : List ℕ → List ℕ → Run → Bool
is_between a b r = bytes_eq r.from a && bytes_eq r.to b

abbrev pub run_points : List ℕ → List ℕ → List Run → ℕ
run_points a b rs = sum_by (λ r. if is_between a b r then r.points else 0) rs

abbrev pub run_users : List ℕ → List ℕ → List Run → ℕ
run_users a b rs = sum_by (λ r. if is_between a b r then r.users else 0) rs

-- the points and users of the runs
pub record IsTableOf (names : List (List ℕ)) (rs : List Run) (t : ℕ × List PairSwitches) : Type 0 where
  pub width : t.0 ≡ length names
  pub points : (i j : ℕ) → i < length names → j < length names → (switch_at t i j).points ≡ run_points (name_of names i) (name_of names j) rs
  pub users : (i j : ℕ) → i < length names → j < length names → (switch_at t i j).users ≡ run_users (name_of names i) (name_of names j) rs

-- numbers that one more run may be added to
abbrev pub AreSmall : List PairSwitches → Type 0
AreSmall switches = (c : ℕ) → c < length switches → ((slice_index_or switches c no_switch).points < 2 ^ 31) × ((slice_index_or switches c no_switch).users ≤ tally_inputs)

-- the two names that a place of the table is for
abbrev pub is_of_place : List (List ℕ) → ℕ → Run → Bool
is_of_place names c r = is_between (name_of names (c / length names)) (name_of names (c % length names)) r

-- a run was added at the place of its names, and nothing elsewhere
pub record HasRun (names : List (List ℕ)) (r : Run) (before after : List PairSwitches) : Type 0 where
  pub long : length after ≡ length before
  pub points : (c : ℕ) → c < length before → (slice_index_or after c no_switch).points ≡ (slice_index_or before c no_switch).points + (if is_of_place names c r then r.points else 0)
  pub users : (c : ℕ) → c < length before → (slice_index_or after c no_switch).users ≡ (slice_index_or before c no_switch).users + (if is_of_place names c r then r.users else 0)
