-- How many inputs two rules give different names: from each name to each. The rules may differ in their totals.
use Rattle.std.specs.Prelude.{◌≡◌, ◌≢◌, ℕ, ◌<◌, ◌&&◌, not, List, [], map, count_by, sum_by, string_bytes, unwrap_or}
use Rattle.std.specs.List.{All}
use Rattle.std.specs.List.Sorted.{IsStrictlySortedBy}
use Rattle.std.specs.Map.{keys_of, lookup}
use Rattle.std.specs.Str.{bytes_eq}
use Rattle.exposures.specs.Exposure.{Inputs}
use Rattle.bucket_core.specs.Rule.{Entries}
use Rattle.price_core.specs.Cost.{cost_of, name_of_input}
use Rattle.price_core.specs.Pricing.{Pair, Pricing, is_same_pair, pair_cmp}
use Rattle.rule_switches.specs.declared.switch.Switch as program

-- the number of the inputs that the one rule gives the name a, and the other the name b
abbrev pub switches : Entries → Entries → Inputs → List ℕ → List ℕ → ℕ
switches before after inputs a b = count_by (λ input. bytes_eq a (name_of_input before input) && bytes_eq b (name_of_input after input)) inputs

-- the number of those that they give different names
abbrev pub switched : Entries → Entries → Inputs → ℕ
switched before after inputs = count_by (λ input. not (bytes_eq (name_of_input before input) (name_of_input after input))) inputs

-- a change of name, with the number of the inputs that it is of
abbrev pub Rows : Type 0
Rows = List (Pair × ℕ)

-- the number that stands at a change, 0 where it does not stand there
abbrev pub number_at : Rows → List ℕ → List ℕ → ℕ
number_at rows a b = unwrap_or (lookup (is_same_pair (a, b)) rows) 0

-- Each change that an input makes stands there once, by the old name and then by the new one, with the number of its inputs; and no other.
pub record AreSwitches (before after : Entries) (inputs : Inputs) (rows : Rows) : Type 0 where
  pub rise : IsStrictlySortedBy pair_cmp (keys_of rows)
  pub some : All (λ r. 0 < r.1) rows
  pub apart : All (λ r. r.0.0 ≢ r.0.1) rows
  pub each : (a b : List ℕ) → a ≢ b → number_at rows a b ≡ switches before after inputs a b
  -- all together are the inputs whose names differ
  pub whole : sum_by (λ r. r.1) rows ≡ switched before after inputs

-- each change costs 1
abbrev pub at_price_one : Pricing
at_price_one = record { usual = 1; named = []; barred = [] }

-- so many inputs switch as the new rule costs at this price
abbrev pub SwitchesAreCost : Type 0
SwitchesAreCost = (before after : Entries) (inputs : Inputs) → switched before after inputs ≡ cost_of before after inputs at_price_one

-- the rows of the program, without where their names lie in memory
abbrev pub row_view : program.Switch → Pair × ℕ
row_view s = ((string_bytes s.from, string_bytes s.to), s.users)

abbrev pub rows_view : List program.Switch → Rows
rows_view rows = map row_view rows
