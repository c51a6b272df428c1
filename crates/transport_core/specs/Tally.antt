-- What a planner needs to know of recorded inputs: how many fall on each point.
use Rattle.std.specs.Prelude.{◌≡◌, ℕ, ◌≤◌, List, length, get_or, sum}
use Rattle.limits.specs.Limits.{point_inputs, tally_inputs}

-- a count for each point below the total, and no more inputs than are planned for on a point and in all
pub record IsTally (total : ℕ) (counts : List ℕ) : Type 0 where
  pub whole : length counts ≡ total
  pub small : (p : ℕ) → get_or counts p 0 ≤ point_inputs
  pub few : sum counts ≤ tally_inputs
