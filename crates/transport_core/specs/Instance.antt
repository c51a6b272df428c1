-- Instances: the transportation problem that a planner is given (Hitchcock 1941; Ahuja, Magnanti, Orlin, Network Flows, section 1.2).
use Rattle.std.specs.Prelude.{ℕ, ◌*◌, ◌<◌, ◌≤◌, ◌⊎◌, List, length, sum_by}
use Rattle.std.specs.List.{All, Contains}
use Rattle.std.specs.List.Sorted.{IsStrictlySortedBy}
use Rattle.std.specs.Map.{keys_of}
use Rattle.limits.specs.Limits.{planned_total, variants, point_inputs, tally_inputs}
use Rattle.bucket_core.specs.Rule.{Entries, total_weight}
use Rattle.price_core.specs.Limits.{Limits, AreLimits}
use Rattle.price_core.specs.Pricing.{Pricing}
use Rattle.transport_core.specs.Groups.{GroupKey, group_cmp}
use Rattle.transport_core.specs.Rows.{whole_amount}

-- groups of points are the supplies, limits on the names' totals the demands, and a switch is priced by its old and new name
pub record TransportProblem : Type 0 where
  pub groups : List (GroupKey × ℕ)
  pub limits : Limits
  pub pricing : Pricing

-- the largest total that may be planned, and the most names
abbrev pub max_planned_total : ℕ
max_planned_total = planned_total

abbrev pub max_names : ℕ
max_names = variants

-- what holds of each instance: groups in order, none of them empty, each of a name that has limits, with no more inputs at a point
-- and at all of them than a tally has, and limits that these points can meet in number
pub record IsProblem (p : TransportProblem) : Type 0 where
  pub limits : AreLimits p.limits
  pub names : length p.limits ≤ max_names
  pub rise : IsStrictlySortedBy group_cmp (keys_of p.groups)
  pub sizes : All (λ g. 0 < g.1) p.groups
  pub listed : All (λ g. Contains (keys_of p.limits) g.0.0) p.groups
  pub counts : All (λ g. g.0.1 ≤ point_inputs) p.groups
  pub inputs : sum_by (λ g. g.0.1 * g.1) p.groups ≤ tally_inputs
  pub some : 0 < whole_amount p.groups
  pub small : whole_amount p.groups ≤ max_planned_total
  pub lows : sum_by (λ l. l.1.0) p.limits ≤ whole_amount p.groups
  pub highs : whole_amount p.groups ≤ sum_by (λ l. l.1.1) p.limits

-- each name of the rule, also one without weight, has limits
abbrev pub AreListed : Entries → Limits → Type 0
AreListed old limits = All (Contains (keys_of limits)) (keys_of old)

-- the low limits sum above the rule's total, or the high ones below it
abbrev pub MissTotal : Entries → Limits → Type 0
MissTotal old limits = (total_weight old < sum_by (λ l. l.1.0) limits) ⊎ (sum_by (λ l. l.1.1) limits < total_weight old)
