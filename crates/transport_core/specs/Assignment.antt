-- Assignments: how many points of each group are given each name, and what makes one certified.
use Rattle.std.specs.Prelude.{◌≡◌, ◌==◌, ◌&&◌, ◌||◌, ◌+ℤ◌, ℕ, ◌*◌, ℤ, pos, Bool, true, not, List, [], ◌∷◌, ◌++◌, map, length, take, drop, sum, sum_by, count_by, nat_le, if◌then◌else◌, unwrap_or}
use Rattle.std.specs.List.{list_all, range_with_len, zip}
use Rattle.std.specs.Map.{keys_of}
use Rattle.std.specs.Str.{bytes_eq}
use Rattle.bucket_core.specs.Rule.{Entries, total_weight, at}
use Rattle.price_core.specs.Limits.{Limits}
use Rattle.price_core.specs.Pricing.{Pricing, price_of, is_forbidden}
use Rattle.transport_core.specs.Certificate.{DualPrices, group_sum, gains, losses}
use Rattle.transport_core.specs.Groups.{GroupKey, is_same_group, group_at}
use Rattle.transport_core.specs.Instance.{TransportProblem}
use Rattle.transport_core.specs.Refusals.{is_broken}
use Rattle.transport_core.specs.Rows.{amount_of}
use Rattle.transport_core.specs.declared.assignment.AssignmentRow as program

-- an arc of the network: from a group to a name
abbrev pub Arc : Type 0
Arc = GroupKey × List ℕ

abbrev pub is_same_arc : Arc → Arc → Bool
is_same_arc a b = is_same_group a.0 b.0 && bytes_eq a.1 b.1

-- the arcs from a group, with the numbers at the front
abbrev pub row_flows : GroupKey → List (List ℕ) → List ℕ → List (Arc × ℕ)
row_flows g names numbers = zip (map (λ name. (g, name)) names) numbers

-- the flow on each arc, where the numbers stand by group and then by name
abbrev pub arc_flows : List GroupKey → List (List ℕ) → List ℕ → List (Arc × ℕ)
arc_flows [] names numbers = []
arc_flows (g ∷ gs) names numbers = row_flows g names numbers ++ arc_flows gs names (drop (length names) numbers)

abbrev pub flows_of : TransportProblem → List ℕ → List (Arc × ℕ)
flows_of p numbers = arc_flows (keys_of p.groups) (keys_of p.limits) numbers

-- what a group gives a name, as the flow on their arc
abbrev pub row_flow : program.AssignmentRow → Arc × ℕ
row_flow r = (((r.name.now, r.count), r.variant.now), r.points)

abbrev pub assigned_view : List program.AssignmentRow → List (Arc × ℕ)
assigned_view rows = map row_flow rows

-- the arc of a point: its group under the old rule, and its name under the new one
abbrev pub arc_at : Entries → Entries → List (List ℕ) → ℕ → Arc
arc_at old new inputs p = (group_at old inputs p, unwrap_or (at new p) [])

-- of each group's points the new rule gives each name as many as flow on the arc between them
pub record HasAssignment (old new : Entries) (inputs : List (List ℕ)) (flows : List (Arc × ℕ)) : Type 0 where
  pub weight : total_weight new ≡ total_weight old
  pub points : (a : Arc) → count_by (λ p. is_same_arc a (arc_at old new inputs p)) (range_with_len 0 (total_weight old)) ≡ amount_of is_same_arc flows a

-- there is a number for each group and name, and those of a group sum to its points
abbrev pub spends_all : List (GroupKey × ℕ) → ℕ → List ℕ → Bool
spends_all [] width numbers = length numbers == 0
spends_all (g ∷ gs) width numbers = nat_le width (length numbers) && ((sum (take width numbers) == g.1) && spends_all gs width (drop width numbers))

-- no point changes in a forbidden way
abbrev pub is_free_of : Pricing → List (Arc × ℕ) → Bool
is_free_of pricing flows = list_all (λ f. (f.1 == 0) || not (is_forbidden pricing f.0.0.0 f.0.1)) flows

-- the points that are given the name
abbrev pub inflow : List (Arc × ℕ) → List ℕ → ℕ
inflow flows name = sum_by (λ f. if bytes_eq name f.0.1 then f.1 else 0) flows

-- what the inputs pay, each by the arc of its point
abbrev pub flow_cost : Pricing → List (Arc × ℕ) → ℕ
flow_cost pricing flows = sum_by (λ f. f.1 * (f.0.0.1 * price_of pricing f.0.0.0 f.0.1)) flows

-- the points that are given each name are at most its high limit, or at least its low one
abbrev pub keeps_high : Limits → List (Arc × ℕ) → Bool
keeps_high limits flows = list_all (λ l. nat_le (inflow flows l.0) l.1.1) limits

abbrev pub keeps_low : Limits → List (Arc × ℕ) → Bool
keeps_low limits flows = list_all (λ l. nat_le l.1.0 (inflow flows l.0)) limits

-- no group and name that an allowed change joins have numbers that sum to more than it costs
abbrev pub has_slack : Pricing → List (GroupKey × ℤ) → List (List ℕ × ℤ) → Bool
has_slack pricing alpha beta = list_all (λ b. list_all (λ a. not (is_broken pricing (a, b))) alpha) beta

-- each point is placed, within the high limits and against no prohibition
pub record IsPlaced (p : TransportProblem) (numbers : List ℕ) : Type 0 where
  pub whole : spends_all p.groups (length p.limits) numbers ≡ true
  pub allowed : is_free_of p.pricing (flows_of p numbers) ≡ true
  pub high : keeps_high p.limits (flows_of p numbers) ≡ true

-- the certificate's numbers are one for each group and one for each name, have slack, and sum to the cost
pub record AreDualNumbers (p : TransportProblem) (c : DualPrices) : Type 0 where
  pub groups : keys_of c.alpha ≡ keys_of p.groups
  pub names : keys_of c.beta ≡ keys_of p.limits
  pub slack : has_slack p.pricing c.alpha c.beta ≡ true
  pub sum : ((group_sum p.groups c.alpha +ℤ gains p.limits c.beta) +ℤ losses p.limits c.beta) ≡ pos c.cost

-- each point is placed within all limits, and the certificate's numbers prove the cost
pub record IsProved (p : TransportProblem) (numbers : List ℕ) (c : DualPrices) : Type 0 where
  pub placed : IsPlaced p numbers
  pub low : keeps_low p.limits (flows_of p numbers) ≡ true
  pub cost : flow_cost p.pricing (flows_of p numbers) ≡ c.cost
  pub duals : AreDualNumbers p c
