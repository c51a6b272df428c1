-- When each refusal of a plan comes: its own demand fails, and all that are tested before it are met.
use Rattle.std.specs.Prelude.{◌≡◌, ◌≢◌, ◌<◌, ◌≤◌, ◌*◌, ◌&&◌, ◌⊎◌, ℕ, ℤ, pos, ◌+ℤ◌, Bool, not, List, map, MatchResult, Option, Some, None, Result, find, int_lt, string_bytes}
use Rattle.std.specs.List.{range_with_len, flat_map}
use Rattle.std.specs.Map.{keys_of}
use Rattle.bucket_core.specs.Rule.{Entries, total_weight, total_of}
use Rattle.price_core.specs.Cost.{cost_of, first_forbidden_of}
use Rattle.price_core.specs.Limits.{Limits, low_of, high_of}
use Rattle.price_core.specs.Pricing.{Pricing, price_of, is_forbidden, max_price}
use Rattle.transport_core.specs.Certificate.{DualPrices, alpha_at, beta_of}
use Rattle.transport_core.specs.Dual.{least_value}
use Rattle.transport_core.specs.Fits.{Fits}
use Rattle.transport_core.specs.Groups.{GroupKey, AreGroups}
use Rattle.transport_core.specs.Sum.{sum_z}
use Rattle.transport_core.specs.declared.fault.CheckFault.{CheckFault}
use Rattle.transport_core.specs.declared.fault.CheckFault.TheVariants.{WantOfMemory, Weight, Totals, Forbidden, Slack, Sum, Cost, NotDeficient, Groups}

-- the totals of all texts are within their limits
pub record KeepsLimits (rule : Entries) (limits : Limits) : Type 0 where
  pub low : (name : List ℕ) → low_of limits name ≤ total_of rule name
  pub high : (name : List ℕ) → total_of rule name ≤ high_of limits name

-- the total of this text is outside its limits
abbrev pub BreaksLimit : Entries → Limits → List ℕ → Type 0
BreaksLimit rule limits name = (total_of rule name < low_of limits name) ⊎ (high_of limits name < total_of rule name)

-- each group with each name, in this order
abbrev pub pairs_of : List (GroupKey × ℤ) → List (List ℕ × ℤ) → List ((GroupKey × ℤ) × (List ℕ × ℤ))
pairs_of alpha beta = flat_map (λ a. map (λ b. (a, b)) beta) alpha

-- the change is not forbidden, and its reduced cost is negative: the numbers of the group and the name sum to more than it costs
abbrev pub is_broken : Pricing → (GroupKey × ℤ) × (List ℕ × ℤ) → Bool
is_broken pricing pair = not (is_forbidden pricing pair.0.0.0 pair.1.0) && int_lt (pos (pair.0.0.1 * price_of pricing pair.0.0.0 pair.1.0)) (pair.0.1 +ℤ pair.1.1)

-- what an input pays on an arc from one name to another, and whether it is forbidden
pub record IsArcCost (pricing : Pricing) (to from : List ℕ) (barred : Bool) (price : ℕ) : Type 0 where
  pub forbidden : barred ≡ is_forbidden pricing from to
  pub amount : price ≡ price_of pricing from to
  pub small : price ≤ max_price

-- the first pair whose reduced cost is negative
abbrev pub first_broken : Pricing → DualPrices → Option ((GroupKey × ℤ) × (List ℕ × ℤ))
first_broken pricing c = find (is_broken pricing) (pairs_of c.alpha c.beta)

-- the numbers of all points, and of the names at their limits
abbrev pub dual_sum : Entries → List (List ℕ) → Limits → DualPrices → ℤ
dual_sum old inputs limits c = sum_z (alpha_at old inputs c.alpha) (range_with_len 0 (total_weight old)) +ℤ sum_z (λ l. least_value l.1 (beta_of c.beta l.0)) limits

-- what must hold before the certificate's numbers are read
pub record IsOverGroups (old new : Entries) (limits : Limits) (pricing : Pricing) (inputs : List (List ℕ)) (c : DualPrices) : Type 0 where
  pub fits : Fits old new limits pricing
  pub groups : AreGroups old inputs (keys_of c.alpha)
  pub names : keys_of c.beta ≡ keys_of limits

abbrev pub Refuses : Entries → Entries → Limits → Pricing → List (List ℕ) → DualPrices → CheckFault → Type 0
Refuses old new limits pricing inputs c WantOfMemory = Unit {0}
Refuses old new limits pricing inputs c Weight = total_weight new ≢ total_weight old
Refuses old new limits pricing inputs c Totals = (total_weight new ≡ total_weight old) × ((name : List ℕ) × BreaksLimit new limits name)
Refuses old new limits pricing inputs c (Forbidden p) = (total_weight new ≡ total_weight old) × KeepsLimits new limits × (first_forbidden_of old new pricing ≡ Some p)
Refuses old new limits pricing inputs c Groups = Fits old new limits pricing × ¬ (AreGroups old inputs (keys_of c.alpha) × (keys_of c.beta ≡ keys_of limits))
Refuses old new limits pricing inputs c (Slack name count variant) =
    IsOverGroups old new limits pricing inputs c × ((x : ℤ) × (y : ℤ) × (first_broken pricing c ≡ Some (((string_bytes name, count), x), (string_bytes variant, y))))
Refuses old new limits pricing inputs c Sum = IsOverGroups old new limits pricing inputs c × (first_broken pricing c ≡ None) × (dual_sum old inputs limits c ≢ pos c.cost)
Refuses old new limits pricing inputs c Cost =
    IsOverGroups old new limits pricing inputs c × (first_broken pricing c ≡ None) × (dual_sum old inputs limits c ≡ pos c.cost) × (cost_of old new inputs pricing ≢ c.cost)
Refuses old new limits pricing inputs c NotDeficient = ⊥

-- a refusal that names this pair
abbrev pub ReportsBroken : Option ((GroupKey × ℤ) × (List ℕ × ℤ)) → CheckFault → Type 0
ReportsBroken pair WantOfMemory = Unit {0}
ReportsBroken pair (Slack name count variant) = (x : ℤ) × (y : ℤ) × (pair ≡ Some (((string_bytes name, count), x), (string_bytes variant, y)))
ReportsBroken pair fault = ⊥

-- the refusals of a new rule that does not fit, and those of a certificate
abbrev pub RefusesRule : Entries → Entries → Limits → Pricing → CheckFault → Type 0
RefusesRule old new limits pricing WantOfMemory = Unit {0}
RefusesRule old new limits pricing Weight = total_weight new ≢ total_weight old
RefusesRule old new limits pricing Totals = (total_weight new ≡ total_weight old) × ((name : List ℕ) × BreaksLimit new limits name)
RefusesRule old new limits pricing (Forbidden p) = (total_weight new ≡ total_weight old) × KeepsLimits new limits × (first_forbidden_of old new pricing ≡ Some p)
RefusesRule old new limits pricing fault = ⊥

abbrev pub RefusesDuals : Entries → Limits → Pricing → List (List ℕ) → DualPrices → CheckFault → Type 0
RefusesDuals old limits pricing inputs c WantOfMemory = Unit {0}
RefusesDuals old limits pricing inputs c Groups = ¬ (AreGroups old inputs (keys_of c.alpha) × (keys_of c.beta ≡ keys_of limits))
RefusesDuals old limits pricing inputs c (Slack name count variant) =
    AreGroups old inputs (keys_of c.alpha) × (keys_of c.beta ≡ keys_of limits) × ReportsBroken (first_broken pricing c) (Slack name count variant)
RefusesDuals old limits pricing inputs c Sum =
    AreGroups old inputs (keys_of c.alpha) × (keys_of c.beta ≡ keys_of limits) × (first_broken pricing c ≡ None) × (dual_sum old inputs limits c ≢ pos c.cost)
RefusesDuals old limits pricing inputs c fault = ⊥

-- the numbers are those of the groups and names, no pair is broken, and they sum to the cost
pub record AreDuals (old : Entries) (limits : Limits) (pricing : Pricing) (inputs : List (List ℕ)) (c : DualPrices) : Type 0 where
  pub groups : AreGroups old inputs (keys_of c.alpha)
  pub names : keys_of c.beta ≡ keys_of limits
  pub unbroken : first_broken pricing c ≡ None
  pub sum : dual_sum old inputs limits c ≡ pos c.cost

-- what checking these numbers comes to
abbrev pub ChecksDuals : {X : Type 0} → Entries → Limits → Pricing → List (List ℕ) → DualPrices → Result X CheckFault → Type 0
ChecksDuals old limits pricing inputs c result = MatchResult result (λ _. AreDuals old limits pricing inputs c) (RefusesDuals old limits pricing inputs c)
