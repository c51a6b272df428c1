-- The moves that a group's points at a name offer its arcs.
use Rattle.std.specs.Prelude.{◌≡◌, ℕ, ◌⊎◌, ℤ, pos, ◌-ℤ◌, ◌*ℤ◌, ◌≤ℤ◌, Option, Some}
use Rattle.min_cost_flow.specs.declared.arc.Arc.{Arc}

-- the most that a switch costs an input
abbrev pub max_switch_cost : ℕ
max_switch_cost = 1000000

pub record IsSwitchCost (switch_cost : ℤ) : Type 0 where
  pub low : pos 0 ≤ℤ switch_cost
  pub high : switch_cost ≤ℤ pos max_switch_cost

-- the arc is a move of a point of the group, which costs each input there what a switch to the new name costs over one to its own
pub record IsOffer (here : ℤ) (group count : ℕ) (switch_cost : Option ℤ) (old new : Option Arc) : Type 0 where
  pub to : ℤ
  pub arc : Arc
  pub allowed : switch_cost ≡ Some to
  pub taken : new ≡ Some arc
  pub same_group : arc.group ≡ group
  pub cost : arc.cost ≡ pos count *ℤ (to -ℤ here)
  pub less : (known : Arc) → old ≡ Some known → arc.cost ≤ℤ known.cost

-- the arc stays or is the offer, and is no dearer than the offer
pub record Offers (here : ℤ) (group count : ℕ) (switch_cost : Option ℤ) (old new : Option Arc) : Type 0 where
  pub change : (new ≡ old) ⊎ IsOffer here group count switch_cost old new
  pub covers : (to : ℤ) → switch_cost ≡ Some to → (a : Arc) × (new ≡ Some a) × (a.cost ≤ℤ (pos count *ℤ (to -ℤ here)))
