-- Residual networks: arcs between numbered nodes, with costs, and potentials of the nodes (Ahuja, Magnanti, Orlin, Network
-- Flows, section 9.2).
use Rattle.std.specs.Prelude.{◌≡◌, ℕ, ◌<◌, ◌≤◌, ◌+◌, ◌*◌, ◌^◌, ℤ, pos, ◌+ℤ◌, ◌≤ℤ◌, List, length, Option, Some, None, slice_index_or}
use Rattle.std.proofs.Common.{neg_ℤ}
use Rattle.min_cost_flow.specs.declared.arc.Arc.{Arc}

-- the most that an arc costs, up or down: the largest price for the most inputs of a point; and the most nodes
abbrev pub max_cost : ℕ
max_cost = 67108864 * 1000000

abbrev pub max_nodes : ℕ
max_nodes = 65

-- a number with room for a sum of two in 64 bits
pub record IsShort (z : ℤ) : Type 0 where
  pub low : neg_ℤ (pos (2 ^ 61)) ≤ℤ z
  pub high : z ≤ℤ pos (2 ^ 61)

-- the arc from one node to another; the arcs stand by the node that they leave and then by the other
abbrev pub arc_at : List (Option Arc) → ℕ → ℕ → ℕ → Option Arc
arc_at arcs nodes from to = slice_index_or arcs (from * nodes + to) None

abbrev pub potential_in : List ℤ → ℕ → ℤ
potential_in potentials v = slice_index_or potentials v (pos 0)

-- no arc has a negative reduced cost: `cost + potential(from) - potential(to) >= 0`
pub record HasNonNegativeReducedCosts (nodes : ℕ) (arc : ℕ → ℕ → Option Arc) (potential : ℕ → ℤ) : Type 0 where
  pub least : (u v : ℕ) (a : Arc) → u < nodes → v < nodes → arc u v ≡ Some a → potential v ≤ℤ (potential u +ℤ a.cost)

-- no arc costs more than this, up or down
pub record HasCostsWithin (nodes : ℕ) (arc : ℕ → ℕ → Option Arc) (most : ℕ) : Type 0 where
  pub low : (u v : ℕ) (a : Arc) → u < nodes → v < nodes → arc u v ≡ Some a → neg_ℤ (pos most) ≤ℤ a.cost
  pub high : (u v : ℕ) (a : Arc) → u < nodes → v < nodes → arc u v ≡ Some a → a.cost ≤ℤ pos most

-- A residual network that may be searched: an arc or none for each two of its few nodes, at a cost within the limit, and a short
-- potential for each node, by which no reduced cost is negative.
pub record IsNetwork (nodes : ℕ) (arcs : List (Option Arc)) (potentials : List ℤ) : Type 0 where
  pub few : nodes ≤ max_nodes
  pub square : length arcs ≡ nodes * nodes
  pub many : length potentials ≡ nodes
  pub short : (v : ℕ) → v < nodes → IsShort (potential_in potentials v)
  pub costs : HasCostsWithin nodes (arc_at arcs nodes) max_cost
  pub reduced : HasNonNegativeReducedCosts nodes (arc_at arcs nodes) (potential_in potentials)
