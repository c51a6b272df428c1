-- What a search of a residual network knows while it settles nodes: the distance of each node from the source, its predecessor on
-- the shortest path, and its rank: how many nodes were settled before it. Unsettled nodes have the number of nodes or more.
use Rattle.std.specs.Prelude.{◌≡◌, ◌≢◌, ℕ, ◌<◌, ◌≤◌, ◌*◌, ◌⊎◌, ℤ, pos, ◌+ℤ◌, ◌-ℤ◌, ◌≤ℤ◌, Bool, true, List, length, MatchOption, Option, Some, None, slice_get, slice_index_or}
use Rattle.std.proofs.Common.{neg_ℤ}
use Rattle.min_cost_flow.specs.Network.{IsShort, arc_at, max_cost, potential_in}
use Rattle.min_cost_flow.specs.declared.arc.Arc.{Arc}
use Rattle.min_cost_flow.specs.declared.node.NodeState.{NodeState}

-- what a list of the nodes says of one
abbrev pub no_node : NodeState
no_node = record { distance = None; predecessor = 0; settle_order = 0 }

abbrev pub node_at : List NodeState → ℕ → NodeState
node_at nodes v = slice_index_or nodes v no_node

abbrev pub distance_in : List NodeState → ℕ → Option ℤ
distance_in nodes v = (node_at nodes v).distance

abbrev pub predecessor_in : List NodeState → ℕ → ℕ
predecessor_in nodes v = (node_at nodes v).predecessor

abbrev pub settle_order_in : List NodeState → ℕ → ℕ
settle_order_in nodes v = (node_at nodes v).settle_order

-- the distance and the predecessor of a node stay
pub record Stays (distance distance' : Option ℤ) (predecessor predecessor' : ℕ) : Type 0 where
  pub same_distance : distance' ≡ distance
  pub same_predecessor : predecessor' ≡ predecessor

-- an unsettled node is nearer over a settled one, which is its predecessor now
pub record Improves (nodes node : ℕ) (node_distance : ℤ) (arc : Option Arc) (rank : ℕ) (distance distance' : Option ℤ) (predecessor' : ℕ) : Type 0 where
  pub along : Arc
  pub there : arc ≡ Some along
  pub unsettled : nodes ≤ rank
  pub new_distance : distance' ≡ Some (node_distance +ℤ along.cost)
  pub new_predecessor : predecessor' ≡ node
  pub less : (known : ℤ) → distance ≡ Some known → (node_distance +ℤ along.cost) ≤ℤ known

-- the arc from a settled node is relaxed
pub record Relaxes (nodes node : ℕ) (node_distance : ℤ) (arc : Option Arc) (rank : ℕ) (distance distance' : Option ℤ) (predecessor predecessor' : ℕ) : Type 0 where
  pub change : Stays distance distance' predecessor predecessor' ⊎ Improves nodes node node_distance arc rank distance distance' predecessor'
  pub covers : (a : Arc) → nodes ≤ rank → arc ≡ Some a → (known : ℤ) × (distance' ≡ Some known) × (known ≤ℤ (node_distance +ℤ a.cost))

-- the same of the arc to one node, by what is known of the nodes before and after
abbrev pub RelaxesTo : List (Option Arc) → ℕ → ℤ → List NodeState → List NodeState → ℕ → Type 0
RelaxesTo arcs node node_distance nodes nodes' v =
    Relaxes (length arcs) node node_distance (slice_index_or arcs v None) (settle_order_in nodes v) (distance_in nodes v) (distance_in nodes' v) (predecessor_in nodes v) (predecessor_in nodes' v)

-- all arcs from a settled node are relaxed, and no other node is settled
pub record RelaxesAll (arcs : List (Option Arc)) (node : ℕ) (node_distance : ℤ) (nodes nodes' : List NodeState) : Type 0 where
  pub each : (v : ℕ) → v < length arcs → RelaxesTo arcs node node_distance nodes nodes' v
  pub same_order : (v : ℕ) → settle_order_in nodes' v ≡ settle_order_in nodes v

-- a node that was reached has a settled predecessor, and its distance is the predecessor's and the cost of the arc
pub record HasPredecessor (nodes : ℕ) (arc : ℕ → ℕ → Option Arc) (distance : ℕ → Option ℤ) (predecessor rank : ℕ → ℕ) (v : ℕ) (known : ℤ) : Type 0 where
  pub within : predecessor v < nodes
  pub settled : rank (predecessor v) < nodes
  pub before : rank (predecessor v) < rank v
  pub predecessor_distance : ℤ
  pub reached : distance (predecessor v) ≡ Some predecessor_distance
  pub along : Arc
  pub there : arc (predecessor v) v ≡ Some along
  pub sum : known ≡ predecessor_distance +ℤ along.cost

-- what holds after so many nodes are settled
pub record IsSearched (nodes : ℕ) (arc : ℕ → ℕ → Option Arc) (potential : ℕ → ℤ) (source most count : ℕ) (distance : ℕ → Option ℤ) (predecessor rank : ℕ → ℕ) : Type 0 where
  pub start : (known : ℤ) × (distance source ≡ Some known)
  pub few : (v : ℕ) → v < nodes → rank v < nodes → rank v < count
  pub known : (v : ℕ) → v < nodes → rank v < nodes → (a : ℤ) × (distance v ≡ Some a)
  -- no node is further than a settled one and the cost of an arc from there
  pub closed : (u v : ℕ) (a : ℤ) (r : Arc) → u < nodes → v < nodes → rank u < nodes → distance u ≡ Some a → arc u v ≡ Some r → (b : ℤ) × (distance v ≡ Some b) × (b ≤ℤ (a +ℤ r.cost))
  -- no settled node is further by reduced costs than an unsettled one
  pub order : (u v : ℕ) (a b : ℤ) → u < nodes → v < nodes → rank u < nodes → nodes ≤ rank v → distance u ≡ Some a → distance v ≡ Some b → (a +ℤ potential v) ≤ℤ (b +ℤ potential u)
  pub tree : (v : ℕ) (b : ℤ) → v < nodes → distance v ≡ Some b → (v ≡ source) ⊎ HasPredecessor nodes arc distance predecessor rank v b
  pub low : (v : ℕ) (b : ℤ) → v < nodes → distance v ≡ Some b → neg_ℤ (pos (count * most)) ≤ℤ b
  pub high : (v : ℕ) (b : ℤ) → v < nodes → distance v ≡ Some b → b ≤ℤ pos (count * most)

-- the same of a list of the nodes, over arcs within the limit of costs
abbrev pub AreSearched : ℕ → List (Option Arc) → List ℤ → ℕ → ℕ → List NodeState → Type 0
AreSearched nodes arcs potentials source count states =
    IsSearched nodes (arc_at arcs nodes) (potential_in potentials) source max_cost count (distance_in states) (predecessor_in states) (settle_order_in states)

-- the source has the distance 0, no other node is reached, and none is settled
pub record AreBegun (nodes source : ℕ) (states : List NodeState) : Type 0 where
  pub unsettled : (v : ℕ) → v < nodes → settle_order_in states v ≡ nodes
  pub unreached : (v : ℕ) → v < nodes → v ≢ source → distance_in states v ≡ None
  pub start : distance_in states source ≡ Some (pos 0)

-- what holds before a node is settled
pub record BeginsSearch (nodes : ℕ) (arcs : List (Option Arc)) (potentials : List ℤ) (source : ℕ) (states : List NodeState) : Type 0 where
  pub within : source < nodes
  pub unsettled : (v : ℕ) → v < nodes → nodes ≤ settle_order_in states v
  pub searched : AreSearched nodes arcs potentials source 0 states

-- as many potentials as nodes, and these and the distances are short
pub record AreShort (potentials : List ℤ) (states : List NodeState) : Type 0 where
  pub many : length potentials ≡ length states
  pub potential : (v : ℕ) → v < length states → IsShort (potential_in potentials v)
  pub distance : (v : ℕ) (a : ℤ) → v < length states → distance_in states v ≡ Some a → IsShort a

-- every node that was reached is settled
abbrev pub IsExhausted : ℕ → (ℕ → Option ℤ) → (ℕ → ℕ) → Type 0
IsExhausted nodes distance rank = (v : ℕ) (a : ℤ) → v < nodes → nodes ≤ rank v → distance v ≡ Some a → ⊥

-- an unsettled node that was reached, and none such is nearer by reduced costs
pub record IsNearest (nodes : ℕ) (potential : ℕ → ℤ) (distance : ℕ → Option ℤ) (rank : ℕ → ℕ) (node : ℕ) (node_distance : ℤ) : Type 0 where
  pub within : node < nodes
  pub unsettled : nodes ≤ rank node
  pub reached : distance node ≡ Some node_distance
  pub least : (v : ℕ) (b : ℤ) → v < nodes → nodes ≤ rank v → distance v ≡ Some b → (node_distance +ℤ potential v) ≤ℤ (b +ℤ potential node)

-- the same two of a list of the nodes, and of a node with its distance
abbrev pub AreExhausted : List NodeState → ℕ → Type 0
AreExhausted states nodes = IsExhausted nodes (distance_in states) (settle_order_in states)

abbrev pub IsNearestOf : List ℤ → List NodeState → ℕ → ℕ × ℤ → Type 0
IsNearestOf potentials states nodes r = IsNearest nodes (potential_in potentials) (distance_in states) (settle_order_in states) r.0 r.1

-- no settled node is wanted, and the nearest of the others is, or none of these can be reached
pub record EndsSearch (nodes : ℕ) (arcs : List (Option Arc)) (potentials : List ℤ) (wanted : List Bool) (source : ℕ) (states : List NodeState) (result : Option (ℕ × ℤ)) : Type 0 where
  pub searched : AreSearched nodes arcs potentials source nodes states
  pub unwanted : (v : ℕ) → v < nodes → settle_order_in states v < nodes → slice_get wanted v ≡ Some true → ⊥
  pub found : MatchOption result (AreExhausted states nodes) (λ r. IsNearestOf potentials states nodes r × (slice_get wanted r.0 ≡ Some true))

-- the arc from the predecessor has the reduced cost 0
pub record IsTight (nodes : ℕ) (arc : ℕ → ℕ → Option Arc) (potential : ℕ → ℤ) (predecessor rank : ℕ → ℕ) (v : ℕ) : Type 0 where
  pub within : predecessor v < nodes
  pub settled : rank (predecessor v) < nodes
  pub before : rank (predecessor v) < rank v
  pub along : Arc
  pub there : arc (predecessor v) v ≡ Some along
  pub zero : potential v ≡ potential (predecessor v) +ℤ along.cost

-- the potential of each settled node falls by as much as the node is nearer by reduced costs than the wanted one
pub record Lowers (nodes : ℕ) (potential potential' : ℕ → ℤ) (distance : ℕ → Option ℤ) (rank : ℕ → ℕ) (node : ℕ) (node_distance : ℤ) : Type 0 where
  pub settled : (v : ℕ) (a : ℤ) → v < nodes → rank v < nodes → distance v ≡ Some a → potential' v ≡ ((potential node +ℤ a) -ℤ node_distance)
  pub others : (v : ℕ) → v < nodes → nodes ≤ rank v → potential' v ≡ potential v
