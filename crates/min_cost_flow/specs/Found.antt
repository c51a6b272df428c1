-- What a search of a residual network leaves: shortest paths and potentials, or a set of nodes that no arc leaves.
use Rattle.std.specs.Prelude.{◌≡◌, ℕ, ◌<◌, ◌≤◌, ◌+◌, ◌*◌, nat_lt, count_by, is_some, if◌then◌else◌, ◌⊎◌, ℤ, pos, ◌+ℤ◌, ◌-ℤ◌, ◌≤ℤ◌, Bool, true, List, length, MatchOption, Option, Some, slice_get}
use Rattle.min_cost_flow.specs.Network.{HasNonNegativeReducedCosts, arc_at, max_cost, potential_in}
use Rattle.min_cost_flow.specs.Searched.{IsTight, predecessor_in, settle_order_in}
use Rattle.min_cost_flow.specs.declared.arc.Arc.{Arc}
use Rattle.min_cost_flow.specs.declared.node.NodeState.{NodeState}
use Rattle.min_cost_flow.specs.declared.search.Search.{Search}

-- a potential for each node, and what is known of it
pub record HasSize (count : ℕ) (s : Search) : Type 0 where
  pub potentials : length s.potentials.items ≡ count
  pub nodes : length s.nodes.items ≡ count

-- how many nodes a search has settled: those with a place in the order, and the wanted one that it found
abbrev pub settled_nodes : {X : Type 0} → ℕ → List NodeState → Option X → ℕ
settled_nodes count nodes found = count_by (λ s. nat_lt s.settle_order count) nodes + (if is_some found then 1 else 0)

abbrev pub potential_of : Search → ℕ → ℤ
potential_of s v = potential_in s.potentials.items v

abbrev pub predecessor_of : Search → ℕ → ℕ
predecessor_of s v = predecessor_in s.nodes.items v

abbrev pub rank_of : Search → ℕ → ℕ
rank_of s v = settle_order_in s.nodes.items v

-- No wanted node can be reached: the source is settled, no arc leaves the settled nodes, and none of these is wanted.
pub record IsStuck (nodes : ℕ) (arc : ℕ → ℕ → Option Arc) (wanted : List Bool) (source : ℕ) (potential potential' : ℕ → ℤ) (rank : ℕ → ℕ) : Type 0 where
  pub same : (v : ℕ) → potential' v ≡ potential v
  pub source_in : rank source < nodes
  pub closed : (u v : ℕ) (a : Arc) → u < nodes → v < nodes → rank u < nodes → arc u v ≡ Some a → rank v < nodes
  pub unwanted : (v : ℕ) → v < nodes → rank v < nodes → slice_get wanted v ≡ Some true → ⊥

-- A wanted node is found: no arc has a negative reduced cost by the new potentials, those on the shortest paths to it and to each
-- settled node have the reduced cost 0, and only potentials of settled nodes changed: these fell to near that of the wanted node.
pub record HasFound (nodes : ℕ) (arc : ℕ → ℕ → Option Arc) (wanted : List Bool) (source : ℕ) (potential potential' : ℕ → ℤ) (predecessor rank : ℕ → ℕ) (node : ℕ) : Type 0 where
  pub within : node < nodes
  pub is_wanted : slice_get wanted node ≡ Some true
  pub unsettled : nodes ≤ rank node
  pub unwanted : (v : ℕ) → v < nodes → rank v < nodes → slice_get wanted v ≡ Some true → ⊥
  pub reduced : HasNonNegativeReducedCosts nodes arc potential'
  pub tight : (v : ℕ) → v < nodes → (rank v < nodes) ⊎ (v ≡ node) → (v ≡ source) ⊎ IsTight nodes arc potential' predecessor rank v
  pub kept : (v : ℕ) → v < nodes → nodes ≤ rank v → potential' v ≡ potential v
  pub fallen : (v : ℕ) → v < nodes → rank v < nodes → potential' v ≤ℤ potential v
  pub low : (v : ℕ) → v < nodes → rank v < nodes → (potential node -ℤ pos (2 * (nodes * max_cost))) ≤ℤ potential' v
  pub high : (v : ℕ) → v < nodes → rank v < nodes → potential' v ≤ℤ (potential node +ℤ pos (2 * (nodes * max_cost)))

-- the wanted node that was found, or that none can be reached; the arcs stand by the node that they leave and then by the other
abbrev pub Finds : ℕ → List (Option Arc) → List Bool → ℕ → (ℕ → ℤ) → (ℕ → ℤ) → (ℕ → ℕ) → (ℕ → ℕ) → Option ℕ → Type 0
Finds nodes arcs wanted source potential potential' predecessor rank found = MatchOption found
    (IsStuck nodes (arc_at arcs nodes) wanted source potential potential' rank)
    (HasFound nodes (arc_at arcs nodes) wanted source potential potential' predecessor rank)
