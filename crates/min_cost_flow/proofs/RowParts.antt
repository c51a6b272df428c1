-- The arcs from a name, rebuilt as a part of all arcs.
use Rattle.std.proofs.Common.{◌≡◌, ℕ, ◌+◌, ◌-◌, ◌*◌, ◌<◌, ℤ, List, length, take, drop, get_or, Option, None, sym, ◌∙◌, subst}
use Rattle.min_cost_flow.specs.Problem.{cost_at, may_take}
use Rattle.min_cost_flow.specs.Residual.{IsRow, TakesMoves}
use Rattle.min_cost_flow.specs.declared.problem.Group.{Group}
use Rattle.min_cost_flow.specs.Residual.{HasArcs}
use Rattle.min_cost_flow.proofs.ResidualRows.{row_stays, widened_same}
use Rattle.min_cost_flow.proofs.WrittenArcs.{part_is, part_size, row_is}
use Rattle.min_cost_flow.specs.Network.{arc_at}
use Rattle.min_cost_flow.specs.declared.arc.Arc.{Arc}
use borrow.Rule.Slice.PartMut.{put_mid}

-- the arcs from a name, as a part
abbrev pub part_of : ℕ → ℕ → List (Option Arc) → List (Option Arc)
part_of k name arcs = take ((name * (k + 1) + k) - name * (k + 1)) (drop (name * (k + 1)) arcs)

abbrev pub put_row : ℕ → ℕ → List (Option Arc) → List (Option Arc) → List (Option Arc)
put_row k name arcs row = put_mid (name * (k + 1)) ((name * (k + 1) + k) - name * (k + 1)) arcs row

module _ (k name : ℕ) (arcs row : List (Option Arc)) (name_in : name < k) (size : HasArcs k arcs) (row_size : length row ≡ length (part_of k name arcs)) (gs : List Group) (ps : List (Option ℤ)) where
  as_many : length row ≡ k
  as_many = row_size ∙ part_size k name arcs name_in size

  pub part_entered : (group : ℕ) → TakesMoves (length (part_of k name arcs)) (may_take gs ps (length (part_of k name arcs))) (cost_at gs ps (length (part_of k name arcs))) group name (λ w. get_or (part_of k name arcs) w None) (λ w. get_or row w None)
      → TakesMoves k (may_take gs ps k) (cost_at gs ps k) group name (arc_at arcs (k + 1) name) (arc_at (put_row k name arcs row) (k + 1) name)
  part_entered group wide =
      widened_same k (may_take gs ps k) (cost_at gs ps k) group name (λ w. get_or (part_of k name arcs) w None) (λ w. get_or row w None) (arc_at arcs (k + 1) name) (arc_at (put_row k name arcs row) (k + 1) name)
      (λ w w_in. sym (part_is k name arcs name_in size w w_in)) (λ w w_in. row_is k name arcs name_in size row as_many w w_in)
      (subst (λ m. TakesMoves m (may_take gs ps m) (cost_at gs ps m) group name (λ w. get_or (part_of k name arcs) w None) (λ w. get_or row w None)) (part_size k name arcs name_in size) wide)

  pub part_rebuilt : (placed : List ℕ) → IsRow (length gs) (length (part_of k name arcs)) (may_take gs ps (length (part_of k name arcs))) (cost_at gs ps (length (part_of k name arcs))) (λ g. get_or placed (g * length (part_of k name arcs) + name) 0) name (λ w. get_or row w None)
      → IsRow (length gs) k (may_take gs ps k) (cost_at gs ps k) (λ g. get_or placed (g * k + name) 0) name (arc_at (put_row k name arcs row) (k + 1) name)
  part_rebuilt placed are =
      row_stays (length gs) k (may_take gs ps k) (cost_at gs ps k) name (λ g. get_or placed (g * k + name) 0) (λ g. get_or placed (g * k + name) 0) (λ w. get_or row w None) (arc_at (put_row k name arcs row) (k + 1) name)
      (subst (λ m. IsRow (length gs) m (may_take gs ps m) (cost_at gs ps m) (λ g. get_or placed (g * m + name) 0) name (λ w. get_or row w None)) (part_size k name arcs name_in size) are)
      (λ g some. some) (λ g some. some) (λ w w_in. row_is k name arcs name_in size row as_many w w_in)
