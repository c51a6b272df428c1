-- Two cells are written.
use Rattle.std.proofs.Common.{◌≡◌, ℕ, ◌+◌, ◌<◌, get_or, sym, ◌∙◌, subst, arith}
use Rattle.std.proofs.lemmas.List.{get_or_default}
use Rattle.min_cost_flow.specs.Problem.{names_of}
use Rattle.min_cost_flow.specs.Residual.{ChangesRootArcs, HasArcs, IsRootArc}
use Rattle.min_cost_flow.proofs.WrittenArcs.{from_is, root_arcs_change, root_arcs_set, to_is}
use Rattle.min_cost_flow.specs.Network.{arc_at}
use Rattle.min_cost_flow.proofs.residual.rebuild_root_arcs.Goals as goal

pub returns-clause-root : goal.returns-clause-root
returns-clause-root c =
    let p = c.args.problem.now in
    let name = c.args.name in
    let arcs = c.args.arcs.now in
    let total : ℕ = get_or c.args.totals.now name 0 in
    let k : ℕ = c.len-names.result in
    let k_is : k ≡ names_of p = c.len-names.ensures ∙ p.high.ok.0 in
    let name_in : name < k = omega (arith, k_is, c.requires.arcs.within) in
    let size : HasArcs k arcs = subst (λ n. HasArcs n arcs) (sym k_is) c.requires.arcs.size in
    let to = c.root_arc.result in
    let from = c.root_arc-2.result in
    let new = root_arcs_set k name arcs name_in size to from in
    let high_is : c.index.result.now ≡ get_or p.high.items name 0 = c.index.ensures ∙ get_or_default p.high.items name c.index.result.now 0 c.requires.arcs.within in
    let low_is : c.index-2.result.now ≡ get_or p.low.items name 0 = c.index-2.ensures ∙ get_or_default p.low.items name c.index-2.result.now 0 (omega (arith, c.requires.problem.lows, c.requires.arcs.within)) in
    let room : IsRootArc total (get_or p.high.items name 0) to = subst (λ x. IsRootArc total x to) high_is c.root_arc.ensures in
    let spare : IsRootArc (get_or p.low.items name 0) total from = subst (λ x. IsRootArc x total from) low_is c.root_arc-2.ensures in
    record {
      room = subst (λ n. IsRootArc total (get_or p.high.items name 0) (arc_at new (n + 1) name n)) k_is (subst (λ x. IsRootArc total (get_or p.high.items name 0) x) (sym (to_is k name arcs name_in size to from)) room);
      spare = subst (λ n. IsRootArc (get_or p.low.items name 0) total (arc_at new (n + 1) n name)) k_is (subst (λ x. IsRootArc (get_or p.low.items name 0) total x) (sym (from_is k name arcs name_in size to from)) spare);
    }

pub returns-clause-others : goal.returns-clause-others
returns-clause-others c =
    let p = c.args.problem.now in
    let name = c.args.name in
    let arcs = c.args.arcs.now in
    let k : ℕ = c.len-names.result in
    let k_is : k ≡ names_of p = c.len-names.ensures ∙ p.high.ok.0 in
    let name_in : name < k = omega (arith, k_is, c.requires.arcs.within) in
    let size : HasArcs k arcs = subst (λ n. HasArcs n arcs) (sym k_is) c.requires.arcs.size in
    let to = c.root_arc.result in
    let from = c.root_arc-2.result in
    subst (λ n. ChangesRootArcs n name arcs (root_arcs_set k name arcs name_in size to from)) k_is (root_arcs_change k name arcs name_in size to from)
