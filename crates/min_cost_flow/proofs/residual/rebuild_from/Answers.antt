-- The arcs from the name are a part of all arcs.
use Rattle.std.proofs.Common.{◌≡◌, ℕ, ◌+◌, ◌*◌, ◌<◌, length, get_or, sym, ◌∙◌, subst, arith}
use Rattle.min_cost_flow.specs.Problem.{AreSupplies, cost_at, may_take, names_of}
use Rattle.min_cost_flow.specs.Residual.{IsRow}
use Rattle.min_cost_flow.specs.Spans.{ArePlaced, AreSpans}
use Rattle.min_cost_flow.specs.Residual.{ChangesRow, HasArcs}
use Rattle.min_cost_flow.proofs.RowParts.{part_of, part_rebuilt, put_row}
use Rattle.min_cost_flow.proofs.WrittenArcs.{part_size, row_changes}
use Rattle.min_cost_flow.specs.Network.{arc_at}
use Rattle.min_cost_flow.proofs.residual.rebuild_from.Goals as goal

pub rebuild-requires-clause-supplies : goal.rebuild-requires-clause-supplies
rebuild-requires-clause-supplies c =
    let p = c.args.problem.now in
    let arcs = c.args.arcs.now in
    let k_is : c.len-names.result ≡ names_of p = c.len-names.ensures ∙ p.high.ok.0 in
    let name_in : c.args.name < c.len-names.result = omega (arith, k_is, c.requires.arcs.within) in
    let size : HasArcs c.len-names.result arcs = subst (λ n. HasArcs n arcs) (sym k_is) c.requires.arcs.size in
    let all : AreSupplies (names_of p) p.costs.items p.groups.items = record { grouped = c.requires.problem.groups; priced = c.requires.problem.costs } in
    subst (λ n. AreSupplies n c.deref-2.result.now c.deref.result.now) (sym (part_size c.len-names.result c.args.name arcs name_in size ∙ k_is))
    (subst (λ x. AreSupplies (names_of p) x c.deref.result.now) (sym c.deref-2.ensures.value) (subst (λ x. AreSupplies (names_of p) p.costs.items x) (sym c.deref.ensures.value) all))

pub rebuild-requires-clause-placed : goal.rebuild-requires-clause-placed
rebuild-requires-clause-placed c =
    let p = c.args.problem.now in
    let name = c.args.name in
    let placed = c.args.placed.now in
    let arcs = c.args.arcs.now in
    let spans = c.args.spans.now in
    let k : ℕ = c.len-names.result in
    let k_is : k ≡ names_of p = c.len-names.ensures ∙ p.high.ok.0 in
    let name_in : name < k = omega (arith, k_is, c.requires.arcs.within) in
    let size : HasArcs k arcs = subst (λ n. HasArcs n arcs) (sym k_is) c.requires.arcs.size in
    subst (λ n. ArePlaced c.deref.result.now c.deref-2.result.now n placed spans name) (sym (part_size k name arcs name_in size ∙ k_is))
    (subst (λ x. ArePlaced x c.deref-2.result.now (names_of p) placed spans name) (sym c.deref.ensures.value)
    (subst (λ x. ArePlaced p.groups.items x (names_of p) placed spans name) (sym c.deref-2.ensures.value) c.requires.placed))

pub returns-clause-spans : goal.returns-clause-spans
returns-clause-spans c =
    let p = c.args.problem.now in
    let name = c.args.name in
    let placed = c.args.placed.now in
    let arcs = c.args.arcs.now in
    let spans = c.rebuild.new.spans in
    let k : ℕ = c.len-names.result in
    let k_is : k ≡ names_of p = c.len-names.ensures ∙ p.high.ok.0 in
    let name_in : name < k = omega (arith, k_is, c.requires.arcs.within) in
    let size : HasArcs k arcs = subst (λ n. HasArcs n arcs) (sym k_is) c.requires.arcs.size in
    subst (λ n. AreSpans p.groups.items n placed spans) (part_size k name arcs name_in size ∙ k_is)
    (subst (λ x. AreSpans x (length (part_of k name arcs)) placed spans) c.deref.ensures.value c.rebuild.ensures.spans)

pub returns-clause-row : goal.returns-clause-row
returns-clause-row c =
    let p = c.args.problem.now in
    let name = c.args.name in
    let placed = c.args.placed.now in
    let arcs = c.args.arcs.now in
    let row = c.rebuild.new.row in
    let k : ℕ = c.len-names.result in
    let k_is : k ≡ names_of p = c.len-names.ensures ∙ p.high.ok.0 in
    let gs = c.deref.result.now in
    let ps = c.deref-2.result.now in
    let name_in : name < k = omega (arith, k_is, c.requires.arcs.within) in
    let size : HasArcs k arcs = subst (λ n. HasArcs n arcs) (sym k_is) c.requires.arcs.size in
    subst (λ n. IsRow (length p.groups.items) n (may_take p.groups.items p.costs.items n) (cost_at p.groups.items p.costs.items n) (λ g. get_or placed (g * n + name) 0) name (arc_at (put_row k name arcs row) (n + 1) name)) k_is
    (subst (λ x. IsRow (length p.groups.items) k (may_take p.groups.items x k) (cost_at p.groups.items x k) (λ g. get_or placed (g * k + name) 0) name (arc_at (put_row k name arcs row) (k + 1) name)) c.deref-2.ensures.value
    (subst (λ x. IsRow (length x) k (may_take x ps k) (cost_at x ps k) (λ g. get_or placed (g * k + name) 0) name (arc_at (put_row k name arcs row) (k + 1) name)) c.deref.ensures.value
    (part_rebuilt k name arcs row name_in size c.rebuild.auto.row gs ps placed c.rebuild.ensures.row)))

pub returns-clause-others : goal.returns-clause-others
returns-clause-others c =
    let p = c.args.problem.now in
    let name = c.args.name in
    let arcs = c.args.arcs.now in
    let row = c.rebuild.new.row in
    let k : ℕ = c.len-names.result in
    let k_is : k ≡ names_of p = c.len-names.ensures ∙ p.high.ok.0 in
    let name_in : name < k = omega (arith, k_is, c.requires.arcs.within) in
    let size : HasArcs k arcs = subst (λ n. HasArcs n arcs) (sym k_is) c.requires.arcs.size in
    subst (λ n. ChangesRow n name arcs (put_row k name arcs row)) k_is (row_changes k name arcs name_in size row (c.rebuild.auto.row ∙ part_size k name arcs name_in size))
