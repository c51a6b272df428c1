-- Each turn of the loop narrows one span, and its ends enter the arcs.
use Rattle.std.proofs.Common.{◌≡◌, ℕ, ◌+◌, ◌*◌, ◌<◌, None, Option, length, get_or, set, refl, sym, subst, arith}
use Rattle.std.proofs.lemmas.Int.{ints}
use Rattle.min_cost_flow.specs.Problem.{cost_at, group_at, may_take, switch_cost_at}
use Rattle.min_cost_flow.specs.Spans.{AreSpans}
use Rattle.min_cost_flow.proofs.Cells.{cell_in}
use Rattle.min_cost_flow.proofs.CheapestArcs.{cheapest, no_moves}
use Rattle.min_cost_flow.proofs.VariantTurns.{IsTurn, RowBelow, row_after, spans_after}
use Rattle.min_cost_flow.specs.declared.arc.Arc.{Arc}
use Rattle.min_cost_flow.proofs.residual.take_moves_of_groups.Goals as goal

pub loop-variant-init : goal.loop-variant-init
loop-variant-init c =
    let n : ℕ = length c.args.row.now in
    let groups = c.args.groups.now in
    let costs = c.args.costs.now in (
      record {
        moves = no_moves (length groups) n (may_take groups costs n) (cost_at groups costs n) (λ g. get_or c.args.placed.now (g * n + c.args.name) 0) c.args.name (λ w. get_or c.args.row.now w None) c.requires.none;
        firsts = λ g g_in below some. absurd (omega (arith, below));
        lasts = λ g g_in below some. absurd (omega (arith, below));
      },
      c.requires.placed.spans,
    )

pub loop-variant-preserved : goal.loop-variant-preserved
loop-variant-preserved c =
    let n : ℕ = length c.args.row.now in
    let groups = c.args.groups.now in
    let costs = c.args.costs.now in
    let placed = c.args.placed.now in
    let v = c.args.name in
    let a = c.loop-variant.variant in
    let row = c.loop-variant.row in
    let row' = c.take_moves_of_ends.new.row in
    let spans = c.loop-variant.spans in
    let span = c.narrowed-span.result in
    let many : length row ≡ n = c.loop-variant.auto.row in
    let turn : IsTurn groups costs placed n v a spans span row row' =
    subst (λ k. IsTurn groups costs placed k v a spans span row row') many
    (record {
      narrows = c.narrowed-span.ensures;
      some = c.take_moves_of_ends.ensures.some;
      none = c.take_moves_of_ends.ensures.none;
    }) in
    subst (λ k. RowBelow groups costs placed n v (a + 1) row' × AreSpans groups n placed (set spans (v * k + a) span)) (sym many) (
      row_after groups costs placed n v a spans span row row' c.requires.name c.loop-variant-test.true c.requires.supplies.grouped c.loop-variant.invariant.1 turn c.loop-variant.invariant.0,
      spans_after groups costs placed n v a spans span row row' c.requires.name c.loop-variant-test.true c.requires.supplies.grouped c.loop-variant.invariant.1 turn,
    )

pub returns-clause-row : goal.returns-clause-row
returns-clause-row c =
    let n : ℕ = length c.args.row.now in
    let groups = c.args.groups.now in
    let costs = c.args.costs.now in
    let placed = c.args.placed.now in
    let v = c.args.name in
    let variant : ℕ → ℕ = λ g. (group_at groups g).variant in
    let row = c.loop-variant.row in
    let done = c.loop-variant.invariant.0 in
    let arc : ℕ → Option Arc = λ w. get_or row w None in
    let below : (g : ℕ) → g < length groups → variant g < c.loop-variant.variant = λ g g_in. omega (arith, c.requires.supplies.grouped.variant g g_in, c.loop-variant-test.false) in
    cheapest (length groups) n variant (λ g. (group_at groups g).count) (switch_cost_at costs n) (may_take groups costs n) (cost_at groups costs n) (λ g. get_or placed (g * n + v) 0) v c.requires.name arc arc (λ g w. refl) (λ g w. refl)
    (λ g w z g_in w_in is. c.requires.supplies.priced.each (variant g * n + w) z (cell_in n n (variant g) w (c.requires.supplies.grouped.variant g g_in) w_in) is)
    c.requires.placed.free done.moves (λ g g_in some. done.firsts g g_in (below g g_in) some) (λ w known w_in was. (known, was, omega (arith, ints))) (λ g g_in some. done.lasts g g_in (below g g_in) some)
