-- Each turn makes the arcs of one more name.
use Rattle.std.proofs.Common.{◌≡◌, ◌∙◌, arith}
use Rattle.min_cost_flow.specs.Problem.{names_of}
use Rattle.min_cost_flow.proofs.BegunArcs.{one_more}
use Rattle.min_cost_flow.proofs.initial.begin_arcs.Goals as goal

pub loop-name-preserved : goal.loop-name-preserved
loop-name-preserved c =
    let p = c.args.problem.now in
    let k_is : c.len-name-end.result ≡ names_of p = c.len-name-end.ensures ∙ p.high.ok.0 in (
      one_more p c.args.placed.now c.args.totals.now c.loop-name.name c.loop-name.arcs c.rebuild_from.new.arcs c.rebuild_root_arcs.new.arcs (omega (arith, k_is, c.loop-name-test.true)) c.loop-name.invariant.0 c.rebuild_from.ensures.row c.rebuild_from.ensures.others
          c.rebuild_root_arcs.ensures.root c.rebuild_root_arcs.ensures.others,
      c.rebuild_from.ensures.spans,
    )

pub returns-clause-arcs : goal.returns-clause-arcs
returns-clause-arcs c =
    let p = c.args.problem.now in
    let k_is : c.len-name-end.result ≡ names_of p = c.len-name-end.ensures ∙ p.high.ok.0 in
    let done = c.loop-name.invariant.0 in
    record {
      rows = λ v v_in. done.rows v (omega (arith, k_is, v_in, c.loop-name-test.false)) v_in;
      root = λ v v_in. done.root v (omega (arith, k_is, v_in, c.loop-name-test.false)) v_in;
      none = done.none;
    }
