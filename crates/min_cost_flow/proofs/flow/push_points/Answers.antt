-- The points moved, and the arcs of both names are brought up to date.
use Rattle.std.proofs.Common.{◌≡◌, ℕ, ◌+◌, ◌*◌, ◌<◌, get_or, sym, ap, ◌∙◌, subst, arith}
use Rattle.min_cost_flow.specs.Problem.{names_of}
use Rattle.min_cost_flow.specs.Spans.{Joins}
use Rattle.min_cost_flow.proofs.Spans.{came}
use Rattle.min_cost_flow.specs.Flow.{IsMoved, cell_at}
use Rattle.min_cost_flow.specs.Residual.{HasRow, ChangesGroup}
use Rattle.min_cost_flow.proofs.AfterMove.{residual_after}
use Rattle.min_cost_flow.proofs.MovedPoints.{arrived, cell_small, cell_stays, columns_after, free_after, pushed as all_pushed, spent_after, sum_enough, sum_small}
use Rattle.min_cost_flow.proofs.flow.push_points.Goals as goal

pub move_points-requires-clause-small : goal.move_points-requires-clause-small
move_points-requires-clause-small c =
    let p = c.args.problem.now in
    let k_is : c.len-names.result ≡ names_of p = c.len-names.ensures ∙ p.high.ok.0 in
    let r = c.requires in
    omega (arith, cell_small p r.problem c.args.placed.now c.args.totals.now c.args.arcs.now r.flow.tables c.args.group c.args.from c.args.to c.args.points r.points, ap (λ n. get_or c.args.placed.now (c.args.group * n + c.args.to) 0) k_is)

pub move_points-requires-2-clause-points : goal.move_points-requires-2-clause-points
move_points-requires-2-clause-points c =
    let r = c.requires in
    sum_enough c.args.problem.now r.problem c.args.placed.now c.args.totals.now c.args.arcs.now r.flow.tables c.args.group c.args.from c.args.to c.args.points r.points

pub move_points-requires-2-clause-small : goal.move_points-requires-2-clause-small
move_points-requires-2-clause-small c =
    let r = c.requires in
    sum_small c.args.problem.now r.problem c.args.placed.now c.args.totals.now c.args.arcs.now r.flow.tables c.args.group c.args.from c.args.to c.args.points r.points

pub leave-requires-clause-placed : goal.leave-requires-clause-placed
leave-requires-clause-placed c =
    let p = c.args.problem.now in
    let r = c.requires in
    let flow = r.flow.tables in
    let group = c.args.group in
    let from = c.args.from in
    let to = c.args.to in
    let points = c.args.points in
    let old = c.args.placed.now in
    let sums = c.args.totals.now in
    let new = c.move_points.new.cells in
    let sums' = c.move_points-2.new.cells in
    let spans = c.args.spans.now in
    let spans' = c.widen.new.spans in
    let k_is : c.len-names.result ≡ names_of p = c.len-names.ensures ∙ p.high.ok.0 in
    let moved = subst (λ n. IsMoved old new (group * n + from) (group * n + to) points) k_is c.move_points.ensures in
    let joins : Joins p.groups.items (names_of p) group to spans spans' = subst (λ n. Joins p.groups.items n group to spans spans') k_is (subst (λ x. Joins x c.len-names.result group to spans spans') c.deref.ensures.value c.widen.ensures) in
    record {
      size = c.move_points.auto.cells ∙ flow.placed;
      free = λ g g_in some. free_after p r.problem old sums c.args.arcs.now flow group from to points r.points new sums' moved c.move_points-2.ensures g from g_in r.points.from_in some;
      spans = came p.groups.items (names_of p) old new spans spans' group to r.flow.spans joins r.problem.groups.variant
          (λ g w g_in w_in some. arrived p r.problem old sums c.args.arcs.now flow group from to points r.points new sums' moved c.move_points-2.ensures g w w_in some);
    }

pub returns-clause-pushed : goal.returns-clause-pushed
returns-clause-pushed c =
    let p = c.args.problem.now in
    let r = c.requires in
    let group = c.args.group in
    let from = c.args.from in
    let to = c.args.to in
    let points = c.args.points in
    let old = c.args.placed.now in
    let new = c.move_points.new.cells in
    let k_is : c.len-names.result ≡ names_of p = c.len-names.ensures ∙ p.high.ok.0 in
    let moved = subst (λ n. IsMoved old new (group * n + from) (group * n + to) points) k_is c.move_points.ensures in
    all_pushed p r.problem old c.args.totals.now c.args.arcs.now r.flow.tables group from to points r.points new c.move_points-2.new.cells moved c.move_points-2.ensures

pub returns-clause-flow : goal.returns-clause-flow
returns-clause-flow c =
    let p = c.args.problem.now in
    let r = c.requires in
    let flow = r.flow.tables in
    let group = c.args.group in
    let from = c.args.from in
    let to = c.args.to in
    let points = c.args.points in
    let old = c.args.placed.now in
    let sums = c.args.totals.now in
    let cells = c.args.arcs.now in
    let new = c.move_points.new.cells in
    let sums' = c.move_points-2.new.cells in
    let k_is : c.len-names.result ≡ names_of p = c.len-names.ensures ∙ p.high.ok.0 in
    let moved = subst (λ n. IsMoved old new (group * n + from) (group * n + to) points) k_is c.move_points.ensures in
    let sums_moved = c.move_points-2.ensures in
    let arrive : (old_here now : ℕ → ℕ) → old_here group ≡ cell_at old (names_of p) group to → 0 < now group → ChangesGroup group old_here now → HasRow p old_here to c.leave.new.arcs → HasRow p now to c.arrive.new.arcs =
    λ old_here now was some changes row. c.arrive.ensures.row old_here now (was ∙ ap (λ n. get_or old (group * n + to) 0) (sym k_is)) some changes row in
    record {
      tables = record {
        placed = c.move_points.auto.cells ∙ flow.placed;
        totals = c.move_points-2.auto.cells ∙ flow.totals;
        arcs = c.rebuild_root_arcs-2.auto.arcs ∙ (c.rebuild_root_arcs.auto.arcs ∙ (c.arrive.auto.arcs ∙ (c.leave.auto.arcs ∙ flow.arcs)));
        spent = spent_after p r.problem old sums cells flow group from to points r.points new sums' moved sums_moved;
        columns = columns_after p r.problem old sums cells flow group from to points r.points new sums' moved sums_moved;
        free = free_after p r.problem old sums cells flow group from to points r.points new sums' moved sums_moved;
        residual = residual_after p old sums new sums' cells c.leave.new.arcs c.arrive.new.arcs c.rebuild_root_arcs.new.arcs c.rebuild_root_arcs-2.new.arcs flow.residual group from to r.points.from_in r.points.to_in r.points.apart
            (omega (arith, r.points.some, r.points.enough)) (omega (arith, moved.entered, r.points.some))
            (cell_stays p r.problem old sums cells flow group from to points r.points new sums' moved sums_moved)
            sums_moved.others c.leave.ensures.arcs.row c.leave.ensures.arcs.others arrive c.arrive.ensures.others c.rebuild_root_arcs.ensures.root c.rebuild_root_arcs.ensures.others c.rebuild_root_arcs-2.ensures.root c.rebuild_root_arcs-2.ensures.others;
      };
      spans = c.leave.ensures.spans;
    }
