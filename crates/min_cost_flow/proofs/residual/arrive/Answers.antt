-- The group's first points enter its moves.
use Rattle.std.proofs.Common.{◌+◌}
use Rattle.min_cost_flow.specs.Problem.{cost_at, may_take, names_of}
use Rattle.min_cost_flow.specs.Flow.{groups_of}
use Rattle.min_cost_flow.proofs.ResidualRows.{row_takes}
use Rattle.min_cost_flow.specs.Network.{arc_at}
use Rattle.min_cost_flow.proofs.residual.arrive.Goals as goal

pub returns-then-before-eq0-clause-row : goal.returns-then-before-eq0-clause-row
returns-then-before-eq0-clause-row c =
    let p = c.args.problem.now in
    λ old now was some changes row.
    row_takes (groups_of p) (names_of p) (may_take p.groups.items p.costs.items (names_of p)) (cost_at p.groups.items p.costs.items (names_of p)) c.args.name old now (arc_at c.args.arcs.now (names_of p + 1) c.args.name)
    (arc_at c.take_moves_from.new.arcs (names_of p + 1) c.args.name) c.args.group c.requires.group row some changes c.take_moves_from.ensures.row
