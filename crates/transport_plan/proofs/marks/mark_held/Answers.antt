-- A group that stands inside marks its old name.
use Rattle.std.proofs.Common.{◌≡◌, true, set, ap, ◌∙◌, rules}
use Rattle.std.proofs.lemmas.List.{get_or_default}
use Rattle.min_cost_flow.specs.Problem.{group_at, names_of, no_group}
use Rattle.min_cost_flow.specs.declared.problem.Group.{Group}
use Rattle.min_cost_flow.specs.Found.{rank_of}
use Rattle.transport_plan.proofs.Holding.{holds_no, holds_yes}
use Rattle.transport_plan.proofs.marks.mark_held.Goals as goal
use Rattle.transport_plan.proofs.marks.mark_held.Goals.{then-stands_inside, else-stands_inside}

pub loop-group-preserved : goal.loop-group-preserved
loop-group-preserved c =
    let p = c.args.problem.now in
    let f = c.args.flow.now in
    let s = c.args.search.now in
    let k = names_of p in
    let i = c.loop-group.group in
    let x = (group_at p.groups.items i).variant in
    let before = c.loop-group.invariant in
    elim c.if-stands_inside.branch [
      | then-stands_inside w ↦
          let v = w.if-stands_inside.ensures in
          let here : w.index.result.now ≡ group_at p.groups.items i = w.index.ensures ∙ get_or_default p.groups.items i w.index.result.now no_group (search rules) in
          holds_yes k p.groups.items p.costs.items f.placed.items (rank_of s) c.loop-group.marks c.if-stands_inside.marks i before v.0 (w.marks-is ∙ ap (λ (g : Group). set c.loop-group.marks g.variant true) here) (c.requires.lawful.groups.variant i (search rules)) v.1 v.2 v.3 (λ x x_in may. c.requires.stuck.closed i v.0 x (search rules) v.1 x_in v.2 v.3 may)
      | else-stands_inside w ↦ holds_no k p.groups.items p.costs.items f.placed.items (rank_of s) c.loop-group.marks c.if-stands_inside.marks i before w.marks-is w.if-stands_inside.ensures
    ]
