-- Points move to a name below its low limit.
use Rattle.std.proofs.Common.{◌∙◌, subst}
use Rattle.min_cost_flow.specs.Problem.{names_of}
use Rattle.min_cost_flow.specs.Found.{potential_of, rank_of}
use Rattle.min_cost_flow.specs.Paths.{IsAugmented}
use Rattle.min_cost_flow.proofs.Reached.{less_deficit, second_pass_after}
use Rattle.min_cost_flow.proofs.meeting.fill_below.Goals as goal

pub returns-clause-second_pass : goal.returns-clause-second_pass
returns-clause-second_pass g c =
    let p = c.args.problem.now in
    let s = c.args.search.now in
    let old = c.args.flow.now in
    let new = c.augment.new.flow in
    let e = c.in_ok-augment.ensures in
    let aug : IsAugmented p old new (potential_of s) (rank_of s) p.low.items (names_of p) c.args.last =
    subst (λ k. IsAugmented p old new (potential_of s) (rank_of s) p.low.items k c.args.last) (c.len.ensures ∙ p.high.ok.0)
    (subst (λ xs. IsAugmented p old new (potential_of s) (rank_of s) xs c.len.result c.args.last) c.as_slice.ensures.value e.augmented) in
    second_pass_after p c.requires.problem old new s c.args.last c.requires.path e.flow e.least aug

pub returns-clause-fewer : goal.returns-clause-fewer
returns-clause-fewer g c =
    let p = c.args.problem.now in
    let s = c.args.search.now in
    let old = c.args.flow.now in
    let new = c.augment.new.flow in
    let e = c.in_ok-augment.ensures in
    let aug : IsAugmented p old new (potential_of s) (rank_of s) p.low.items (names_of p) c.args.last =
    subst (λ k. IsAugmented p old new (potential_of s) (rank_of s) p.low.items k c.args.last) (c.len.ensures ∙ p.high.ok.0)
    (subst (λ xs. IsAugmented p old new (potential_of s) (rank_of s) xs c.len.result c.args.last) c.as_slice.ensures.value e.augmented) in
    less_deficit p c.requires.problem old new s c.args.last c.requires.path e.flow e.least aug
