use Rattle.std.proofs.Common.{ap}
use Rattle.std.proofs.lemmas.Result.{err_from_is_err_and}
use Rattle.bucket_core.specs.Reading.{rule_of_entries}
use Rattle.bucket_core.specs.Rule.{refinement, entries_view}
use Rattle.rollout.proofs.Refines.{refinement_refused}
use Rattle.rollout.proofs.problem.refined.Goals as goal

pub returns-in_err-refine : goal.returns-in_err-refine
returns-in_err-refine c =
    let entries = entries_view c.args.entries.items in
    let p = err_from_is_err_and c.from_residual-in_err-refine.result c.from_residual-in_err-refine.ensures.1 in
    let is = ap (λ r. rule_of_entries (refinement c.args.factor r)) c.in_ok-rule.ensures.ok in
    rw (p.1, p.2) (λ other. absurd (refinement_refused c.args.factor entries c.in_err-refine.field-0.0 _ is c.requires.some c.requires.positive c.requires.small c.in_err-refine.ensures.exact other))
