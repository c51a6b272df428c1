use Rattle.std.proofs.Common.{◌≡◌}
use Rattle.flagops_streams.specs.Why.{why_lines}
use Rattle.flagops_streams.proofs.Reasons.{lines_told, some_told}
use Rattle.flagops_streams.proofs.remark.say_refused.Goals as goal

pub returns-clause-why : goal.returns-clause-why
returns-clause-why g c = lines_told (λ text. text ≡ why_lines c.args.refusal) c.lines_of.result _ _ _ c.lines_of.ensures c.say_lines.ensures.says c.say_lines.ensures.sentence

pub returns-clause-told : goal.returns-clause-told
returns-clause-told g c = some_told c.args.refusal _ _ _ (returns-clause-why g c)
