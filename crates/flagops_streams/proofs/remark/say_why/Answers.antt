use Rattle.std.proofs.Common.{map}
use Rattle.flagops_streams.specs.Why.{IsWhy}
use Rattle.flagops_streams.proofs.Reasons.{lines_told}
use Rattle.flagops_streams.proofs.remark.say_why.Goals as goal

pub returns-clause-told : goal.returns-clause-told
returns-clause-told g c =
    lines_told (IsWhy (map (λ p. p.now) c.args.paths.now) c.args.refusal) c.lines_by.result _ _ _ c.lines_by.ensures c.say_lines.ensures.says c.say_lines.ensures.sentence
