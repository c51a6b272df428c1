use Rattle.std.proofs.Common.{◌≡◌}
use Rattle.flagops_streams.specs.Told.{nobody_line}
use Rattle.flagops_streams.proofs.Reasons.{lines_told}
use Rattle.flagops_streams.proofs.remark.say_unreachable.Goals as goal

pub returns : goal.returns
returns g c = lines_told (λ text. text ≡ nobody_line c.args.port) c.nobody_line.result _ _ _ c.nobody_line.ensures c.say_lines.ensures.says c.say_lines.ensures.sentence
