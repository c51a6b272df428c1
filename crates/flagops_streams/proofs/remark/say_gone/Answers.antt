use Rattle.std.proofs.Common.{string_bytes}
use Rattle.flagops_streams.specs.Told.{gone_line}
use Rattle.flagops_streams.proofs.Told.{made_told}
use Rattle.flagops_streams.proofs.remark.say_gone.Goals as goal

pub returns-clause-line : goal.returns-clause-line
returns-clause-line g c = made_told string_bytes c.gone_line.result (gone_line c.args.number c.args.gone.frames c.args.gone.end) _ _ _ c.gone_line.ensures c.say_made.ensures.says c.say_made.ensures.none
