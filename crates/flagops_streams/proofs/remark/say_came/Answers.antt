use Rattle.std.proofs.Common.{string_bytes}
use Rattle.flagops_streams.specs.Told.{came_line}
use Rattle.flagops_streams.proofs.Told.{made_told}
use Rattle.flagops_streams.proofs.remark.say_came.Goals as goal

pub returns-clause-line : goal.returns-clause-line
returns-clause-line g c = made_told string_bytes c.came_line.result (came_line c.args.number c.args.subscribers) _ _ _ c.came_line.ensures c.say_made.ensures.says c.say_made.ensures.none
