use Rattle.std.proofs.Common.{string_bytes}
use Rattle.flagops_streams.specs.Told.{late_line}
use Rattle.flagops_streams.proofs.Told.{made_told}
use Rattle.flagops_streams.proofs.remark.say_late.Goals as goal

pub returns : goal.returns
returns g c = made_told string_bytes c.late_line.result (late_line c.args.wait) _ _ _ c.late_line.ensures c.say_made.ensures.says c.say_made.ensures.none
