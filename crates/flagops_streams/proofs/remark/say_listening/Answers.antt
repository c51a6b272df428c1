use Rattle.std.proofs.Common.{string_bytes}
use Rattle.flagops_streams.specs.Told.{listening_line}
use Rattle.flagops_streams.proofs.Told.{made_told}
use Rattle.flagops_streams.proofs.remark.say_listening.Goals as goal

pub returns-clause-line : goal.returns-clause-line
returns-clause-line g c = made_told string_bytes c.listening_line.result (listening_line c.args.port c.args.subscribers) _ _ _ c.listening_line.ensures c.say_made.ensures.says c.say_made.ensures.none
