use Rattle.std.proofs.Common.{string_bytes}
use Rattle.flagops_streams.specs.Told.{forewarning}
use Rattle.flagops_streams.proofs.Told.{made_told}
use Rattle.flagops_streams.proofs.remark.say_forewarned.Goals as goal

pub returns-clause-line : goal.returns-clause-line
returns-clause-line g c = made_told string_bytes c.forewarning.result (forewarning c.args.place c.args.why.now) _ _ _ c.forewarning.ensures c.say_made.ensures.says c.say_made.ensures.none
