use Rattle.log_file.proofs.LastLine.{last_line, no_line}
use Rattle.log_file.proofs.whole.whole_lines.Goals as goal

pub returns-in-Some : goal.returns-in-Some
returns-in-Some c = last_line c.args.bytes.now c.in-Some.place c.in-Some.ensures

pub returns-in-None : goal.returns-in-None
returns-in-None c = no_line c.args.bytes.now c.in-None.ensures
