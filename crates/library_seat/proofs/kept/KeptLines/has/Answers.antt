use Rattle.std.proofs.Common.{◌∙◌}
use Rattle.library_seat.proofs.LinesKept.{any_seen}
use Rattle.library_seat.proofs.kept.KeptLines.has.Goals as goal

pub returns : goal.returns
returns c = c.contains.ensures ∙ any_seen c.args.line.now c.args.self.now.lines.keys
