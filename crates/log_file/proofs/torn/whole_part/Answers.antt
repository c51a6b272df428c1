use Rattle.log_file.proofs.Pieces.{begins}
use Rattle.log_file.proofs.torn.whole_part.Goals as goal

pub loop-end-init : goal.loop-end-init
loop-end-init g c = (c.requires.some, begins c.args.len (g.F.LogFile.bytes c.args.file.now) c.requires.length)
