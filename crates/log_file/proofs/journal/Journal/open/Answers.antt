use Rattle.log_file.specs.Handed.{handed_in}
use Rattle.log_file.proofs.Handing.{ends_none}
use Rattle.log_file.proofs.journal.Journal.open.Goals as goal

pub invariant_of-result-clause-is_handed : goal.invariant_of-result-clause-is_handed
invariant_of-result-clause-is_handed g c is = ends_none (g.F.LogFile.bytes c.left_lines.new.file) (handed_in c.none.result.writes.items) c.none.ensures
