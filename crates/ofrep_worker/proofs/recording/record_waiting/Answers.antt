use Rattle.ofrep_worker.proofs.Recorded.{handed_over}
use Rattle.ofrep_worker.proofs.recording.record_waiting.Goals as goal

pub returns-clause-handed : goal.returns-clause-handed
returns-clause-handed g c =
    handed_over c.record.result c.args.log.now c.record.new.self (g.F.LogFile.bytes c.args.log.now.journal.journal.file) (g.F.LogFile.bytes c.record.new.self.journal.journal.file) c.record.ensures.records c.record.ensures.err
