use Rattle.ofrep_worker.specs.Answers.{kept_of}
use Rattle.ofrep_worker.proofs.Recorded.{all_recorded}
use Rattle.ofrep_worker.proofs.recording.record_first.Goals as goal

pub returns-clause-records : goal.returns-clause-records
returns-clause-records g c =
    all_recorded c.record.result c.args.notes.now (kept_of c.args.log.now) (kept_of c.record.new.self) c.record.ensures.records c.record.ensures.stands c.record.ensures.refused
