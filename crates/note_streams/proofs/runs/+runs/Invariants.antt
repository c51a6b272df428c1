use Rattle.note_streams.proofs.runs.+runs.Given as goal

abbrev pub decreases-there : goal.decreases-there
decreases-there g l = l.half

abbrev pub decreases-here : goal.decreases-here
decreases-here g l = l.others

abbrev pub decreases-record_runs : goal.decreases-record_runs
decreases-record_runs g l = l.workers
