use Rattle.flagops_drive.proofs.Unmarked.{answers_stay, asks_stay, driven_so, nothing_spelled}
use Rattle.flagops_drive.proofs.laws.floats_change_nothing.Goals as goal

pub returns-clause-asked : goal.returns-clause-asked
returns-clause-asked c = asks_stay

pub returns-clause-answers : goal.returns-clause-answers
returns-clause-answers c = answers_stay

pub returns-clause-plain : goal.returns-clause-plain
returns-clause-plain c = nothing_spelled

pub returns-clause-same : goal.returns-clause-same
returns-clause-same c = λ flags marks others asks workers before json r one other. driven_so flags marks others one other asks workers before json r
