use Rattle.snap_core.proofs.Remembered.{gives_histories, gives_nothing_twice}
use Rattle.snap_core.proofs.laws.a_subscriber_takes_a_history.Goals as goal

pub returns-clause-histories : goal.returns-clause-histories
returns-clause-histories c = gives_histories

pub returns-clause-nothing_twice : goal.returns-clause-nothing_twice
returns-clause-nothing_twice c = gives_nothing_twice
