use Rattle.spelled_numbers.proofs.Readings.{nothing_changes}
use Rattle.spelled_numbers.proofs.laws.floats_change_nothing.Goals as goal

pub returns : goal.returns
returns c = λ bytes limit j e h. nothing_changes bytes limit j e h
