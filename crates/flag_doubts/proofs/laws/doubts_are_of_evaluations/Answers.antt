use Rattle.flag_doubts.proofs.Faulting.{faulting, null_given}
use Rattle.flag_doubts.proofs.Matches.{each_value, never_matches}
use Rattle.flag_doubts.proofs.laws.doubts_are_of_evaluations.Goals as goal

pub returns-clause-values : goal.returns-clause-values
returns-clause-values c = each_value

pub returns-clause-matches : goal.returns-clause-matches
returns-clause-matches c = never_matches

pub returns-clause-faults : goal.returns-clause-faults
returns-clause-faults c = faulting

pub returns-clause-nulls : goal.returns-clause-nulls
returns-clause-nulls c = null_given
