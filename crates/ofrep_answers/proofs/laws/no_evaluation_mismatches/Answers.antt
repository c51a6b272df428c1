use Rattle.ofrep_answers.proofs.Matching.{never_mismatches}
use Rattle.ofrep_answers.proofs.laws.no_evaluation_mismatches.Goals as goal

pub returns : goal.returns
returns c = record { kind = never_mismatches }
