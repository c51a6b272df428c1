use Rattle.note_tallies.proofs.Tallying.{of_one_kind}
use Rattle.note_tallies.proofs.laws.tallied_lines_are_of_one_kind.Goals as goal

pub returns : goal.returns
returns c = of_one_kind
