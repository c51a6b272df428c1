use Rattle.note_tallies.proofs.Summed.{IsPart}
use Rattle.note_tallies.proofs.joining.add_counts.Given as goal

abbrev pub invariant-loop-at : goal.invariant-loop-at
invariant-loop-at l = IsPart l.fn.counts.items l.fn.more l.counts.items l.at
