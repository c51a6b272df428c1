use Rattle.std.proofs.Common.{Result}
use Rattle.std.specs.Vec.Iter.{into_iter_items}
use Rattle.note_tallies.specs.Tally.{PageTally}
use Rattle.note_tallies.specs.declared.joining.JoinFault.{JoinFault}
use Rattle.note_tallies.specs.Joined.{JoinsAll}
use Rattle.note_tallies.proofs.filter_join.join_all.Given as goal

abbrev pub invariant-loop-next : goal.invariant-loop-next
invariant-loop-next l = (r : Result PageTally JoinFault) → JoinsAll l.all (into_iter_items l.next-iterator) r → JoinsAll l.fn.first l.fn.others.items r
