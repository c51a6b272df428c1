use Rattle.std.proofs.Common.{length}
use Rattle.rule_switches.proofs.Reading.{Taken}
use Rattle.rule_switches.proofs.page_counting.counted_first.Given as goal

abbrev pub invariant-loop-counting : goal.invariant-loop-counting
invariant-loop-counting l = Taken l.before l.after l.bytes l.rest l.counting

abbrev pub decreases-loop-counting : goal.decreases-loop-counting
decreases-loop-counting l = length l.rest
