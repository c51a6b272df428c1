use Rattle.std.proofs.Common.{length}
use Rattle.flagops_files.proofs.Counted.{GoesOn}
use Rattle.flagops_files.proofs.counting.lost_on.Given as goal

abbrev pub invariant-pages : goal.invariant-pages
invariant-pages l = GoesOn l.new l.lines l.lost l.rest

abbrev pub decreases-pages : goal.decreases-pages
decreases-pages l = length l.rest
