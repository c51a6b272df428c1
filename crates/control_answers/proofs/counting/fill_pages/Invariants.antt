use Rattle.control_answers.specs.SiteCounts.{Fills}
use Rattle.control_answers.proofs.counting.fill_pages.Given as goal

-- the pages so far have numbers
abbrev pub invariant-loop-page : goal.invariant-loop-page
invariant-loop-page l = Fills l.fn.counts.entries l.yielded l.counts.entries
