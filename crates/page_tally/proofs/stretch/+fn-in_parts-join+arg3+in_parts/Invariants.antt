use Rattle.page_tally.proofs.stretch.+fn-in_parts-join+arg3+in_parts.Given as goal

abbrev pub decreases-join+arg3 : goal.decreases-join+arg3
decreases-join+arg3 g l = l.parts

abbrev pub decreases-in_parts : goal.decreases-in_parts
decreases-in_parts g l = l.parts
