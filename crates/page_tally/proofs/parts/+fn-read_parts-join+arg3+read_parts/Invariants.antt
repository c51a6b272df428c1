use Rattle.page_tally.proofs.parts.+fn-read_parts-join+arg3+read_parts.Given as goal

abbrev pub decreases-join+arg3 : goal.decreases-join+arg3
decreases-join+arg3 g l = l.others

abbrev pub decreases-read_parts : goal.decreases-read_parts
decreases-read_parts g l = l.parts
