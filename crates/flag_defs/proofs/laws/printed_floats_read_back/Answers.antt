use Rattle.flag_defs.proofs.Marking.{documents_are_marked}
use Rattle.flag_defs.proofs.SpellingRead.{printed_reads_back}
use Rattle.flag_defs.proofs.laws.printed_floats_read_back.Goals as goal

pub returns-clause-marked : goal.returns-clause-marked
returns-clause-marked c = documents_are_marked

pub returns-clause-back : goal.returns-clause-back
returns-clause-back c = printed_reads_back
