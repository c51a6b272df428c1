use Rattle.flag_defs.proofs.Meanings.{one_meaning}
use Rattle.flag_defs.proofs.laws.a_document_has_one_meaning.Goals as goal

pub returns : goal.returns
returns c = one_meaning
