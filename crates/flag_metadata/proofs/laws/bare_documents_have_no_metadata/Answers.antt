use Rattle.flag_metadata.proofs.Bare.{no_metadata}
use Rattle.flag_metadata.proofs.laws.bare_documents_have_no_metadata.Goals as goal

pub returns : goal.returns
returns c = no_metadata
