use Rattle.ofrep_answers.proofs.Bare.{metadata_changes_nothing}
use Rattle.ofrep_answers.proofs.laws.metadata_changes_nothing.Goals as goal

pub returns : goal.returns
returns c = metadata_changes_nothing c.bare_documents_have_no_metadata.ensures
