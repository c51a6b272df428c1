use Rattle.picture.proofs.Written.{text_data}
use Rattle.picture.proofs.laws.escaped_texts_are_data.Goals as goal

pub returns : goal.returns
returns c = text_data
