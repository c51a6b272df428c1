use Rattle.picture.proofs.Written.{text_back}
use Rattle.picture.proofs.laws.escaped_texts_read_back.Goals as goal

pub returns : goal.returns
returns c = text_back
