use Rattle.text_spans.proofs.Placed.{one_place}
use Rattle.text_spans.proofs.laws.a_value_stands_once.Goals as goal

pub returns : goal.returns
returns c = λ text path front old back other_front other other_back. one_place text path front old back other_front other other_back
