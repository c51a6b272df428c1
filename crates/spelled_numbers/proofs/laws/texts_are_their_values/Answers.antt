use Rattle.spelled_numbers.proofs.Spelled.{value_text}
use Rattle.spelled_numbers.proofs.laws.texts_are_their_values.Goals as goal

pub returns : goal.returns
returns c = λ j numbers shallow. value_text j numbers shallow
