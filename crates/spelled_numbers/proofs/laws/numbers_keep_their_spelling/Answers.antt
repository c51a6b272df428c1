use Rattle.spelled_numbers.proofs.Spelled.{number_spelled}
use Rattle.spelled_numbers.proofs.laws.numbers_keep_their_spelling.Goals as goal

pub returns : goal.returns
returns c = λ s. number_spelled s
