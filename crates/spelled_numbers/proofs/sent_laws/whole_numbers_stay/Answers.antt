use Rattle.spelled_numbers.proofs.Stays.{stays}
use Rattle.spelled_numbers.proofs.Whole.{respelled_as_it_is}
use Rattle.spelled_numbers.proofs.sent_laws.whole_numbers_stay.Goals as goal

pub returns : goal.returns
returns c = λ bytes limit e. stays bytes limit (respelled_as_it_is bytes e)
