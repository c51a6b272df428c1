use Rattle.spelled_numbers.proofs.Unmarked.{unmarked_text}
use Rattle.spelled_numbers.proofs.laws.whole_flags_have_no_floats.Goals as goal

pub returns : goal.returns
returns c = λ bytes j e h. unmarked_text bytes j e h
