use Rattle.control_answers.proofs.Recorded.{plan_the_record}
use Rattle.control_answers.proofs.laws.answers_plan_the_record.Goals as goal

pub returns : goal.returns
returns c = plan_the_record c.tallies_plan_as_books.ensures.asks c.hashes_stand_for_inputs.ensures
