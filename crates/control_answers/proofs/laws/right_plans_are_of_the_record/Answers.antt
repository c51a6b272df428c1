use Rattle.control_answers.proofs.Right.{applied_plans_are_right, checks_are_of_the_record}
use Rattle.control_answers.proofs.laws.right_plans_are_of_the_record.Goals as goal

pub returns : goal.returns
returns c = record {
  checks = checks_are_of_the_record c.tallies_plan_as_books.ensures.asks c.hashes_stand_for_inputs.ensures;
  applied = applied_plans_are_right c.tallies_plan_as_books.ensures.asks c.hashes_stand_for_inputs.ensures;
}
