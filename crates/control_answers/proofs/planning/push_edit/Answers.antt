use Rattle.std.proofs.Common.{rules}
use Rattle.control_answers.specs.Body.{edit_words}
use Rattle.control_answers.proofs.planning.push_edit.Goals as goal

pub returns : goal.returns
unfolding edit_words
returns c = rw (c.in-Some.is, ← c.as_slice.ensures.value, ← c.switched_in-by_plan.ensures) (search rules)
