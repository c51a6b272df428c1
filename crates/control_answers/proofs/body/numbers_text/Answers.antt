use Rattle.std.proofs.lemmas.Result.{IfOk-weaker}
use Rattle.control_answers.proofs.body.numbers_text.Goals as goal

pub returns : goal.returns
returns c = IfOk-weaker c.format.result _ _ (λ s e. rw (c.in_ok-by_hand.ensures, c.switched_in-switch.ensures, c.as_slice.ensures.value) at e) c.format.ensures.ok
