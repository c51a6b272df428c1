use Rattle.std.proofs.lemmas.Result.{IfOk-weaker}
use Rattle.control_answers.proofs.history.who_text.Goals as goal

pub returns : goal.returns
returns c = IfOk-weaker c.format.result _ _ (λ s e. rw (c.in_ok-time.ensures, c.in_ok-who.ensures) at e) c.format.ensures.ok
