use Rattle.std.proofs.lemmas.Result.{IfOk-weaker}
use Rattle.control_answers.proofs.history.rules_text.Goals as goal

pub returns : goal.returns
returns c = IfOk-weaker c.format.result _ _ (λ s e. rw (c.in_ok-new.ensures, c.in_ok-old.ensures) at e) c.format.ensures.ok
