use Rattle.std.proofs.lemmas.Result.{IfOk-weaker}
use Rattle.control_answers.proofs.refusal.ControlRefusal.text.Goals as goal

pub returns : goal.returns
returns c = IfOk-weaker c.format.result _ _ (λ s e. rw (c.call-call.ensures, c.number-number.ensures, c.name-name.ensures, c.in_ok-details.ensures) at e) c.format.ensures.ok
