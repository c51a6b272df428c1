use Rattle.std.proofs.lemmas.Result.{IfOk-weaker}
use Rattle.control_answers.proofs.history.cost_text.Goals as goal

pub returns : goal.returns
returns c = IfOk-weaker c.format.result _ _ (λ s e. rw c.in_ok-flag.ensures at e) c.format.ensures.ok
