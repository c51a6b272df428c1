use Rattle.std.proofs.lemmas.Result.{IfOk-weaker}
use Rattle.control_flags.specs.Flags.{head_text}
use Rattle.control_flags.proofs.answer.head_text.Goals as goal

pub returns : goal.returns
unfolding head_text
returns c = IfOk-weaker c.format.result _ _ (λ s e. rw (c.bool_text-may_apply.ensures, c.in_ok-remarks.ensures, c.in_ok-sources.ensures) at e) c.format.ensures.ok
