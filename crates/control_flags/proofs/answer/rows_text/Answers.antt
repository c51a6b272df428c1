use Rattle.std.proofs.lemmas.Result.{IfOk-weaker}
use Rattle.control_flags.specs.Flags.{rows_text}
use Rattle.control_flags.proofs.answer.rows_text.Goals as goal

pub returns : goal.returns
unfolding rows_text
returns c = IfOk-weaker c.format.result _ _ (λ s e. rw (c.in_ok-head.ensures, c.in_ok-sites.ensures, c.in_ok-doubts.ensures, c.in_ok-kinds.ensures) at e) c.format.ensures.ok
