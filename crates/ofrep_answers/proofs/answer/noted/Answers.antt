use Rattle.std.proofs.Common.{rules}
use Rattle.ofrep_answers.proofs.Reached.{left}
use Rattle.ofrep_answers.proofs.answer.noted.Goals as goal

pub returns : goal.returns
returns c = left _ _ (λ x b f' k. search rules) _ _ c.retain.ensures.filtered
