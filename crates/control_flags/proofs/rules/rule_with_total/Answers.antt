use Rattle.std.proofs.Common.{◌∙◌, ap}
use Rattle.std.proofs.lemmas.Result.{IfOk-weaker}
use Rattle.control_flags.specs.Sites.{rule_with_total}
use Rattle.control_flags.proofs.rules.rule_with_total.Goals as goal

pub returns : goal.returns
returns c = IfOk-weaker c.rule_or_null.result _ _ (λ s is. is ∙ ap rule_with_total c.in_ok-rule.ensures) c.rule_or_null.ensures
