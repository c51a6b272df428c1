use Rattle.std.proofs.Common.{◌∙◌, ap}
use Rattle.std.proofs.lemmas.Result.{IfOk-weaker}
use Rattle.control_flags.specs.Joined.{number_or_null}
use Rattle.control_flags.proofs.sites.recorded_text.Goals as goal

pub returns : goal.returns
returns c = IfOk-weaker c.number_or_null.result _ _ (λ s is. is ∙ ap number_or_null (c.copied.ensures ∙ c.get.ensures.value)) c.number_or_null.ensures
