use Rattle.std.proofs.Common.{◌≡◌, ◌∙◌, ap₂, codes}
use Rattle.std.proofs.lemmas.Result.{IfOk-weaker}
use Rattle.clap.specs.Simple.{app_of, with_rule}
use Rattle.clap.specs.Built.{AddsArg}
use Rattle.flagops_words.specs.Words.{option_number}
use Rattle.flagops_service.specs.Words.{max_idle, ofrep_limited, ofrep_operated}
use Rattle.flagops_service.proofs.usage.limited.Goals as goal

-- one word after the other
pub returns : goal.returns
unfolding ofrep_limited
returns c =
    let one = with_rule ofrep_operated (option_number (codes "S") (codes "idle") 1 max_idle) in
    let first : app_of c.in_ok-arg.field-0 ≡ one = c.in_ok-arg.ensures.shape c.option_number-idle.ensures.local ∙ ap₂ with_rule c.in_ok-operated.ensures c.option_number-idle.ensures.rule in
    IfOk-weaker c.arg-2.result (AddsArg c.in_ok-arg.field-0 c.option_number-body.result) (λ r. app_of r ≡ ofrep_limited)
    (λ r adds. adds.shape c.option_number-body.ensures.local ∙ ap₂ with_rule first c.option_number-body.ensures.rule) c.arg-2.ensures
