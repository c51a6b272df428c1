use Rattle.std.proofs.Common.{◌≡◌, ◌∙◌, ap₂}
use Rattle.std.proofs.lemmas.Result.{IfOk-weaker}
use Rattle.clap.specs.Simple.{app_of, with_rule}
use Rattle.clap.specs.Built.{AddsArg}
use Rattle.flagops_service.specs.Words.{ofrep_logged}
use Rattle.flagops_service.proofs.usage.logged.Goals as goal

-- the word behind the others
pub returns : goal.returns
unfolding ofrep_logged
returns c =
    IfOk-weaker c.arg.result (AddsArg c.in_ok-begun.field-0 c.flag-points.result) (λ r. app_of r ≡ ofrep_logged)
    (λ r adds. adds.shape c.flag-points.ensures.local ∙ ap₂ with_rule c.in_ok-begun.ensures c.flag-points.ensures.rule) c.arg.ensures
