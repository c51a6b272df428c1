use Rattle.std.proofs.Common.{◌≡◌, ◌∙◌, ap₂, codes}
use Rattle.std.proofs.lemmas.Result.{IfOk-weaker}
use Rattle.clap.specs.Simple.{app_of, with_rule}
use Rattle.clap.specs.Built.{AddsArg}
use Rattle.flagops_words.specs.Words.{flag}
use Rattle.flagops_service.specs.Words.{ofrep_guarded, ofrep_operated, option_text}
use Rattle.flagops_service.proofs.usage.operated.Goals as goal

-- one word after the other
pub returns : goal.returns
unfolding ofrep_operated
returns c =
    let one = with_rule ofrep_guarded (option_text (codes "HOST:PORT") (codes "admin")) in
    let two = with_rule one (flag (codes "allow-stop")) in
    let three = with_rule two (flag (codes "allow-apply")) in
    let first : app_of c.in_ok-arg.field-0 ≡ one = c.in_ok-arg.ensures.shape c.text-admin.ensures.local ∙ ap₂ with_rule c.in_ok-guarded.ensures c.text-admin.ensures.rule in
    let second : app_of c.in_ok-arg-2.field-0 ≡ two = c.in_ok-arg-2.ensures.shape c.flag-stop.ensures.local ∙ ap₂ with_rule first c.flag-stop.ensures.rule in
    let third : app_of c.in_ok-arg-3.field-0 ≡ three = c.in_ok-arg-3.ensures.shape c.flag-apply.ensures.local ∙ ap₂ with_rule second c.flag-apply.ensures.rule in
    IfOk-weaker c.arg-4.result (AddsArg c.in_ok-arg-3.field-0 c.flag-lines.result) (λ r. app_of r ≡ ofrep_operated)
    (λ r adds. adds.shape c.flag-lines.ensures.local ∙ ap₂ with_rule third c.flag-lines.ensures.rule) c.arg-4.ensures
