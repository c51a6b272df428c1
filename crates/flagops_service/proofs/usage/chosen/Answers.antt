use Rattle.std.proofs.Common.{◌≡◌, ◌∙◌, ap₂, codes}
use Rattle.std.proofs.lemmas.Result.{IfOk-weaker}
use Rattle.clap.specs.Simple.{app_of, with_rule}
use Rattle.clap.specs.Built.{AddsArg}
use Rattle.flagops_words.specs.Words.{option_number}
use Rattle.flagops_service.specs.Words.{max_remembered, ofrep_chosen, ofrep_limited, option_text}
use Rattle.flagops_service.proofs.usage.chosen.Goals as goal

-- one word after the other
pub returns : goal.returns
unfolding ofrep_chosen
returns c =
    let one = with_rule ofrep_limited (option_number (codes "NOTES") (codes "remember") 0 max_remembered) in
    let two = with_rule one (option_text (codes "answer|refuse") (codes "without-record")) in
    let first : app_of c.in_ok-arg.field-0 ≡ one = c.in_ok-arg.ensures.shape c.option_number-remember.ensures.local ∙ ap₂ with_rule c.in_ok-limited.ensures c.option_number-remember.ensures.rule in
    let second : app_of c.in_ok-arg-2.field-0 ≡ two = c.in_ok-arg-2.ensures.shape c.text-without_record.ensures.local ∙ ap₂ with_rule first c.text-without_record.ensures.rule in
    IfOk-weaker c.arg-3.result (AddsArg c.in_ok-arg-2.field-0 c.text-broken.result) (λ r. app_of r ≡ ofrep_chosen)
    (λ r adds. adds.shape c.text-broken.ensures.local ∙ ap₂ with_rule second c.text-broken.ensures.rule) c.arg-3.ensures
