use Rattle.std.proofs.Common.{[], ◌∷◌, ◌++◌, ap, ap₂, ◌∙◌}
use Rattle.flag_text.proofs.Quoted.{pieces}
use Rattle.flag_text.proofs.push.push_plain.Goals as goal

pub returns-clause-ok : goal.returns-clause-ok
returns-clause-ok c =
    let opened = c.in_ok-push.ensures.items ∙ ap (λ b. b ++ 34 ∷ []) c.in_ok-reserve.ensures.items in
    let filled = c.in_ok-extend_from_slice.ensures.items ∙ ap₂ (λ a b. a ++ b) opened c.as_bytes.ensures.value in
    c.in_ok-push-2.ensures.items ∙ ap (λ b. b ++ 34 ∷ []) filled ∙ pieces c.args.out.now.items c.args.content.now c.requires
