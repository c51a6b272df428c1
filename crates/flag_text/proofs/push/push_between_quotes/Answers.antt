use Rattle.std.proofs.Common.{[], ◌∷◌, ◌++◌, string_bytes, ap, ◌∙◌}
use Rattle.flag_text.proofs.Quoted.{pieces}
use Rattle.flag_text.proofs.push.push_between_quotes.Goals as goal

pub returns-clause-ok : goal.returns-clause-ok
returns-clause-ok c =
    let opened = c.in_ok-push_str.ensures.bytes ∙ ap (λ b. b ++ 34 ∷ []) c.in_ok-reserve.ensures.bytes in
    let filled = c.in_ok-push_str-2.ensures.bytes ∙ ap (λ b. b ++ c.args.content.now) opened in
    c.in_ok-push_str-3.ensures.bytes ∙ ap (λ b. b ++ 34 ∷ []) filled ∙ pieces (string_bytes c.args.out.now) c.args.content.now c.requires
