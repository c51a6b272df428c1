use Rattle.std.proofs.Common.{ap, sym, subst, ◌∙◌}
use Rattle.json.specs.Json.{document}
use Rattle.member_names.proofs.Documents.{json_text, no_json}
use Rattle.flag_doubts.specs.Repeated.{Finds}
use Rattle.flag_doubts.proofs.repeated.repeated_in.Goals as goal

pub returns-in_default : goal.returns-in_default
returns-in_default c = subst (λ o. Finds o c.nothing.result) (sym (no_json c.args.bytes.now (λ u. absurd (c.in_default.ensures u)))) c.nothing.ensures

pub returns-in-Ok-of_text : goal.returns-in-Ok-of_text
returns-in-Ok-of_text c =
    let text = c.in-Ok.ensures in
    subst (λ o. Finds o c.in-Ok-of_text.found) (ap (λ bytes. document bytes) text.0 ∙ sym (json_text c.args.bytes.now text.1)) c.in-Ok-of_text.ensures.ok
