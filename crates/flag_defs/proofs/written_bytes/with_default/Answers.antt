use Rattle.std.proofs.Common.{codes, option_map, string_bytes, ap, ap₂, sym, ◌∙◌}
use Rattle.flag_defs.specs.Document.{with_default}
use Rattle.flag_defs.specs.PrintedBytes.{members_bytes, text_bytes, with_member}
use Rattle.flag_defs.proofs.written_bytes.with_default.Goals as goal

pub returns-in-Some : goal.returns-in-Some
returns-in-Some c = λ ms e.
    c.with_member.ensures
    ∙ (ap₂ (with_member (codes "defaultVariant")) (c.text_bytes.ensures ∙ ap text_bytes c.as_str.ensures.value) e
    ∙ ap (λ o. members_bytes (with_default (option_map string_bytes o) ms)) (sym c.in-Some.is))
