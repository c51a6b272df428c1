use Rattle.std.proofs.Common.{codes, option_map, string_bytes, ap, sym, ◌∙◌}
use Rattle.std.proofs.lemmas.Result.{on_ok_weaker}
use Rattle.flag_text.specs.Shape.{text, member}
use Rattle.flag_defs.specs.Document.{with_default}
use Rattle.flag_defs.specs.Members.{followed_by}
use Rattle.flag_defs.proofs.Trees.{view-text}
use Rattle.flag_defs.proofs.write.push_default.Goals as goal

pub returns-in_ok-clone-in-Some : goal.returns-in_ok-clone-in-Some
returns-in_ok-clone-in-Some c =
    let ms = c.args.members.now.items in
    let seen = view-text c.in_ok-clone-in-Some.field-0 ∙ ap text c.in_ok-clone-in-Some.ensures.cases in
    on_ok_weaker c.push_member.result
    (λ h rest. h rest ∙ ap (λ t. followed_by ms (member (codes "defaultVariant") t rest)) seen ∙ ap (λ o. followed_by ms (with_default (option_map string_bytes o) rest)) (sym c.in-Some.is)) c.push_member.ensures
