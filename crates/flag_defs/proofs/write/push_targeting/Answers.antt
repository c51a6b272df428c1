use Rattle.std.proofs.Common.{codes, option_map, ap, sym, ◌∙◌}
use Rattle.std.proofs.lemmas.Result.{on_ok_weaker}
use Rattle.flag_text.specs.Shape.{member}
use Rattle.logic_ast.specs.Expr.{view}
use Rattle.flag_defs.specs.Document.{with_targeting}
use Rattle.flag_defs.specs.Members.{followed_by}
use Rattle.flag_defs.proofs.write.push_targeting.Goals as goal

pub returns-in_ok-expression-in-Some : goal.returns-in_ok-expression-in-Some
returns-in_ok-expression-in-Some c =
    let ms = c.args.members.now.items in
    on_ok_weaker c.push_member.result
    (λ h rest. h rest ∙ ap (λ t. followed_by ms (member (codes "targeting") t rest)) c.in_ok-expression-in-Some.ensures.value ∙ ap (λ o. followed_by ms (with_targeting (option_map view o) rest)) (sym c.in-Some.is)) c.push_member.ensures
