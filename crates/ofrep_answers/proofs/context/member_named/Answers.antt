use Rattle.std.proofs.Common.{◌≡◌, true, Option, Some, IfSome, rules, subst, ap, ◌∙◌}
use Rattle.flag_text.specs.Readers.{find_member}
use Rattle.flag_text.specs.Shape.{Shape, is_tidy, names_rise}
use Rattle.flag_text.specs.View.{view, members_view}
use Rattle.flag_text.proofs.Halving.{is_tidy-find_member, names_rise-tidy}
use Rattle.ofrep_answers.proofs.context.member_named.Goals as goal

pub position_of-requires : goal.position_of-requires
position_of-requires c =
    record { rising = ap (λ ms. names_rise (members_view ms)) c.as_slice.ensures.value ∙ names_rise-tidy (members_view c.args.members.items) c.requires }

pub returns-clause-tidy : goal.returns-clause-tidy
returns-clause-tidy c =
    let ms = c.args.members.items in
    let found : find_member c.args.name.now (members_view ms) ≡ Some (view c.swap_remove-member.result.1) = search rules in
    subst (λ (o : Option Shape). IfSome o (λ t. is_tidy t ≡ true)) found (is_tidy-find_member c.args.name.now (members_view ms) c.requires)
