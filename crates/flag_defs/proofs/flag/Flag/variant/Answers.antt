use Rattle.std.proofs.Common.{ap, ◌∙◌}
use Rattle.flag_text.specs.Shape.{is_whole, names_rise}
use Rattle.flag_text.specs.View.{view as tree_view, members_view}
use Rattle.flag_text.specs.Readers.{find_member}
use Rattle.flag_text.proofs.Halving.{is_whole-find_member}
use Rattle.flag_defs.specs.Flag.{rules_view}
use Rattle.flag_defs.proofs.Lawful.{whole_rules, rising_rules, found_holds}
use Rattle.flag_defs.proofs.flag.Flag.variant.Goals as goal

pub member_by_halving-requires : goal.member_by_halving-requires
member_by_halving-requires c = record { rising = ap (λ ms. names_rise (members_view ms)) c.as_slice.ensures.value ∙ rising_rules (rules_view c.in-Some.rules) c.in-Some.rules.lawful }

pub returns-in-Some-clause-whole : goal.returns-in-Some-clause-whole
returns-in-Some-clause-whole c =
    let vs = members_view c.in-Some.rules.variants.items in
    found_holds is_whole (λ t. tree_view t.now) c.member_by_halving.result _ (c.member_by_halving.ensures.found ∙ ap (λ ms. find_member c.args.name.now (members_view ms)) c.as_slice.ensures.value)
    (is_whole-find_member c.args.name.now vs (whole_rules (rules_view c.in-Some.rules) c.in-Some.rules.lawful))
