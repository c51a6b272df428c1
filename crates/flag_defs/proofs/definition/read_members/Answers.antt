use Rattle.std.proofs.Common.{◌≡◌, Some, option_map, option_and_then, ap, sym, subst, ◌∙◌}
use Rattle.flag_text.proofs.Halving.{names_rise-tidy}
use Rattle.flag_text.specs.Readers.{as_object}
use Rattle.flag_text.specs.Shape.{object, names_rise}
use Rattle.flag_text.specs.View.{members_view}
use Rattle.logic_ast.specs.Expr.{view}
use Rattle.flag_defs.specs.Definition.{HasTargeting, Means, good, or_null}
use Rattle.flag_defs.specs.Document.{or_no_members}
use Rattle.flag_defs.specs.Outline.{outline_of, outline_view}
use Rattle.flag_defs.specs.Rules.{are_rules}
use Rattle.flag_defs.specs.Targeting.{IsGoodTargeting}
use Rattle.flag_defs.proofs.Foreseen.{good_foreseen}
use Rattle.flag_defs.proofs.Outlines.{good_with, lawful_with, moved-rules}
use Rattle.flag_defs.proofs.definition.read_members.Goals as goal

pub outline_of-requires : goal.outline_of-requires
outline_of-requires c = ap (λ xs. names_rise (members_view xs)) c.as_slice.ensures.value ∙ names_rise-tidy (members_view c.args.members.items) c.requires.tidy

pub read_targeting-requires : goal.read_targeting-requires
read_targeting-requires c =
    let evaluators = members_view c.args.evaluators.now in
    let t = object (members_view c.args.members.items) in
    let found = c.take_both-targeting.ensures.first in record {
      weighed = record { definition = t; weighed = c.requires.weighed; is = ap or_null (sym found) };
      good =
          subst (λ o. IsGoodTargeting evaluators (or_null o)) (sym found)
          (good_foreseen evaluators t c.args.forecast c.in_default-forecast.not-Broken c.requires.foreseen);
    }

pub good_flag-requires : goal.good_flag-requires
good_flag-requires c =
    let ms = members_view c.args.members.items in
    let o = outline_view c.in-Some.outline in
    let e = option_map view c.in_ok-targeting.targeting in
    let outlined : outline_of ms ≡ Some o = sym (c.outline_of.ensures ∙ ap (λ xs. outline_of (members_view xs)) c.as_slice.ensures.value) ∙ ap (option_map outline_view) c.in-Some.is in
    let variants = c.members_in-variants.ensures ∙ ap (λ v. or_no_members (option_and_then as_object v)) c.take_both-targeting.ensures.second in
    ap are_rules (moved-rules ms _ _ o e outlined variants c.in_ok-default_variant.ensures)
    ∙ lawful_with (members_view c.args.evaluators.now) ms o e _ outlined c.in_ok-targeting.ensures

pub returns-clause-means : goal.returns-clause-means
returns-clause-means c =
    let evaluators = members_view c.args.evaluators.now in
    let ms = members_view c.args.members.items in
    let o = outline_view c.in-Some.outline in
    let e = option_map view c.in_ok-targeting.targeting in
    let outlined : outline_of ms ≡ Some o = sym (c.outline_of.ensures ∙ ap (λ xs. outline_of (members_view xs)) c.as_slice.ensures.value) ∙ ap (option_map outline_view) c.in-Some.is in
    let variants = c.members_in-variants.ensures ∙ ap (λ v. or_no_members (option_and_then as_object v)) c.take_both-targeting.ensures.second in
    subst (Means evaluators (object ms)) (sym (c.good_flag.ensures.value ∙ ap good (moved-rules ms _ _ o e outlined variants c.in_ok-default_variant.ensures)))
    (good_with evaluators ms o e outlined (subst (λ t. HasTargeting evaluators (or_null t) e) c.take_both-targeting.ensures.first c.in_ok-targeting.ensures))
