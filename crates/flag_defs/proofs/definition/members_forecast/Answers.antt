use Rattle.std.proofs.Common.{option_map, ap, sym, subst, ◌∙◌}
use Rattle.flag_text.proofs.Halving.{names_rise-tidy}
use Rattle.flag_text.specs.Shape.{is_tidy}
use Rattle.flag_text.specs.View.{members_view}
use Rattle.flag_defs.specs.Definition.{or_null}
use Rattle.flag_defs.specs.Outline.{outline_view}
use Rattle.flag_defs.specs.Targeting.{IsForecast}
use Rattle.flag_defs.proofs.Foreseen.{outlined-foreseen}
use Rattle.flag_defs.proofs.Meant.{tidy_targeting}
use Rattle.flag_defs.proofs.definition.members_forecast.Goals as goal

pub outline_of-requires : goal.outline_of-requires
outline_of-requires c = names_rise-tidy (members_view c.args.members.now) c.requires

pub member_by_halving-requires : goal.member_by_halving-requires
member_by_halving-requires c = record { rising = names_rise-tidy (members_view c.args.members.now) c.requires }

pub targeting_forecast-requires : goal.targeting_forecast-requires
targeting_forecast-requires c = ap (λ o. is_tidy (or_null o)) c.member_by_halving.ensures.found ∙ tidy_targeting (members_view c.args.members.now) c.requires

pub returns : goal.returns
returns c =
    let evaluators = members_view c.args.evaluators.now in
    let ms = members_view c.args.members.now in
    outlined-foreseen evaluators ms (outline_view c.in-Some._outline) c.targeting_forecast.result (sym c.outline_of.ensures ∙ ap (option_map outline_view) c.in-Some.is)
    (subst (λ o. IsForecast evaluators (or_null o) c.targeting_forecast.result) c.member_by_halving.ensures.found c.targeting_forecast.ensures)
