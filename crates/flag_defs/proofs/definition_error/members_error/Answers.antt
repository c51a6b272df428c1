use Rattle.std.proofs.Common.{None, ap, sym, subst, ◌∙◌}
use Rattle.flag_text.proofs.Halving.{names_rise-tidy}
use Rattle.flag_text.specs.Shape.{is_tidy}
use Rattle.flag_text.specs.View.{members_view}
use Rattle.flag_defs.specs.DefinitionError.{TargetingTells}
use Rattle.flag_defs.specs.Definition.{or_null}
use Rattle.flag_defs.proofs.Meant.{tidy_targeting}
use Rattle.flag_defs.proofs.Reasons.{outline_tells, targeting_tells}
use Rattle.flag_defs.proofs.Weighed.{forecast_absent}
use Rattle.flag_defs.proofs.definition_error.members_error.Goals as goal

pub outline_error-requires : goal.outline_error-requires
outline_error-requires c = names_rise-tidy (members_view c.args.members.now) c.requires

pub member_by_halving-requires : goal.member_by_halving-requires
member_by_halving-requires c = record { rising = names_rise-tidy (members_view c.args.members.now) c.requires }

pub targeting_error-requires : goal.targeting_error-requires
targeting_error-requires c = ap (λ o. is_tidy (or_null o)) c.in-Some-member_by_halving.ensures.found ∙ tidy_targeting (members_view c.args.members.now) c.requires

pub returns-in-Some : goal.returns-in-Some
returns-in-Some c = outline_tells (members_view c.args.evaluators.now) (members_view c.args.members.now) c.in-Some.definition_error (sym c.outline_error.ensures ∙ c.in-Some.is)

pub returns-in-Some-member_by_halving : goal.returns-in-Some-member_by_halving
returns-in-Some-member_by_halving c =
    let evaluators = members_view c.args.evaluators.now in
    let b = c.targeting_error.result in
    targeting_tells evaluators (members_view c.args.members.now) b (sym c.outline_error.ensures ∙ c.in_default.is)
    (subst (λ o. TargetingTells evaluators (or_null o) b) c.in-Some-member_by_halving.ensures.found c.targeting_error.ensures)

pub returns-in-None : goal.returns-in-None
returns-in-None c =
    let evaluators = members_view c.args.evaluators.now in
    targeting_tells evaluators (members_view c.args.members.now) None (sym c.outline_error.ensures ∙ c.in_default.is)
    (subst (λ o. TargetingTells evaluators (or_null o) None) c.in-None.ensures.found (None, forecast_absent evaluators))
