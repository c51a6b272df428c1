use Rattle.std.proofs.Common.{sym, ◌∙◌}
use Rattle.flag_text.specs.View.{view, members_view}
use Rattle.flag_defs.proofs.Reasons.{form_told}
use Rattle.flag_defs.proofs.definition_error.targeting_rule.Goals as goal

pub end_of-requires : goal.end_of-requires
end_of-requires c = record { found = (c.in-Some.ensures.measure.0, c.in-Some.ensures.measure.1) }

pub returns-in-Some : goal.returns-in-Some
returns-in-Some c =
    form_told (members_view c.args.evaluators.now) (view c.args.tree.now) (view c.end_of.result.now) c.in-Some.measure c.end_rule.result c.measure_of.ensures.tidy c.requires.tidy
    (sym c.is_null_or_object.ensures ∙ c.if-not-is_null_or_object.false) c.end_of.ensures c.in-Some.ensures.measure c.requires.broken c.end_rule.ensures
