use Rattle.flag_text.specs.View.{view, members_view}
use Rattle.flag_defs.proofs.Weighed.{forecast_told, forecast_none}
use Rattle.flag_defs.proofs.forecast.tree_forecast.Goals as goal

pub end_of-requires : goal.end_of-requires
end_of-requires c = record { found = (c.in-Some.ensures.measure.0, c.in-Some.ensures.measure.1) }

pub returns-in-Some : goal.returns-in-Some
returns-in-Some c =
    forecast_told (members_view c.args.evaluators.now) (view c.args.tree.now) (view c.end_of.result.now) c.in-Some.measure c.end_forecast.result c.measure_of.ensures.tidy c.requires
    c.end_of.ensures c.in-Some.ensures.measure c.end_forecast.ensures

pub returns-in-None : goal.returns-in-None
returns-in-None c = forecast_none (members_view c.args.evaluators.now) (view c.args.tree.now) c.in-None.ensures.measure
