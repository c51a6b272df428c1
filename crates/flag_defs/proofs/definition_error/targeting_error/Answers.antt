use Rattle.std.proofs.Common.{None, subst}
use Rattle.flag_text.specs.View.{view, members_view}
use Rattle.flag_defs.specs.Targeting.{IsForecast}
use Rattle.flag_defs.proofs.definition_error.targeting_error.Goals as goal

pub returns-in-Without : goal.returns-in-Without
returns-in-Without c = (None, subst (IsForecast (members_view c.args.evaluators.now) (view c.args.tree.now)) c.in-Without.is c.tree_forecast.ensures)
