use Rattle.std.proofs.Common.{Option, Bor, option_map, sym, subst}
use Rattle.flag_text.specs.Shape.{Shape}
use Rattle.flag_text.specs.View.{view, members_view}
use Rattle.flag_text.specs.declared.tree.Tree.{Tree}
use Rattle.flag_defs.specs.Definition.{or_null}
use Rattle.flag_defs.specs.Targeting.{IsForecast}
use Rattle.flag_defs.specs.declared.forecast.Forecast.TheVariants.{Without}
use Rattle.flag_defs.proofs.Weighed.{forecast_absent}
use Rattle.flag_defs.proofs.forecast.targeting_forecast.Goals as goal

pub returns-in-None : goal.returns-in-None
returns-in-None c =
    let seen : Option (Bor Tree) → Option Shape = λ o. option_map (λ t. view t.now) o in
    subst (λ o. IsForecast (members_view c.args.evaluators.now) (or_null (seen o)) Without) (sym c.in-None.is) (forecast_absent (members_view c.args.evaluators.now))
