-- What is known of a flag's targeting before its references are replaced.
use Rattle.std.specs.Prelude.{◌≡◌, ◌≤◌, Bool, true, false, ◌&&◌, if◌then◌else◌, Option, Some, None, is_some}
use Rattle.flag_text.specs.Readers.{as_object}
use Rattle.flag_text.specs.Shape.{Shape, null, object, Members, no_members}
use Rattle.logic_ast.specs.Expression.{Expression}
use Rattle.logic_ast.specs.Writing.{written}
use Rattle.flag_defs.specs.Definition.{HasTargeting}
use Rattle.flag_references.specs.Inlining.{IsInlined}
use Rattle.flag_references.specs.Least.{least}
use Rattle.flag_references.specs.Measure.{capped}
use Rattle.flag_references.specs.Readable.{reads}
use Rattle.flag_references.specs.declared.measure.Measure.{Measure}
use Rattle.flag_defs.specs.declared.forecast.Forecast.{Forecast}
use Rattle.flag_defs.specs.declared.forecast.Forecast.TheVariants.{Broken, Without, With}

-- It breaks the flag, or is none, or is an expression that is printed in so many bytes at least: as many as its form, counted
-- up to a number above every limit.
abbrev pub IsForecast : Members → Shape → Forecast → Type 0
IsForecast evaluators t Broken = (e : Option Expression) → ¬ HasTargeting evaluators t e
IsForecast evaluators t Without = HasTargeting evaluators t None
IsForecast evaluators t (With n) = (e : Expression) × HasTargeting evaluators t (Some e) × (n ≤ least (written e)) × ((u : Shape) → IsInlined evaluators t u → n ≡ capped (least u))

-- null or `{}`: no targeting
abbrev pub is_nothing : Shape → Bool
is_nothing null = true
is_nothing (object no_members) = true
is_nothing t = false

-- what a targeting is, by the tree at the end of its references and the measure of its form
abbrev pub end_forecast : Shape → Measure → Forecast
end_forecast t m = if is_nothing t then Without else (if is_some (as_object t) && reads m then With m.bytes else Broken)

-- the targeting does not break the flag
abbrev pub IsGoodTargeting : Members → Shape → Type 0
IsGoodTargeting evaluators t = (e : Option Expression) × HasTargeting evaluators t e
