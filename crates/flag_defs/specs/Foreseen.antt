-- What is known of the definitions of a document before a reference in them is replaced.
use Rattle.std.specs.Prelude.{ℕ, List, [], ◌∷◌}
use Rattle.flag_text.specs.Shape.{Shape, Members, no_members, member}
use Rattle.flag_defs.specs.Definition.{broken, Means}
use Rattle.flag_references.specs.Measure.{plus}
use Rattle.flag_defs.specs.Targeting.{IsGoodTargeting}
use Rattle.flag_defs.specs.Weighing.{DefinitionTakes, targeting_member}
use Rattle.flag_defs.specs.declared.forecast.Forecast.{Forecast}
use Rattle.flag_defs.specs.declared.forecast.Forecast.TheVariants.{Broken, Without, With}

-- what a targeting takes at least: nothing where there is none, or none that is read
abbrev pub forecast_bytes : Forecast → ℕ
forecast_bytes Broken = 0
forecast_bytes Without = 0
forecast_bytes (With n) = n

-- the definition makes a broken flag, or has a targeting that does not break it
abbrev pub Decides : Members → Shape → Forecast → Type 0
Decides evaluators t Broken = Means evaluators t broken
Decides evaluators t Without = IsGoodTargeting evaluators (targeting_member t)
Decides evaluators t (With n) = IsGoodTargeting evaluators (targeting_member t)

-- a definition, and in how many bytes it is printed at least
abbrev pub Foresees : Members → Shape → Forecast → Type 0
Foresees evaluators t f = DefinitionTakes evaluators t (forecast_bytes f) × Decides evaluators t f

-- the same of each of these
abbrev pub AllForesee : Members → Members → List Forecast → Type 0
AllForesee evaluators no_members [] = Unit {0}
AllForesee evaluators no_members (f ∷ fs) = ⊥
AllForesee evaluators (member k t ms) [] = ⊥
AllForesee evaluators (member k t ms) (f ∷ fs) = Foresees evaluators t f × AllForesee evaluators ms fs

-- the sum of what they take, counted up to a number above every limit
abbrev pub least_sum : List Forecast → ℕ
least_sum [] = 0
least_sum (f ∷ fs) = plus (forecast_bytes f) (least_sum fs)
