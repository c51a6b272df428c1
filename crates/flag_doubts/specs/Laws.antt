-- What holds of every evaluation and of every resolution.
use Rattle.std.specs.Prelude.{◌≡◌, ◌≢◌, ◌⊎◌, ℕ, Bool, ◌||◌, List, [], ◌∷◌, true, Option, Some, None, Ok}
use Rattle.std.specs.Map.{lookup}
use Rattle.std.specs.Str.{bytes_eq}
use Rattle.flag_defs.specs.Definition.{Definition}
use Rattle.flag_defs.specs.Document.{Definitions}
use Rattle.flag_resolve.specs.Resolution.{Asked, name_in, resolution_of}
use Rattle.flag_resolve.specs.declared.reason.Reason.TheVariants.{TargetingMatch}
use Rattle.flag_text.specs.Shape.{Shape, null, boolean}
use Rattle.logic_ast.specs.Expression.{Expression, fractional, By, Buckets}
use Rattle.logic_eval.specs.Evaluation.{evaluation_of, meaning}
use Rattle.logic_eval.specs.Run.{Reach}
use Rattle.logic_eval.specs.Scope.{Situation}
use Rattle.flag_doubts.specs.Doubts.{gives_none}
use Rattle.flag_doubts.specs.Outcomes.{Outcome, named, nameless, truth, computed, outcomes}
use Rattle.flag_doubts.specs.Weights.{are_too_heavy, are_weightless, has_bad_weight}

-- the value is what the outcome says
abbrev pub Is : Outcome → Shape → Type 0
Is (named s) v = name_in v ≡ Some s
Is nameless v = name_in v ≡ None
Is truth v = (b : Bool) × (v ≡ boolean b)
Is computed v = Unit {0}

-- it is one of them, or null
abbrev pub IsAmong : List Outcome → Shape → Type 0
IsAmong [] v = v ≡ null
IsAmong (o ∷ os) v = Is o v ⊎ IsAmong os v

-- Whatever an evaluation gives is among the outcomes.
abbrev pub EachValueIsAnOutcome : Type 0
EachValueIsAnOutcome = (e : Expression) (s : Situation) (v : Shape) (rs : List Reach) → evaluation_of e s ≡ Ok (v, rs) → IsAmong (outcomes e) v

-- A flag of which it is told that its targeting can never give a variant resolves by a match of its targeting for nobody.
abbrev pub NeverMatches : Type 0
NeverMatches =
    (flags : Definitions) (d : Definition) (a : Asked) (s : Situation) → lookup (bytes_eq s.flag) flags ≡ Some d → gives_none d ≡ true
    → (resolution_of (Some flags) a s).reason ≢ TargetingMatch

-- A `fractional` with a weight that is none, or whose literal weights sum to more than 2^31-1, gives no value: each evaluation
-- that reaches it faults.
abbrev pub ABadWeightFaults : Type 0
ABadWeightFaults =
    (default : Option (List ℕ)) (n : ℕ) (b : By) (bs : Buckets) (scope v : Shape) → (has_bad_weight bs || are_too_heavy bs) ≡ true
    → (meaning default (fractional n b bs) scope).ending ≢ Ok v

-- One whose weights are all the literal 0 gives null, if anything.
abbrev pub NoWeightGivesNull : Type 0
NoWeightGivesNull =
    (default : Option (List ℕ)) (n : ℕ) (b : By) (bs : Buckets) (scope v : Shape) → are_weightless bs ≡ true → (meaning default (fractional n b bs) scope).ending ≡ Ok v → v ≡ null
