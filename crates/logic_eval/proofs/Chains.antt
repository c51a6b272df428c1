-- Chains of values.
use Rattle.std.proofs.Common.{◌≡◌, ◌<◌, Bool, true, List, [], ◌∷◌, length, map, Result, Ok, refl, arith}
use Rattle.flag_text.specs.Shape.{Shape}
use Rattle.logic_values.specs.declared.value.Value.{Value}
use Rattle.logic_values.specs.declared.fault.EvalFault.{EvalFault}
use Rattle.logic_values.specs.Comparison.{is_chain}
use Rattle.logic_values.specs.Decimals.{chain}
use Rattle.logic_values.specs.Views.{value_view}

pub chain_short : (test : Shape → Shape → Bool) (vs : List Value) → length vs < 2 → is_chain test (map value_view vs) ≡ true
chain_short test [] h = refl
chain_short test (v ∷ []) h = refl
chain_short test (v ∷ u ∷ vs) h = absurd (omega arith)

pub exact_chain_short : (test : Shape → Shape → Result Bool EvalFault) (vs : List Value) → length vs < 2 → chain test (map value_view vs) ≡ Ok true
exact_chain_short test [] h = refl
exact_chain_short test (v ∷ []) h = refl
exact_chain_short test (v ∷ u ∷ vs) h = absurd (omega arith)
