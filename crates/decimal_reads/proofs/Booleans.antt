-- What two booleans being the same says of `and` and `or`.
use Rattle.std.proofs.Common.{◌≡◌, Bool, true, false, refl}
use Rattle.std.specs.Bool.{beq}
use Rattle.logic_values.specs.Comparison.{bool_eq}

pub bool_eq-same : (w b : Bool) → beq b w ≡ true → bool_eq w b ≡ true
bool_eq-same true true e = refl
bool_eq-same true false e = e
bool_eq-same false true e = e
bool_eq-same false false e = refl

pub bool_eq-other : (w b : Bool) → beq b w ≡ false → bool_eq w b ≡ false
bool_eq-other true true e = e
bool_eq-other true false e = refl
bool_eq-other false true e = refl
bool_eq-other false false e = e
