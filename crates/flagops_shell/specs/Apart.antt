-- What is false is not true.
use mathlib.Core.Path.{subst}
use Rattle.std.specs.Prelude.{◌≡◌, Bool, true, false}

abbrev IsFalse : Bool → Type 0
IsFalse false = Unit {0}
IsFalse true = ⊥

pub apart : {X : Type 0} → false ≡ true → X
apart h = absurd (subst IsFalse h tt)
