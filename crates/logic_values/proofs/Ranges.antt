-- Numbers that no 64 bits hold are out of range.
use Rattle.std.proofs.Common.{◌≡◌, ℤ, pos, negsuc, Bool, true, false, None, arith, refl}
use Rattle.std.specs.Prelude.{FitsSigned}
use Rattle.std.proofs.lemmas.Int.{ints}
use mir.Syntax.{w64}
use Rattle.flag_text.specs.Shape.{is_in_range}
use Rattle.logic_values.specs.Number.{in_range}

fits : (z : ℤ) → is_in_range z ≡ true → FitsSigned w64 z
fits (pos n) h = grind (arith, ints, h)
fits (negsuc n) h = grind (arith, ints, h)

chosen : (z : ℤ) (b : Bool) → is_in_range z ≡ b → (FitsSigned w64 z → ⊥) → in_range z ≡ None
chosen z true e h = absurd (h (fits z e))
chosen z false e h = rw e refl

pub out_of_range : (z : ℤ) → (FitsSigned w64 z → ⊥) → in_range z ≡ None
out_of_range z h = chosen z (is_in_range z) refl h
