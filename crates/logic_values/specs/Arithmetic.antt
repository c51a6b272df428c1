-- Whole-number arithmetic, from the left (JsonLogic: `+`, `*`, `-`, `%`, `max`, `min`).
use Rattle.std.specs.Prelude.{ℤ, pos, ◌+ℤ◌, ◌-ℤ◌, ◌*ℤ◌, neg_ℤ, int_rem, List, [], ◌∷◌, Option, Some, None, option_and_then, Result, Ok, Err, if◌then◌else◌}
use Rattle.std.specs.Int.{int_min, int_max}
use Rattle.std.specs.Ordering.{int_eq}
use Rattle.flag_text.specs.Shape.{Shape, whole}
use Rattle.logic_values.specs.declared.fault.EvalFault.{EvalFault}
use Rattle.logic_values.specs.declared.fault.EvalFault.TheVariants.{Arithmetic}
use Rattle.logic_values.specs.Number.{in_range, number_of}

-- no number where one is needed, or one out of range
abbrev pub if_number : Option ℤ → Result Shape EvalFault
if_number None = Err Arithmetic
if_number (Some n) = Ok (whole n)

-- a step from two numbers to one in range
abbrev pub step : (ℤ → ℤ → ℤ) → Option ℤ → Option ℤ → Option ℤ
step f a b = option_and_then (λ m. option_and_then (λ n. in_range (f m n)) b) a

-- from a partial result on over the numbers of the values, each partial result in range
abbrev pub folded : (ℤ → ℤ → ℤ) → Option ℤ → List Shape → Option ℤ
folded f n [] = n
folded f n (v ∷ vs) = folded f (step f n (number_of v)) vs

-- `+`, of no values 0
abbrev pub sum : List Shape → Option ℤ
sum vs = folded ◌+ℤ◌ (Some (pos 0)) vs

-- `*`
abbrev pub product : List Shape → Option ℤ
product vs = folded ◌*ℤ◌ (Some (pos 1)) vs

-- from the number of the first value on
abbrev pub folded_from_first : (ℤ → ℤ → ℤ) → List Shape → Option ℤ
folded_from_first f [] = None
folded_from_first f (v ∷ vs) = folded f (number_of v) vs

-- `max` and `min`
abbrev pub maximum : List Shape → Option ℤ
maximum = folded_from_first int_max

abbrev pub minimum : List Shape → Option ℤ
minimum = folded_from_first int_min

-- `-`: the negation of one number, the difference of two
abbrev pub difference : List Shape → Option ℤ
difference [] = None
difference (a ∷ []) = option_and_then (λ n. in_range (neg_ℤ n)) (number_of a)
difference (a ∷ b ∷ rest) = step ◌-ℤ◌ (number_of a) (number_of b)

-- the remainder of a division that rounds towards 0, which has the sign of the dividend; none by 0
abbrev pub remainder_of : ℤ → ℤ → Option ℤ
remainder_of m n = if int_eq n (pos 0) then None else Some (int_rem m n)

-- `%`
abbrev pub remainder : Shape → Shape → Option ℤ
remainder a b = option_and_then (λ m. option_and_then (λ n. remainder_of m n) (number_of b)) (number_of a)
