-- What a `Decimal` is seen as.
use Rattle.std.specs.Prelude.{Result, Ok, Err}
use Rattle.logic_values.specs.Decimal.{Number}
use Rattle.logic_values.specs.declared.decimal.Decimal.{Decimal}

abbrev pub seen : Decimal → Number
seen d = record { negative = d.negative; digits = d.digits.items; zeros = d.zeros }

abbrev pub gives : {E : Type 0} → Result Decimal E → Result Number E
gives (Ok d) = Ok (seen d)
gives (Err e) = Err e
