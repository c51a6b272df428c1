-- The number and the name that a fault of an evaluation is printed with.
use Rattle.std.specs.Prelude.{ℕ, List, codes}
use Rattle.logic_values.specs.declared.fault.EvalFault.{EvalFault}
use Rattle.logic_values.specs.declared.fault.EvalFault.TheVariants.{WantOfMemory, Arithmetic, TooLong, BadBuckets, TextTooLong}

abbrev pub number_of : EvalFault → ℕ
number_of WantOfMemory = 0
number_of Arithmetic = 1
number_of TooLong = 2
number_of BadBuckets = 3
number_of TextTooLong = 4

abbrev pub name_of : EvalFault → List ℕ
name_of WantOfMemory = codes "WantOfMemory"
name_of Arithmetic = codes "Arithmetic"
name_of TooLong = codes "TooLong"
name_of BadBuckets = codes "BadBuckets"
name_of TextTooLong = codes "TextTooLong"
