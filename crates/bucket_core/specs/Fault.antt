-- The number and the name that a refusal of a rule is printed with.
use Rattle.std.specs.Prelude.{ℕ, List, codes}
use Rattle.bucket_core.specs.declared.fault.RuleFault.{RuleFault}
use Rattle.bucket_core.specs.declared.fault.RuleFault.TheVariants.{WantOfMemory, NoWeight, TooHeavy, BadRule}

-- want of memory is 0
abbrev pub number_of : RuleFault → ℕ
number_of WantOfMemory = 0
number_of NoWeight = 1
number_of TooHeavy = 2
number_of BadRule = 3

-- the name of the variant
abbrev pub name_of : RuleFault → List ℕ
name_of WantOfMemory = codes "WantOfMemory"
name_of NoWeight = codes "NoWeight"
name_of TooHeavy = codes "TooHeavy"
name_of BadRule = codes "BadRule"
