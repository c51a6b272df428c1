-- The number and the name that a refusal of a text is printed with.
use Rattle.std.specs.Prelude.{ℕ, List, codes}
use Rattle.flag_text.specs.declared.fault.TextFault.{TextFault}
use Rattle.flag_text.specs.declared.fault.TextFault.TheVariants.{WantOfMemory, NotJson, NotWhole, TooLarge, TooDeep}

-- want of memory is 0
abbrev pub number_of : TextFault → ℕ
number_of WantOfMemory = 0
number_of NotJson = 1
number_of NotWhole = 2
number_of TooLarge = 3
number_of TooDeep = 4

-- the name of the variant
abbrev pub name_of : TextFault → List ℕ
name_of WantOfMemory = codes "WantOfMemory"
name_of NotJson = codes "NotJson"
name_of NotWhole = codes "NotWhole"
name_of TooLarge = codes "TooLarge"
name_of TooDeep = codes "TooDeep"
