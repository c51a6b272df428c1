-- The number and the name that a refusal of a document is printed with.
use Rattle.std.specs.Prelude.{ℕ, List, codes}
use Rattle.flag_text.specs.declared.fault.TextFault.{TextFault}
use Rattle.flag_text.specs.declared.fault.TextFault.TheVariants as text_fault
use Rattle.flag_defs.specs.declared.fault.DefFault.{DefFault}
use Rattle.flag_defs.specs.declared.fault.DefFault.TheVariants.{WantOfMemory, NotJson, NoFlags, TooLarge}

abbrev pub number_of : DefFault → ℕ
number_of WantOfMemory = 0
number_of NotJson = 1
number_of NoFlags = 2
number_of TooLarge = 3

abbrev pub name_of : DefFault → List ℕ
name_of WantOfMemory = codes "WantOfMemory"
name_of NotJson = codes "NotJson"
name_of NoFlags = codes "NoFlags"
name_of TooLarge = codes "TooLarge"

-- the fault of a document whose text is refused
abbrev pub of_text : TextFault → DefFault
of_text text_fault.WantOfMemory = WantOfMemory
of_text text_fault.TooLarge = TooLarge
of_text e = NotJson
