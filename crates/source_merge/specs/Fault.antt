-- The number and the name that a refusal of sources is printed with, and what a refused document is to them.
use Rattle.std.specs.Prelude.{ℕ, List, codes}
use Rattle.flag_defs.specs.declared.fault.DefFault.{DefFault}
use Rattle.flag_defs.specs.declared.fault.DefFault.TheVariants as def
use Rattle.source_merge.specs.declared.fault.SourceFault.{SourceFault}
use Rattle.source_merge.specs.declared.fault.SourceFault.TheVariants.{WantOfMemory, Known, TooMany, Unknown, Refused, TooLarge}

abbrev pub number_of : SourceFault → ℕ
number_of WantOfMemory = 0
number_of Known = 1
number_of TooMany = 2
number_of Unknown = 3
number_of (Refused fault) = 4
number_of TooLarge = 5

abbrev pub name_of : SourceFault → List ℕ
name_of WantOfMemory = codes "WantOfMemory"
name_of Known = codes "Known"
name_of TooMany = codes "TooMany"
name_of Unknown = codes "Unknown"
name_of (Refused fault) = codes "Refused"
name_of TooLarge = codes "TooLarge"

-- a refused document; its want of memory is the sources'
abbrev pub of_document : DefFault → SourceFault
of_document def.WantOfMemory = WantOfMemory
of_document def.NotJson = Refused def.NotJson
of_document def.NoFlags = Refused def.NoFlags
of_document def.TooLarge = Refused def.TooLarge

-- flags that pass the limits together
abbrev pub of_flags : DefFault → SourceFault
of_flags def.WantOfMemory = WantOfMemory
of_flags fault = TooLarge
