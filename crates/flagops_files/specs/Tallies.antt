-- The number and the name that a refusal of the file of a tally is written with.
use Rattle.std.specs.Prelude.{ℕ, List, codes}
use Rattle.note_tallies.specs.Fault as tallies
use Rattle.note_tallies.specs.declared.file_fault.TallyFileFault.{TallyFileFault}
use Rattle.note_tallies.specs.declared.file_fault.TallyFileFault.TheVariants.{WantOfMemory, Header, Page, Line, Order, Inputs}

abbrev pub number_of : TallyFileFault → ℕ
number_of e = tallies.number_of e

-- the name of the variant
abbrev pub name_of : TallyFileFault → List ℕ
name_of WantOfMemory = codes "WantOfMemory"
name_of Header = codes "Header"
name_of Page = codes "Page"
name_of (Line n) = codes "Line"
name_of (Order n) = codes "Order"
name_of Inputs = codes "Inputs"
