-- The number that a refusal is printed with.
use Rattle.std.specs.Prelude.{ℕ}
use Rattle.note_tallies.specs.declared.file_fault.TallyFileFault.{TallyFileFault}
use Rattle.note_tallies.specs.declared.file_fault.TallyFileFault.TheVariants.{WantOfMemory, Header, Page, Line, Order, Inputs}

abbrev pub number_of : TallyFileFault → ℕ
number_of WantOfMemory = 0
number_of Header = 1
number_of Page = 2
number_of (Line n) = 3
number_of (Order n) = 4
number_of Inputs = 5
