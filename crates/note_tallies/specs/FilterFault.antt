-- The number that a refusal is printed with. Between the others and the last come those of a stream that is not read to its end.
use Rattle.std.specs.Prelude.{ℕ}
use Rattle.note_tallies.specs.declared.filter_fault.FilterFault.{FilterFault}
use Rattle.note_tallies.specs.declared.filter_fault.FilterFault.TheVariants.{WantOfMemory, Line, Order, TooMany, Mixed}

abbrev pub number_of : FilterFault → ℕ
number_of WantOfMemory = 0
number_of (Line n) = 1
number_of (Order n) = 2
number_of TooMany = 3
number_of (Mixed n) = 6
