-- What the line of a refusal says beyond the name of its fault.
use Rattle.std.specs.Prelude.{ℕ, List, [], ◌++◌, codes, decimal}
use Rattle.book_core.specs.declared.fault.BookFileFault.{BookFileFault}
use Rattle.book_core.specs.declared.fault.BookFileFault.TheVariants as book
use Rattle.price_core.specs.Fault as requests
use Rattle.rollout.specs.declared.fault.RolloutFault.{RolloutFault}
use Rattle.rollout.specs.declared.fault.RolloutFault.TheVariants as rollout
use Rattle.note_tallies.specs.declared.file_fault.TallyFileFault.{TallyFileFault}
use Rattle.note_tallies.specs.declared.file_fault.TallyFileFault.TheVariants as tally

-- a number, behind a blank
abbrev pub number_item : ℕ → List ℕ
number_item n = codes " " ++ decimal n

-- the number and the name of a fault, each behind a blank
abbrev pub fault_items : ℕ → List ℕ → List ℕ
fault_items n name = codes " " ++ (decimal n ++ (codes " " ++ name))

-- the line of a book at fault
abbrev pub file_items : BookFileFault → List ℕ
file_items (book.Line n) = number_item n
file_items (book.Order n) = number_item n
file_items (book.InputTooLong n) = number_item n
file_items (book.PageFull n) = number_item n
file_items e = []

-- the line of a tally at fault
abbrev pub tally_items : TallyFileFault → List ℕ
tally_items (tally.Line n) = number_item n
tally_items (tally.Order n) = number_item n
tally_items e = []

-- the fault of the request
abbrev pub rollout_items : RolloutFault → List ℕ
rollout_items (rollout.Request e) = fault_items (requests.number_of e) (requests.name_of e)
rollout_items e = []
