-- The number and the name that a refusal of a book is printed with.
use Rattle.std.specs.Prelude.{ℕ, List, codes}
use Rattle.book_core.specs.declared.fault.BookFault.{BookFault}
use Rattle.book_core.specs.declared.fault.BookFault.TheVariants.{WantOfMemory, PageFull, InputTooLong, LastCall, Stranger}
use Rattle.book_core.specs.declared.fault.BookFileFault.{BookFileFault}
use Rattle.book_core.specs.declared.fault.BookFileFault.TheVariants as file

-- the numbers of a note's refusals
abbrev pub number_of : BookFault → ℕ
number_of WantOfMemory = 0
number_of PageFull = 1
number_of InputTooLong = 2
number_of LastCall = 3
number_of Stranger = 4

-- their names
abbrev pub name_of : BookFault → List ℕ
name_of WantOfMemory = codes "WantOfMemory"
name_of PageFull = codes "PageFull"
name_of InputTooLong = codes "InputTooLong"
name_of LastCall = codes "LastCall"
name_of Stranger = codes "Stranger"

-- the numbers of a file's refusals
abbrev pub file_number_of : BookFileFault → ℕ
file_number_of file.WantOfMemory = 0
file_number_of file.Header = 1
file_number_of (file.Line n) = 2
file_number_of (file.Order n) = 3
file_number_of (file.InputTooLong n) = 4
file_number_of (file.PageFull n) = 5

-- their names
abbrev pub file_name_of : BookFileFault → List ℕ
file_name_of file.WantOfMemory = codes "WantOfMemory"
file_name_of file.Header = codes "Header"
file_name_of (file.Line n) = codes "Line"
file_name_of (file.Order n) = codes "Order"
file_name_of (file.InputTooLong n) = codes "InputTooLong"
file_name_of (file.PageFull n) = codes "PageFull"
