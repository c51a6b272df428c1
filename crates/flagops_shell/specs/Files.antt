-- What the files hold that the program reads and writes.
use Rattle.std.specs.Prelude.{◌≡◌, ◌≢◌, ℕ, ◌+◌, Bool, true, false, if◌then◌else◌, List, take, Option, Some, None, Result, Ok, Err, codes}
use Rattle.flagops_shell.specs.Beginning.{may_begin_record, may_note}
use Rattle.flagops_shell.specs.declared.files.LoadFault.{LoadFault}
use Rattle.flagops_shell.specs.declared.files.LoadFault.TheVariants as load
use Rattle.flagops_shell.specs.declared.files.StoreFault.{StoreFault}
use Rattle.flagops_shell.specs.declared.files.StoreFault.TheVariants as store

-- the bytes of the file at each path, `None` where it cannot be read
abbrev pub Holding : Type 0
Holding = List ℕ → Option (List ℕ)

-- the bytes, cut after one more than the limit
abbrev pub front_of : ℕ → Option (List ℕ) → Result (List ℕ) LoadFault
front_of limit None = Err load.Unreadable
front_of limit (Some bytes) = Ok (take (limit + 1) bytes)

-- what a read gives of the file at a path: enough to tell that it is larger than the limit
abbrev pub load_of : Holding → List ℕ → ℕ → Result (List ℕ) LoadFault
load_of at path limit = front_of limit (at path)

-- the piece of a file by which it is judged
abbrev pub first_piece : List ℕ → List ℕ
first_piece bytes = take 4096 bytes

-- all of a book file, cut so, and of a file that does not begin as a book or a tally the first piece
abbrev pub front_of_book : ℕ → Option (List ℕ) → Result (List ℕ) LoadFault
front_of_book limit None = Err load.Unreadable
front_of_book limit (Some bytes) = Ok (if may_begin_record (first_piece bytes) then take (limit + 1) bytes else first_piece bytes)

-- what a read gives of the book file at a path
abbrev pub load_book_of : Holding → List ℕ → ℕ → Result (List ℕ) LoadFault
load_book_of at path limit = front_of_book limit (at path)

-- the piece of a file by which it is judged whether it notes anything: more bytes than the longest note line of a document has
abbrev pub notes_piece : List ℕ → List ℕ
notes_piece bytes = take 16777216 bytes

-- all of a book or a file of note lines, cut so, and of a file that begins as neither that piece
abbrev pub front_of_notes : Bool → ℕ → Option (List ℕ) → Result (List ℕ) LoadFault
front_of_notes passing limit None = Err load.Unreadable
front_of_notes passing limit (Some bytes) = Ok (if may_note passing (notes_piece bytes) then take (limit + 1) bytes else notes_piece bytes)

-- what a read gives of the file at a path that is a book or note lines, where lines that are none may be passed over
abbrev pub load_notes_of : Holding → Bool → List ℕ → ℕ → Result (List ℕ) LoadFault
load_notes_of at passing path limit = front_of_notes passing limit (at path)

-- the new files have the bytes at the path
abbrev pub Stores : Option Holding → Option Holding → List ℕ → List ℕ → Type 0
Stores None new path bytes = Unit {0}
Stores (Some at) None path bytes = ⊥
Stores (Some at) (Some after) path bytes = after path ≡ Some bytes

-- the new files have at every other path what the old ones have
abbrev pub KeepsOthers : Option Holding → Option Holding → List ℕ → Type 0
KeepsOthers None new path = Unit {0}
KeepsOthers (Some at) None path = ⊥
KeepsOthers (Some at) (Some after) path = (other : List ℕ) → other ≢ path → after other ≡ at other

-- the fault that a file set remembers, of a read and of a write
abbrev pub is_unreadable : {X : Type 0} → Result X LoadFault → Bool
is_unreadable (Err load.Unreadable) = true
is_unreadable r = false

abbrev pub is_unwritable : {X : Type 0} → Result X StoreFault → Bool
is_unwritable (Err store.Unwritable) = true
is_unwritable r = false

-- the number and the name that a refusal is written with
abbrev pub load_number : LoadFault → ℕ
load_number load.WantOfMemory = 0
load_number load.Unreadable = 1

abbrev pub load_name : LoadFault → List ℕ
load_name load.WantOfMemory = codes "WantOfMemory"
load_name load.Unreadable = codes "Unreadable"

abbrev pub store_number : StoreFault → ℕ
store_number store.WantOfMemory = 0
store_number store.Unwritable = 1

abbrev pub store_name : StoreFault → List ℕ
store_name store.WantOfMemory = codes "WantOfMemory"
store_name store.Unwritable = codes "Unwritable"
