-- How many seats a book may have, and how refusals are printed.
use Rattle.std.specs.Prelude.{ℕ, List, codes, Option, Some, None, ◌==◌, nat_lt, if◌then◌else◌}
use Rattle.limits.specs.Limits.{seats}
use Rattle.book_lock.specs.declared.fault.SealFault.{SealFault}
use Rattle.book_lock.specs.declared.fault.SealFault.TheVariants as seal
use Rattle.book_lock.specs.declared.fault.SeatsFault.{SeatsFault}
use Rattle.book_lock.specs.declared.fault.SeatsFault.TheVariants.{WantOfMemory, NoSeats, TooManySeats}

-- the most seats of a book
abbrev pub most_seats : ℕ
most_seats = seats

-- why there are no blanks for so many seats
abbrev pub seats_fault : ℕ → Option SeatsFault
seats_fault n = if n == 0 then Some NoSeats else (if nat_lt most_seats n then Some TooManySeats else None)

-- the number of a refusal
abbrev pub number_of : SeatsFault → ℕ
number_of WantOfMemory = 0
number_of NoSeats = 1
number_of TooManySeats = 2

-- its name
abbrev pub name_of : SeatsFault → List ℕ
name_of WantOfMemory = codes "WantOfMemory"
name_of NoSeats = codes "NoSeats"
name_of TooManySeats = codes "TooManySeats"

-- the same of a refusal to seal or to freeze
abbrev pub seal_number_of : SealFault → ℕ
seal_number_of seal.WantOfMemory = 0
seal_number_of seal.SeatMissing = 1

abbrev pub seal_name_of : SealFault → List ℕ
seal_name_of seal.WantOfMemory = codes "WantOfMemory"
seal_name_of seal.SeatMissing = codes "SeatMissing"
