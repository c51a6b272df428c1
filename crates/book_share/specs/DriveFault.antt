-- The number and the name that a refusal of a drive is printed with, and when it comes for its workers.
use Rattle.std.specs.Prelude.{ℕ, List, codes, Bool, true, false, Option, Some, None, ◌==◌, nat_lt, if◌then◌else◌}
use Rattle.book_lock.specs.Limits.{most_seats}
use Rattle.book_share.specs.declared.drive_fault.DriveFault.{DriveFault}
use Rattle.book_share.specs.declared.drive_fault.DriveFault.TheVariants.{WantOfMemory, NoWorkers, TooManyWorkers, Stalled}

abbrev pub number_of : DriveFault → ℕ
number_of WantOfMemory = 0
number_of NoWorkers = 1
number_of TooManyWorkers = 2
number_of Stalled = 3

abbrev pub name_of : DriveFault → List ℕ
name_of WantOfMemory = codes "WantOfMemory"
name_of NoWorkers = codes "NoWorkers"
name_of TooManyWorkers = codes "TooManyWorkers"
name_of Stalled = codes "Stalled"

-- why so many workers drive nothing
abbrev pub workers_fault : ℕ → Option DriveFault
workers_fault n = if n == 0 then Some NoWorkers else (if nat_lt most_seats n then Some TooManyWorkers else None)

-- a refusal of the number of workers, before any of them starts
abbrev pub is_of_workers : DriveFault → Bool
is_of_workers NoWorkers = true
is_of_workers TooManyWorkers = true
is_of_workers e = false
