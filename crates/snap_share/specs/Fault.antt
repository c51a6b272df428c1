-- The number and the name that a refusal is printed with, and which call has which fault.
use Rattle.std.specs.Prelude.{ℕ, List, codes, Bool, true, false}
use Rattle.snap_share.specs.declared.fault.ShareFault.{ShareFault}
use Rattle.snap_share.specs.declared.fault.ShareFault.TheVariants.{WantOfMemory, NoSeats, TooManySeats, NoReader, LastNumber, Closed}

abbrev pub number_of : ShareFault → ℕ
number_of WantOfMemory = 0
number_of NoSeats = 1
number_of TooManySeats = 2
number_of NoReader = 3
number_of LastNumber = 4
number_of Closed = 5

abbrev pub name_of : ShareFault → List ℕ
name_of WantOfMemory = codes "WantOfMemory"
name_of NoSeats = codes "NoSeats"
name_of TooManySeats = codes "TooManySeats"
name_of NoReader = codes "NoReader"
name_of LastNumber = codes "LastNumber"
name_of Closed = codes "Closed"

-- the faults of sharing flags
abbrev pub is_of_share : ShareFault → Bool
is_of_share WantOfMemory = true
is_of_share NoSeats = true
is_of_share TooManySeats = true
is_of_share NoReader = true
is_of_share fault = false

-- the faults of publishing flags
abbrev pub is_of_publish : ShareFault → Bool
is_of_publish WantOfMemory = true
is_of_publish LastNumber = true
is_of_publish Closed = true
is_of_publish fault = false

-- the faults of reading the current snapshot
abbrev pub is_of_current : ShareFault → Bool
is_of_current WantOfMemory = true
is_of_current Closed = true
is_of_current fault = false
