-- What a handle owns.
use Rattle.std.specs.Prelude.{Bool, true, false, Option, Some, None}
use base.Fml.{Fml, ftrue}
use denote.RawPtr.{Ptr}
use Rattle.std.specs.Box.Ownership.{box_owns}
use Rattle.libc.specs.Heap.{chunk}
use Rattle.library_seat.specs.contracts.seat.Seat.{the_row}
use Rattle.library_seat.specs.declared.seat.Seat.{Seat}

-- the box of the seat whose block begins at the address, where there is one; `free` gives its block back
abbrev pub held_at : Ptr → Option Seat → Fml
held_at address None = ftrue
held_at address (Some seat) = box_owns chunk the_row address seat

-- what the flag says
abbrev pub is_held : Option Seat → Bool
is_held None = false
is_held (Some seat) = true
