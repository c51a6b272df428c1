-- What a subscriber was sent.
use Rattle.std.specs.Prelude.{◌≡◌, ◌⊎◌, ℕ, List, Option}
use Rattle.snap_share.specs.Known.{Seat, WasRead, snapshots_of}
use Rattle.sync_server.specs.Served.{Serves}
use Rattle.sync_server.specs.declared.end.StreamEnd.{StreamEnd}
use Rattle.sync_server.specs.declared.end.StreamEnd.TheVariants.{WriteFault}

-- the number above which one was asked for before, that above which one is asked for, and what is kept of it
abbrev pub AsksAbove : ℕ → ℕ → ℕ → Type 0
AsksAbove before after now = now ≡ after

-- A stream of so many turns at most was served from a seat, as `serve_stream` says, with so many frames; a number above this one
-- was asked for last.
abbrev pub WasServed : ℕ → Seat → Seat → Option (List ℕ) → Option (List ℕ) → StreamEnd → ℕ → ℕ → Type 0
WasServed limit seat seat' before after end frames number = Serves AsksAbove WasRead 0 number seat seat' limit (snapshots_of seat'.known) before after frames end

-- a stream was served from this seat over some outlet, and ended so
abbrev pub WasSent : ℕ → Seat → StreamEnd → ℕ → ℕ → Type 0
WasSent limit seat end frames number =
    (seat' : Seat) × (before : Option (List ℕ)) × (after : Option (List ℕ)) × WasServed limit seat seat' before after end frames number

-- the connection failed, or a stream was sent over it
abbrev pub WasAttended : ℕ → Seat → StreamEnd → ℕ → ℕ → Type 0
WasAttended limit seat end frames number = (end ≡ WriteFault) ⊎ WasSent limit seat end frames number

-- the same from some seat
abbrev pub IsEnd : ℕ → StreamEnd → ℕ → ℕ → Type 0
IsEnd limit end frames number = (seat : Seat) × WasAttended limit seat end frames number
