-- A stream that is served by the numbers of a board, from a seat that learns.
use Rattle.std.proofs.Common.{◌≡◌, ℕ, List, [], ◌∷◌, Option, ap, inl, inr, refl, subst, sym}
use Rattle.sync_frames.specs.Snapshots.{Numbered}
use Rattle.snap_share.specs.Known.{Seat, WasRead}
use Rattle.sync_server.specs.Served.{Serves, TurnedTo}
use Rattle.sync_server.specs.Turns.{Turned, raised}
use Rattle.sync_server.specs.declared.end.StreamEnd.{StreamEnd}
use Rattle.sync_server.specs.declared.end.StreamEnd.TheVariants.{Closed, Limit, WriteFault, ReadSeatFault, WantOfMemory}
use Rattle.flagops_streams.specs.Ending.{EndedAs}
use Rattle.flagops_streams.specs.Sent.{AsksAbove, IsEnd, WasAttended}

-- what is asked for is kept as a number, and what is read as a seat
module _ {X C : Type 0} (number : X → ℕ) (seat : C → Seat) where
  abbrev Asks : X → ℕ → X → Type 0
  Asks x after y = number y ≡ after

  abbrev Reads : C → Option Numbered → C → Type 0
  Reads c s d = WasRead (seat c) s (seat d)

  turned : (last : ℕ) (x : X) (c : C) (read : List Numbered) (y : X) (d : C) → Turned Asks Reads last x c read y d → Turned AsksAbove WasRead last (number x) (seat c) read (number y) (seat d)
  turned last x c [] y d (same, kept) = (ap number same, ap seat kept)
  turned last x c (s ∷ ss) y d (z, e, asks, reads, rest) = (number z, seat e, asks, reads, turned (raised last s) z e ss y d rest)

  turned_to : (x y : X) (c d : C) (read : List Numbered) (limit : ℕ) (end : StreamEnd) (more : Option Numbered)
      → TurnedTo Asks Reads x c read y d limit end more → TurnedTo AsksAbove WasRead (number x) (seat c) read (number y) (seat d) limit end more
  turned_to x y c d read limit Limit more (turns, all) = (turned 0 x c read y d turns, all)
  turned_to x y c d read limit Closed more (z, turns, asks, few) = (number z, turned 0 x c read z d turns, asks, few)
  turned_to x y c d read limit WriteFault more (z, e, turns, asks, reads, few) = (number z, seat e, turned 0 x c read z e turns, asks, reads, few)
  turned_to x y c d read limit ReadSeatFault more (z, e, turns, asks, reads, few) = (number z, seat e, turned 0 x c read z e turns, asks, reads, few)
  turned_to x y c d read limit WantOfMemory more (z, e, turns, asks, reads, few) = (number z, seat e, turned 0 x c read z e turns, asks, reads, few)

  pub served : (x y : X) (c d : C) (limit count : ℕ) (known : List Numbered) (before after : Option (List ℕ)) (end : StreamEnd) → number x ≡ 0
      → Serves Asks Reads x y c d limit known before after count end → Serves AsksAbove WasRead 0 (number y) (seat c) (seat d) limit known before after count end
  served x y c d limit count known before after end first (read, more, ended, turns) =
      (read, more, ended, subst (λ (n : ℕ). TurnedTo AsksAbove WasRead n (seat c) read (number y) (seat d) limit end more) first (turned_to x y c d read limit end more turns))

-- a stream whose connection failed
pub failed : (limit : ℕ) (seat : Seat) (frames number : ℕ) → ∥ IsEnd limit WriteFault frames number ∥₁
failed limit seat frames number = ∣ (seat, inl refl) ∣₁

-- a stream that was served, once its connection is closed
pub parted : (limit : ℕ) (seat : Seat) (before after : StreamEnd) (frames number : ℕ) → EndedAs before after → WasAttended limit seat before frames number → WasAttended limit seat after frames number
parted limit seat before after frames number (inl same) was = subst (λ (end : StreamEnd). WasAttended limit seat end frames number) (sym same) was
parted limit seat before after frames number (inr (closed, fault)) was = inl fault
