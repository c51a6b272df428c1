-- What bytes behind the last whole frame begin with.
use Rattle.std.specs.Prelude.{◌≡◌, ℕ, ◌+◌, ◌<◌, ◌≤◌, List, length}
use Rattle.sync_frames.specs.Frames.{HoldsFrame, ShowsLength, ShowsNotRising, length_in, number_in, max_length}
use Rattle.sync_frames.specs.declared.fault.FrameFault.TheVariants.{Length, NotRising}
use Rattle.sync_frames.specs.declared.header.Begun.{Begun}
use Rattle.sync_frames.specs.declared.header.Begun.TheVariants.{Part, Fault, Frame}
use Rattle.sync_frames.specs.declared.header.Header.{Header}

-- Less than a frame is there, and nothing is wrong with it.
pub record IsPart (last : ℕ) (rest : List ℕ) : Type 0 where
  pub low : 4 ≤ length rest → 8 ≤ length_in rest
  pub high : 4 ≤ length rest → length_in rest ≤ max_length
  pub rises : 12 ≤ length rest → last < number_in rest
  pub short : 4 ≤ length rest → length rest < 4 + length_in rest

-- a whole frame with this header
pub record IsHeader (last : ℕ) (rest : List ℕ) (h : Header) : Type 0 where
  pub frame : HoldsFrame last rest
  pub number : h.number ≡ number_in rest
  pub end : h.end ≡ 4 + length_in rest

abbrev pub Finds : ℕ → List ℕ → Begun → Type 0
Finds last rest Part = IsPart last rest
Finds last rest (Fault Length) = ShowsLength rest
Finds last rest (Fault NotRising) = ShowsNotRising last rest
Finds last rest (Fault fault) = ⊥
Finds last rest (Frame h) = IsHeader last rest h
