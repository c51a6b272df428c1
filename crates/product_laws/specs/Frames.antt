-- What a frame carries whose document has whole numbers alone.
use Rattle.std.specs.Prelude.{◌≡◌, ◌↔◌, ◌+◌, ◌<◌, ◌≤◌, ◌^◌, ℕ, List, [], length, true, Ok, Err}
use Rattle.flag_defs.specs.Document.{DocumentMeans, printed}
use Rattle.flag_defs.specs.Floats.{MeansWithFloats, are_unmarked, marked}
use Rattle.flag_defs.specs.declared.fault.DefFault.{DefFault}
use Rattle.sync_frames.specs.Framed.{IsFrameOf}
use Rattle.sync_frames.specs.Frames.{IsDocumentOf, frame_of, max_length}
use Rattle.sync_frames.specs.Snapshots.{Numbered}
use Rattle.product_laws.specs.FloatWhole.{IsWholeText}

-- The document may stand in a frame under the number of s, and means the flags of s without floats.
pub record IsPlainDocumentOf (s : Numbered) (d : List ℕ) : Type 0 where
  pub fits : s.number < 2 ^ 64
  pub small : 8 + length d ≤ max_length
  pub means : DocumentMeans d (Ok s.flags)
  pub plain : s.floats ≡ marked [] s.flags

-- Such a document carries what it would carry if frames were read without floats, and nothing else.
abbrev pub FramesStay : Type 0
FramesStay = (s : Numbered) (d : List ℕ) → IsWholeText d → (IsDocumentOf s d ↔ IsPlainDocumentOf s d)

-- It is refused alike.
abbrev pub RefusalsStay : Type 0
RefusalsStay = (d : List ℕ) (fault : DefFault) → IsWholeText d → (MeansWithFloats d (Err fault) ↔ DocumentMeans d (Err fault))

-- The frame of flags of which none has floats has their document as it is printed without floats.
abbrev pub PlainFlagsAreFramed : Type 0
PlainFlagsAreFramed = (s : Numbered) (bytes : List ℕ) → are_unmarked s.floats ≡ true → IsFrameOf s bytes → bytes ≡ frame_of s.number (printed s.flags)
