-- The frame that a snapshot is sent as.
use Rattle.std.specs.Prelude.{◌≡◌, ℕ, List}
use Rattle.flag_defs.specs.Spelled.{printed_with_floats}
use Rattle.sync_frames.specs.Snapshots.{Numbered}
use Rattle.sync_frames.specs.Frames.{IsDocumentOf, frame_of}

-- The bytes are the frame of the snapshot's number and of its flags as they are printed, which reads back as the snapshot.
pub record IsFrameOf (s : Numbered) (bytes : List ℕ) : Type 0 where
  pub whole : bytes ≡ frame_of s.number (printed_with_floats s.flags s.floats)
  pub is_document : IsDocumentOf s (printed_with_floats s.flags s.floats)
