-- What comes out of a stream of frames, beside what was framed.
use Rattle.std.specs.Prelude.{◌≡◌, ℕ, ◌++◌, ◌==◌, List, [], ◌∷◌, if◌then◌else◌, Option, Some, None}
use Rattle.std.specs.List.{All}
use Rattle.sync_frames.specs.Snapshots.{Numbered}
use Rattle.sync_frames.specs.Frames.{IsDocumentOf, Reads, frame_of}

-- the bytes are the joined frames of these numbered flags, whatever the order of their numbers
abbrev pub AreFramesOf : List Numbered → List ℕ → Type 0
AreFramesOf [] b = b ≡ []
AreFramesOf (s ∷ ss) b = (d : List ℕ) × (rest : List ℕ) × (b ≡ frame_of s.number d ++ rest) × IsDocumentOf s d × AreFramesOf ss rest

-- the first that was sent with this number
abbrev pub first_sent : ℕ → List Numbered → Option Numbered
first_sent n [] = None
first_sent n (s ∷ ss) = if n == s.number then Some s else first_sent n ss

abbrev pub IsFirstSent : List Numbered → Numbered → Type 0
IsFirstSent sent s = first_sent s.number sent ≡ Some s

-- Whatever part of the frames has come, each snapshot that comes out is the first that was framed with its number: it has the same flags, of which the same have floats.
abbrev pub GivesWhatWasSent : Type 0
GivesWhatWasSent =
    (sent : List Numbered) (stream later : List ℕ) → AreFramesOf sent (stream ++ later)
    → (ss : List Numbered) (rest : List ℕ) → Reads stream ss rest → All (IsFirstSent sent) ss
