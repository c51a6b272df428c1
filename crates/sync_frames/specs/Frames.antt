-- Frames of numbered flags, and what a stream of them means.
use Rattle.std.specs.Prelude.{◌≡◌, ℕ, ◌+◌, ◌-◌, ◌<◌, ◌≤◌, ◌^◌, ◌⊎◌, List, [], ◌∷◌, ◌++◌, length, take, drop, Err}
use Rattle.std.specs.Int.{w32, w64, to_be_bytes, from_be_bytes}
use Rattle.limits.specs.Limits.{text_bytes}
use Rattle.flag_defs.specs.Floats.{MeansFlags, MeansWithFloats}
use Rattle.flag_defs.specs.declared.fault.DefFault.{DefFault}
use Rattle.sync_frames.specs.Snapshots.{Numbered}
use Rattle.sync_frames.specs.declared.fault.FrameFault.{FrameFault}
use Rattle.sync_frames.specs.declared.fault.FrameFault.TheVariants.{Length, NotRising, Document}

-- the most that the length of a frame may say: a number's 8 bytes and the longest document
abbrev pub max_length : ℕ
max_length = 8 + text_bytes

-- The frame of a numbered document: how many bytes follow, in 4 bytes, the number in 8, and the document. Both numbers have their high byte first.
unfoldable pub frame_of : ℕ → List ℕ → List ℕ
frame_of n d = to_be_bytes w32 (8 + length d) ++ (to_be_bytes w64 n ++ d)

-- The document may stand in a frame under the number of s, and means the flags of s, with the same of them marked.
pub record IsDocumentOf (s : Numbered) (d : List ℕ) : Type 0 where
  pub fits : s.number < 2 ^ 64
  pub small : 8 + length d ≤ max_length
  pub means : MeansFlags d s.flags s.floats

-- The bytes are joined frames, whose numbers rise strictly from above `last`, of documents that mean these numbered flags.
abbrev pub Frames : ℕ → List Numbered → List ℕ → Type 0
Frames last [] b = b ≡ []
Frames last (s ∷ ss) b = (d : List ℕ) × (rest : List ℕ) × (b ≡ frame_of s.number d ++ rest) × (last < s.number) × IsDocumentOf s d × Frames s.number ss rest

-- the number of the last of them, or else `last`
abbrev pub last_number : ℕ → List Numbered → ℕ
last_number last [] = last
last_number last (s ∷ ss) = last_number s.number ss

-- A stream is one front, the frames of as many numbered flags as can be, and a rest.
pub record Reads (stream : List ℕ) (ss : List Numbered) (rest : List ℕ) : Type 0 where
  pub front : List ℕ
  pub whole : stream ≡ front ++ rest
  pub frames : Frames 0 ss front
  pub longest : (ts : List Numbered) (b r : List ℕ) → stream ≡ b ++ r → Frames 0 ts b → length ts ≤ length ss

-- ---- the rest

-- what the first 4 bytes say: how many bytes follow
unfoldable pub length_in : List ℕ → ℕ
length_in rest = from_be_bytes w32 (take 4 rest)

-- the number in the 8 bytes behind them
unfoldable pub number_in : List ℕ → ℕ
number_in rest = from_be_bytes w64 (take 8 (drop 4 rest))

abbrev pub document_in : List ℕ → List ℕ
document_in rest = take (length_in rest - 8) (drop 12 rest)

-- With 4 bytes a length is there that no frame has.
pub record ShowsLength (rest : List ℕ) : Type 0 where
  pub there : 4 ≤ length rest
  pub wrong : (length_in rest < 8) ⊎ (max_length < length_in rest)

-- With 12 bytes a number is there that is not above the last one; the length is right.
pub record ShowsNotRising (last : ℕ) (rest : List ℕ) : Type 0 where
  pub there : 12 ≤ length rest
  pub low : 8 ≤ length_in rest
  pub high : length_in rest ≤ max_length
  pub stays : number_in rest ≤ last

-- A frame of a right length and number is whole.
pub record HoldsFrame (last : ℕ) (rest : List ℕ) : Type 0 where
  pub there : 4 + length_in rest ≤ length rest
  pub low : 8 ≤ length_in rest
  pub high : length_in rest ≤ max_length
  pub rises : last < number_in rest

-- A frame is whole whose document is refused.
pub record ShowsDocument (last : ℕ) (rest : List ℕ) : Type 0 where
  pub frame : HoldsFrame last rest
  pub fault : DefFault
  pub refused : MeansWithFloats (document_in rest) (Err fault)

-- what is wrong with a rest behind the number `last`
abbrev pub Shows : ℕ → List ℕ → FrameFault → Type 0
Shows last rest Length = ShowsLength rest
Shows last rest NotRising = ShowsNotRising last rest
Shows last rest Document = ShowsDocument last rest
Shows last rest fault = ⊥

-- ---- of a whole stream

-- the numbered flags that came whole since the stream was shorter
abbrev pub Gains : List ℕ → List ℕ → List Numbered → Type 0
Gains before now new = (old : List Numbered) × (r : List ℕ) × (q : List ℕ) × Reads before old r × Reads now (old ++ new) q

abbrev pub ShowsFault : List ℕ → FrameFault → Type 0
ShowsFault stream fault = (ss : List Numbered) × (rest : List ℕ) × Reads stream ss rest × Shows (last_number 0 ss) rest fault

abbrev pub ShowsNothing : List ℕ → Type 0
ShowsNothing stream = (ss : List Numbered) × (rest : List ℕ) × Reads stream ss rest × ((fault : FrameFault) → Shows (last_number 0 ss) rest fault → ⊥)

-- nothing is left behind the last frame
abbrev pub IsDone : List ℕ → Type 0
IsDone stream = (ss : List Numbered) × Reads stream ss []
