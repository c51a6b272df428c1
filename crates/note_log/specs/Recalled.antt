-- Lines that were read of a file and are remembered.
use Rattle.std.specs.Prelude.{◌≡◌, ◌≤◌, ◌+◌, ℕ, List, [], ◌∷◌, ◌++◌, length, Contains, Vec, nat_eq}
use Rattle.std.specs.List.{flat_map}
use Rattle.std.specs.Cmp.Lexicographic.{pointwise}
use Rattle.std.specs.declared.alloc.Global.{Global}
use Rattle.lru.specs.LruCache.{LruCache, put_entries}
use Rattle.byte_streams.specs.Lines.{HasNoFeed}
use Rattle.log_file.specs.Line.{EndsLine, lines_in}
use Rattle.note_log.specs.Files.{History}
use Rattle.note_log.specs.Line.{HasLine}
use Rattle.note_log.specs.Memory.{AllStand, Remembered, StandsAt}

-- a text and its line feed
abbrev pub IsOneLine : List ℕ → Type 0
IsOneLine line = (text : List ℕ) × HasNoFeed text × (line ≡ text ++ 10 ∷ [])

abbrev pub joined : List (List ℕ) → List ℕ
joined lines = flat_map (λ line. line) lines

-- the line is remembered, of the file of this number
abbrev pub Recalled : ℕ → Remembered → List ℕ → Type 0
Recalled number remembered line = (e : Vec ℕ Global × ℕ) × Contains remembered e × (e.0.items ≡ line) × (e.1 ≡ number)

abbrev pub AllRecalled : ℕ → Remembered → List (List ℕ) → Type 0
AllRecalled number remembered lines = (line : List ℕ) → Contains lines line → Recalled number remembered line

-- the bytes are lines one after the other, and each of them is remembered, of the file of this number
pub record Recalls (bytes : List ℕ) (number : ℕ) (remembered : Remembered) : Type 0 where
  pub lines : List (List ℕ)
  pub parts : bytes ≡ joined lines
  pub each : (line : List ℕ) → Contains lines line → IsOneLine line
  pub all : AllRecalled number remembered lines

-- ---- in private contracts alone

-- each line that stands in the bytes stands in what the file of this number was handed
abbrev pub EachStandsAt : History → ℕ → List ℕ → Type 0
EachStandsAt history number bytes = (line : List ℕ) → HasLine line bytes → StandsAt history number line

-- the line was put into the table, of the file of this number
abbrev pub Puts : List ℕ → ℕ → LruCache (Vec ℕ Global) ℕ → Remembered → Type 0
Puts line number old new = (key : Vec ℕ Global) × (key.items ≡ line) × (new ≡ put_entries (λ a b. pointwise nat_eq a.items b.items) old key number)

-- so it is for the lines before the rest, where a table of so many that remembered these before has room for them
pub record RecallsFirst (bytes rest : List ℕ) (number cap : ℕ) (before remembered : Remembered) : Type 0 where
  pub lines : List (List ℕ)
  pub parts : bytes ≡ joined lines ++ rest
  pub ends : EndsLine (joined lines)
  pub count : lines_in (joined lines) ≡ length lines
  pub each : (line : List ℕ) → Contains lines line → IsOneLine line
  pub few : length remembered ≤ length before + length lines
  pub stand : (history : History) → AllStand history before → EachStandsAt history number bytes → AllStand history remembered
  pub all : length before + length lines ≤ cap → AllRecalled number remembered lines
