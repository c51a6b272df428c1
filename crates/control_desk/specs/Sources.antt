-- What is known of the documents of a snapshot beside their flags.
use Rattle.std.specs.Prelude.{◌≡◌, ◌<◌, ℕ, List, length, Option, Some, None, Result, Ok, Err}
use Rattle.flag_defs.specs.Flags.{flags_view}
use Rattle.flag_defs.specs.Floats.{MeansWithFloats}
use Rattle.flag_defs.specs.declared.flags.Flags.{Flags}
use Rattle.snap_share.specs.Known.{last_of}
use Rattle.control_desk.specs.declared.sources.Absent.{Absent}
use Rattle.control_desk.specs.declared.sources.Absent.TheVariants.{WantOfMemory, Unset, Outdated}

-- the flags that were published up to those of the snapshot, the text of its document, and what a person is told of its broken flags
pub record Source : Type 0 where
  pub published : List Flags
  pub document : List ℕ
  pub remarks : List ℕ

-- a document that means the flags which were published last
abbrev pub IsDocumentOf : List Flags → List ℕ → Type 0
IsDocumentOf published document = (flags : Flags) × (last_of published ≡ Some flags) × MeansWithFloats document (Ok (flags_view flags))

-- by what was set last: nothing is set yet of the snapshot of a number, or a later one was published
abbrev pub IsAbsentBy : Absent → ℕ → Option Source → Type 0
IsAbsentBy WantOfMemory number last = Unit {0}
IsAbsentBy Unset number None = Unit {0}
IsAbsentBy Unset number (Some text) = length text.published < number
IsAbsentBy Outdated number None = ⊥
IsAbsentBy Outdated number (Some text) = number < length text.published

abbrev pub IsAbsent : {X : Type 0} → Option Source → ℕ → Result X Absent → Type 0
IsAbsent last number (Ok found) = Unit {0}
IsAbsent last number (Err absent) = IsAbsentBy absent number last
