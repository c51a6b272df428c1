-- Sources of flags, each with the document that it last accepted, and what becomes of them.
use Rattle.std.specs.Prelude.{◌≡◌, ℕ, List, [], ◌∷◌, ◌++◌, length, map, Bool, if◌then◌else◌, nat_lt, is_some, MatchBool, Option, Some, None, option_map, Result, Ok, Err, String, string_bytes}
use Rattle.std.specs.Map.{lookup, set_value}
use Rattle.std.specs.Str.{bytes_eq}
use Rattle.std.specs.declared.alloc.Global.{Global}
use Rattle.limits.specs.Limits as limit
use Rattle.flag_defs.specs.Document.{Definitions, DocumentMeans}
use Rattle.flag_defs.specs.Flags.{flags_view}
use Rattle.flag_defs.specs.Floats.{MeansAs, MeansWithFloats}
use Rattle.flag_defs.specs.declared.fault.DefFault.{DefFault}
use Rattle.flag_defs.specs.declared.flags.Flags.{Flags}
use Rattle.source_merge.specs.declared.fault.SourceFault.{SourceFault}
use Rattle.source_merge.specs.declared.fault.SourceFault.TheVariants.{Known, TooMany, Unknown, Refused}

-- a name, with the flags of the document that was last accepted under it; None where there is no document
abbrev pub Source : Type 0
Source = List ℕ × Option Definitions

-- in the order in which they were added
abbrev pub SourceList : Type 0
SourceList = List Source

abbrev pub most_sources : ℕ
most_sources = limit.sources

abbrev pub is_source : List ℕ → SourceList → Bool
is_source name sources = is_some (lookup (bytes_eq name) sources)

-- one more source, the latest, without a document
abbrev pub added : SourceList → List ℕ → Result SourceList SourceFault
added sources name =
    if is_source name sources then Err Known else
    (if nat_lt (length sources) most_sources then Ok (sources ++ (name, None) ∷ []) else Err TooMany)

-- another document in the place of the last one of a source; the order stays
abbrev pub with_document : List ℕ → Option Definitions → SourceList → SourceList
with_document name document sources = set_value (bytes_eq name) sources document

-- a source without its document
abbrev pub cleared : SourceList → List ℕ → Result SourceList SourceFault
cleared sources name = if is_source name sources then Ok (with_document name None sources) else Err Unknown

-- a source with the document that was read; one that is refused leaves the last accepted one
abbrev pub with_read : SourceList → List ℕ → Result Definitions DefFault → Result SourceList SourceFault
with_read sources name (Ok flags) = Ok (with_document name (Some flags) sources)
with_read sources name (Err fault) = Err (Refused fault)

-- what setting the document of a source gives: an unknown name is refused before the document is read
abbrev pub SetsBy : (Result Definitions DefFault → Type 0) → SourceList → List ℕ → Result SourceList SourceFault → Type 0
SetsBy Means sources name after =
    MatchBool (is_source name sources) ((r : Result Definitions DefFault) × Means r × (after ≡ with_read sources name r)) (after ≡ Err Unknown)

abbrev pub Sets : SourceList → List ℕ → List ℕ → Result SourceList SourceFault → Type 0
Sets sources name bytes after = SetsBy (DocumentMeans bytes) sources name after

-- the same of a document with floats
abbrev pub SetsWithFloats : SourceList → List ℕ → List ℕ → Result SourceList SourceFault → Type 0
SetsWithFloats sources name bytes after = SetsBy (MeansWithFloats bytes) sources name after

-- the same of a document that may have floats, or may not
abbrev pub SetsAs : Bool → SourceList → List ℕ → List ℕ → Result SourceList SourceFault → Type 0
SetsAs floats sources name bytes after = SetsBy (MeansAs floats bytes) sources name after

-- ---- of the program

abbrev pub source_view : String Global × Option Flags → Source
source_view s = (string_bytes s.0, option_map flags_view s.1)

abbrev pub entries_view : List (String Global × Option Flags) → SourceList
entries_view ss = map source_view ss
