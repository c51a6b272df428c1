-- The merge of sources: key by key the whole entry of the latest added source that has it.
use Rattle.std.specs.Prelude.{◌≡◌, ℕ, List, [], ◌∷◌, ◌++◌, Option, None, unwrap_or, Result, Ok, Err}
use Rattle.std.specs.Option.{option_or}
use Rattle.std.specs.Cmp.Lexicographic.{slice_cmp}
use Rattle.std.specs.List.{AllByRecursion}
use Rattle.std.specs.List.Sorted.{IsStrictlySortedBy}
use Rattle.std.specs.Map.{keys_of, lookup}
use Rattle.std.specs.Ordering.{nat_cmp}
use Rattle.std.specs.Str.{bytes_eq}
use Rattle.flag_defs.specs.Changes.{by_key}
use Rattle.flag_defs.specs.Definition.{Definition}
use Rattle.flag_defs.specs.Document.{Definitions, limited}
use Rattle.flag_defs.specs.declared.fault.DefFault.{DefFault}
use Rattle.source_merge.specs.Fault.{of_flags}
use Rattle.source_merge.specs.Sources.{Source, SourceList}
use Rattle.source_merge.specs.declared.fault.SourceFault.{SourceFault}

-- the entries of a source, none where it has no document
abbrev pub entries_of : Source → Definitions
entries_of s = unwrap_or s.1 []

-- the entry of the latest added source that has the key
abbrev pub latest : List ℕ → SourceList → Option Definition
latest key [] = None
latest key (s ∷ ss) = option_or (latest key ss) (lookup (bytes_eq key) (entries_of s))

-- the keys rise strictly as bytes
abbrev pub Rise : Definitions → Type 0
Rise fs = IsStrictlySortedBy (slice_cmp nat_cmp) (keys_of fs)

-- the keys of each document rise, as those of `Flags` do
abbrev pub HaveRisingKeys : SourceList → Type 0
HaveRisingKeys sources = AllByRecursion (λ (s : Source). Rise (entries_of s)) sources

-- these are the merge: their keys rise, and each key has the latest entry
pub record IsMerge (sources : SourceList) (fs : Definitions) : Type 0 where
  pub rising : Rise fs
  pub each : (key : List ℕ) → lookup (bytes_eq key) fs ≡ latest key sources

-- the entries of all sources, the latest source last
abbrev pub all_entries : SourceList → Definitions
all_entries [] = []
all_entries (s ∷ ss) = entries_of s ++ all_entries ss

-- the merge: of one key the last entry counts
unfoldable pub merge : SourceList → Definitions
merge sources = by_key (all_entries sources)

-- flags within their limits, or TooLarge
abbrev pub flags_or_fault : Result Definitions DefFault → Result Definitions SourceFault
flags_or_fault (Ok fs) = Ok fs
flags_or_fault (Err fault) = Err (of_flags fault)

-- the merge within the limits of flags
abbrev pub merged_of : SourceList → Result Definitions SourceFault
merged_of sources = flags_or_fault (limited (merge sources))

-- the merge has at each key the latest entry
abbrev pub HasLatestEntries : Type 0
HasLatestEntries = (sources : SourceList) → HaveRisingKeys sources → IsMerge sources (merge sources)
