-- Which flags of a merge have floats: those whose entry of the latest added source has them.
use Rattle.std.specs.Prelude.{◌≡◌, ℕ, List, [], ◌∷◌, ◌++◌, map, Bool, true, false, Option, Some, Ok, option_map, unwrap_or, String, string_bytes}
use Rattle.std.specs.BTreeMap.{insert_entry}
use Rattle.std.specs.Cmp.Lexicographic.{slice_cmp}
use Rattle.std.specs.Map.{set_value}
use Rattle.std.specs.Ordering.{nat_cmp}
use Rattle.std.specs.Str.{bytes_eq}
use Rattle.std.specs.declared.alloc.Global.{Global}
use Rattle.spelled_numbers.specs.Marks.{marks_of_text}
use Rattle.flag_defs.specs.Document.{Definitions}
use Rattle.flag_defs.specs.Floats.{Marks, MeansWithFloats, are_unmarked, floats_view, marked, marks_by_key}
use Rattle.flag_defs.specs.declared.flags.Flags.{Flags}
use Rattle.source_merge.specs.declared.sources.Sources.{Sources}

-- a source's name, with whether each flag of its document has floats; None where there is no document
abbrev pub MarkedSource : Type 0
MarkedSource = List ℕ × Option Marks

-- those of all sources, the latest source last
abbrev pub all_marks : List MarkedSource → Marks
all_marks [] = []
all_marks (s ∷ ss) = unwrap_or s.1 [] ++ all_marks ss

-- another document in the place of the last one of a source
abbrev pub with_marks : List ℕ → Option Marks → List MarkedSource → List MarkedSource
with_marks name marks sources = set_value (bytes_eq name) sources marks

-- a source has the flags that were read of a document with floats
abbrev pub IsMarkedBy : List ℕ → List ℕ → List MarkedSource → List MarkedSource → Type 0
IsMarkedBy name bytes before after = (fs : Definitions) × MeansWithFloats bytes (Ok fs) × (after ≡ with_marks name (Some (marked (marks_of_text bytes) fs)) before)

-- a source has flags without floats
abbrev pub IsUnmarked : List ℕ → List MarkedSource → List MarkedSource → Type 0
IsUnmarked name before after = (ms : Marks) × (are_unmarked ms ≡ true) × (after ≡ with_marks name (Some ms) before)

-- a source has the flags of a document that may have floats, or may not
abbrev pub IsMarkedAs : Bool → List ℕ → List ℕ → List MarkedSource → List MarkedSource → Type 0
IsMarkedAs true name bytes before after = IsMarkedBy name bytes before after
IsMarkedAs false name bytes before after = IsUnmarked name before after

-- the marks with one more: of a key that is there already the new one counts
abbrev pub with_mark : Marks → List ℕ × Bool → Marks
with_mark ms m = insert_entry (slice_cmp nat_cmp) ms m.0 m.1

-- those of the merge: of one key the last counts
abbrev pub merged_marks : List MarkedSource → Marks
merged_marks ss = marks_by_key (all_marks ss)

-- ---- of the program

abbrev pub source_floats : String Global × Option Flags → MarkedSource
source_floats s = (string_bytes s.0, option_map floats_view s.1)

abbrev pub entries_floats : List (String Global × Option Flags) → List MarkedSource
entries_floats ss = map source_floats ss

abbrev pub sources_floats : Sources → List MarkedSource
sources_floats s = entries_floats s.documents.entries
