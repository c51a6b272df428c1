-- Which flags have floats: the values of their variants stand as texts, which are their spelling (`spelled_numbers`).
use denote.Ref.{Bor}
use Rattle.std.specs.Prelude.{◌≡◌, ℕ, List, [], map, slice_index, Bool, true, false, not, ◌&&◌, ◌==◌, if◌then◌else◌, Option, Some, None, option_and_then, unwrap_or, Result, Ok, String, string_bytes}
use Rattle.std.specs.BTreeMap.{insert_entry}
use Rattle.std.specs.Cmp.Lexicographic.{slice_cmp}
use Rattle.std.specs.List.{fold, list_all}
use Rattle.std.specs.Map.{lookup}
use Rattle.std.specs.Ordering.{nat_cmp}
use Rattle.std.specs.Str.{bytes_eq}
use Rattle.std.specs.declared.alloc.Global.{Global}
use Rattle.flag_text.specs.Shape.{Shape, text, Members, no_members, member}
use Rattle.spelled_numbers.specs.Marks.{marks_of_text}
use Rattle.spelled_numbers.specs.Reading.{doc_with_floats}
use Rattle.flag_defs.specs.Definition.{Definition}
use Rattle.flag_defs.specs.Document.{Definitions, DocumentMeans, TextMeans, max_bytes}
use Rattle.flag_defs.specs.Flag.{is_broken, variants_in}
use Rattle.flag_defs.specs.Flags.{flags_view}
use Rattle.flag_defs.specs.declared.fault.DefFault.{DefFault}
use Rattle.flag_defs.specs.declared.flag.Flag.{Flag}
use Rattle.flag_defs.specs.declared.flags.Flags.{Flags}
use Rattle.flag_defs.specs.declared.kind.Kind.{Kind}
use Rattle.flag_defs.specs.declared.kind.Kind.TheVariants as kind
use Rattle.flag_defs.specs.declared.rules.Rules as program

-- the flags of a document with floats, or its refusal
abbrev pub MeansWithFloats : List ℕ → Result Definitions DefFault → Type 0
MeansWithFloats bytes r = TextMeans (doc_with_floats bytes max_bytes) r

-- the same of a document that may have floats, or may not
abbrev pub MeansAs : Bool → List ℕ → Result Definitions DefFault → Type 0
MeansAs true bytes r = MeansWithFloats bytes r
MeansAs false bytes r = DocumentMeans bytes r

-- ---- marks

-- whether flags have floats, by their keys
abbrev pub Marks : Type 0
Marks = List (List ℕ × Bool)

-- what the last mark of this key says
abbrev pub mark_of : List ℕ → Marks → Bool
mark_of key ms = fold (λ found m. if bytes_eq m.0 key then m.1 else found) false ms

-- a flag has what this says, a broken one no floats
abbrev pub marked_with : Definition → Bool → Bool
marked_with d floats = not (is_broken d) && floats

abbrev pub marked_entry : Marks → List ℕ × Definition → List ℕ × Bool
marked_entry ms f = (f.0, marked_with f.1 (mark_of f.0 ms))

-- each flag has what the last mark of its key says
abbrev pub marked : Marks → Definitions → Marks
marked ms fs = map (marked_entry ms) fs

-- no flag has floats
abbrev pub are_unmarked : Marks → Bool
are_unmarked ms = list_all (λ m. not m.1) ms

-- the map of a list, in the order of its keys: of one key the last mark counts
abbrev pub marks_by_key : Marks → Marks
marks_by_key ms = fold (λ found m. insert_entry (slice_cmp nat_cmp) found m.0 m.1) [] ms

-- the document means these flags, of which these have floats
abbrev pub MeansFlags : List ℕ → Definitions → Marks → Type 0
MeansFlags bytes fs ms = MeansWithFloats bytes (Ok fs) × (marked (marks_of_text bytes) fs ≡ ms)

-- which of the flags of a document have floats that may have some, or may not
abbrev pub AreMarkedAs : Bool → List ℕ → Definitions → Marks → Type 0
AreMarkedAs true bytes fs ms = ms ≡ marked (marks_of_text bytes) fs
AreMarkedAs false bytes fs ms = are_unmarked ms ≡ true

-- ---- kinds

-- it is the text of an object
abbrev pub is_of_object : Shape → Bool
is_of_object (text s) = slice_index s 0 == 123
is_of_object t = false

-- the value of the first variant is an object; all are of one kind
abbrev pub are_of_objects : Members → Bool
are_of_objects no_members = false
are_of_objects (member k t ms) = is_of_object t

-- the kind of a flag with floats
abbrev pub floats_kind : Definition → Bool → Option Kind
floats_kind d floats = if floats then Some (if are_of_objects (variants_in d) then kind.Object else kind.Float) else None

-- that of the flag of this key
abbrev pub floats_at : List ℕ → Definitions → Marks → Option Kind
floats_at key fs ms = option_and_then (λ d. floats_kind d (unwrap_or (lookup (bytes_eq key) ms) false)) (lookup (bytes_eq key) fs)

-- ---- of the program

abbrev pub floats_in : Option program.Rules → Bool
floats_in None = false
floats_in (Some r) = r.has_floats

-- whether a flag has floats
abbrev pub floats_of : Flag → Bool
floats_of f = floats_in f.rules

abbrev pub entry_floats : String Global × Flag → List ℕ × Bool
entry_floats e = (string_bytes e.0, floats_of e.1)

-- which of these flags have them, by their keys
abbrev pub entries_floats : List (String Global × Flag) → Marks
entries_floats es = map entry_floats es

abbrev pub lent_floats : List (Bor (List ℕ) × Bor Flag) → Marks
lent_floats es = map (λ e. (e.0.now, floats_of e.1.now)) es

abbrev pub floats_view : Flags → Marks
floats_view fs = entries_floats fs.flags.items

-- flags, and which of them have floats
abbrev pub marked_view : Flags → Definitions × Marks
marked_view fs = (flags_view fs, floats_view fs)
