-- What the printed form of a document leaves out, and what becomes of it.
use Rattle.std.specs.Prelude.{◌≡◌, ℕ, Bool, true, false, not, ◌||◌, ◌++◌, List, [], codes, if◌then◌else◌, Result, Ok, Err}
use Rattle.std.specs.List.{flat_map, list_any}
use Rattle.std.specs.Str.{bytes_eq}
use Rattle.flag_defs.specs.Definition.{Definition}
use Rattle.flag_defs.specs.Document.{Definitions, flags_in, or_no_members}
use Rattle.flag_defs.specs.Flag.{is_broken}
use Rattle.flag_text.specs.Shape.{Shape, object, Members, no_members, member}
use Rattle.flag_text.specs.declared.fault.TextFault.{TextFault}
use Rattle.file_diagnostics.specs.Named.{Names, quoted}
use Rattle.kept_document.specs.Kept.{tree_as}
use Rattle.flagops_rollouts.specs.declared.refusal.RolloutRefusal.{RolloutRefusal}
use Rattle.flagops_rollouts.specs.declared.refusal.RolloutRefusal.TheVariants.{Omitted}

-- a printed definition has members of these names alone
abbrev pub is_printed : List ℕ → Bool
is_printed name = bytes_eq name (codes "state") || (bytes_eq name (codes "variants") || (bytes_eq name (codes "defaultVariant") || bytes_eq name (codes "targeting")))

-- one of these members of a definition is not printed
abbrev pub is_any_omitted : Members → Bool
is_any_omitted no_members = false
is_any_omitted (member k t ms) = not (is_printed k) || is_any_omitted ms

-- a definition has a member that is not printed; what is no object has none
abbrev pub is_cut : Shape → Bool
is_cut (object ms) = is_any_omitted ms
is_cut t = false

-- one of these definitions has
abbrev pub is_any_cut : Members → Bool
is_any_cut no_members = false
is_any_cut (member k t ms) = is_cut t || is_any_cut ms

-- a printed document has the member `flags` alone: the evaluators are written out where they are referred to
abbrev pub has_other : Members → Bool
has_other no_members = false
has_other (member k t ms) = not (bytes_eq k (codes "flags")) || has_other ms

abbrev pub is_beside_flags : Shape → Bool
is_beside_flags (object ms) = has_other ms
is_beside_flags t = false

-- a broken flag, which is printed as `{}`
abbrev pub is_any_broken : Definitions → Bool
is_any_broken flags = list_any (λ f. is_broken f.1) flags

-- members beside the flags, members of a definition, or what a broken flag has
abbrev pub omits : Shape → Definitions → Bool
omits t flags = is_beside_flags t || (is_any_cut (or_no_members (flags_in t)) || is_any_broken flags)

abbrev pub if_read : Result Shape TextFault → Definitions → Bool
if_read (Ok t) flags = omits t flags
if_read (Err e) flags = false

-- the bytes of a document, which may have floats or may not, and mean these flags, say something that the printed form of the flags does not
abbrev pub is_omitting : Bool → List ℕ → Definitions → Bool
is_omitting floats document flags = if_read (tree_as floats document) flags

-- whether a person is told of it; with `--strict` it is refused
abbrev pub settle_omitted : Bool → Bool → Result Bool RolloutRefusal
settle_omitted true true = Err Omitted
settle_omitted true false = Ok false
settle_omitted false omitting = Ok omitting

-- a line for each broken flag, by its key, in the order of the keys
abbrev pub broken_line : List ℕ → List ℕ
broken_line key = codes "  the flag " ++ (quoted key ++ codes " is broken, and is printed as {}\n")

abbrev pub flag_line : List ℕ × Definition → List ℕ
flag_line f = if is_broken f.1 then broken_line f.0 else []

abbrev pub broken_lines : Definitions → List ℕ
broken_lines flags = flat_map flag_line flags

-- lines on what is left out begin with the path of the document, and end with those of its broken flags
unfoldable pub TellsOmitted : List ℕ → Definitions → List ℕ → Type 0
TellsOmitted path flags lines = (front : List ℕ) × Names path front × (lines ≡ front ++ broken_lines flags)
