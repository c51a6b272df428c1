-- The flag document of a file.
use Rattle.std.specs.Prelude.{◌≡◌, ℕ, Bool, List, Result, Ok, Err}
use Rattle.flag_defs.specs.Document.{Definitions}
use Rattle.flag_defs.specs.Floats.{AreMarkedAs, Marks, MeansAs}
use Rattle.flag_defs.specs.declared.fault.DefFault.{DefFault}
use Rattle.flagops_shell.specs.Files.{Holding, load_of}
use Rattle.flagops_files.specs.Loading.{max_text}
use Rattle.flagops_files.specs.declared.refusal.Refusal.{Refusal}
use Rattle.flagops_files.specs.declared.refusal.Refusal.TheVariants.{Load, ReadFlags}
use Rattle.flagops_shell.specs.Outcomes.{refused_by}

-- what the bytes mean, which may have floats or may not
abbrev pub IsDocumentInAs : Bool → List ℕ → Result Definitions Refusal → Type 0
IsDocumentInAs floats bytes r = (meaning : Result Definitions DefFault) × MeansAs floats bytes meaning × (r ≡ refused_by ReadFlags meaning)

-- the same, where they were loaded
abbrev pub IsDocumentOfAs : Bool → Result (List ℕ) Refusal → Result Definitions Refusal → Type 0
IsDocumentOfAs floats (Err e) r = r ≡ Err e
IsDocumentOfAs floats (Ok bytes) r = IsDocumentInAs floats bytes r

-- the flags of the document at a path, which may have floats or may not, or why there are none
unfoldable pub IsDocumentAs : Bool → Holding → List ℕ → Result Definitions Refusal → Type 0
IsDocumentAs floats at path r = IsDocumentOfAs floats (refused_by Load (load_of at path max_text)) r

-- ---- with floats

-- flags, and which of them have floats
abbrev pub Marked : Type 0
Marked = Definitions × Marks

-- what the bytes mean, and which of their flags have floats
abbrev pub AreFlagsIn : Bool → List ℕ → Result Marked Refusal → Type 0
AreFlagsIn floats bytes (Ok flags) = MeansAs floats bytes (Ok flags.0) × AreMarkedAs floats bytes flags.0 flags.1
AreFlagsIn floats bytes (Err e) = (fault : DefFault) × MeansAs floats bytes (Err fault) × (e ≡ ReadFlags fault)

-- the same, where they were loaded
abbrev pub AreFlagsOf : Bool → Result (List ℕ) Refusal → Result Marked Refusal → Type 0
AreFlagsOf floats (Err e) r = r ≡ Err e
AreFlagsOf floats (Ok bytes) r = AreFlagsIn floats bytes r

-- the flags of the document at a path, and which of them have floats, or why there are none
unfoldable pub AreFlagsAt : Bool → Holding → List ℕ → Result Marked Refusal → Type 0
AreFlagsAt floats at path r = AreFlagsOf floats (refused_by Load (load_of at path max_text)) r
