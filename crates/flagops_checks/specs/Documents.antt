-- What is found of the documents at paths.
use Rattle.std.specs.Prelude.{◌≡◌, ℕ, Bool, List, [], ◌∷◌, Result, Ok, Err}
use Rattle.flag_defs.specs.Document.{Definitions}
use Rattle.flagops_checks.specs.Judged.{Checked, checked}
use Rattle.flagops_files.specs.Documents as files
use Rattle.flagops_files.specs.Documents.{IsDocumentInAs}
use Rattle.flagops_files.specs.declared.refusal.Refusal.{Refusal}
use Rattle.flagops_files.specs.declared.refusal.Refusal.TheVariants as file
use Rattle.flagops_shell.specs.Files.{Holding, load_of}
use Rattle.flagops_files.specs.Loading.{max_text}
use Rattle.flagops_shell.specs.Outcomes.{◌>>=◌, Lifts, refused_by}
use Rattle.flagops_checks.specs.declared.refusal.CheckRefusal.{CheckRefusal}
use Rattle.flagops_checks.specs.declared.refusal.CheckRefusal.TheVariants.{Load}

-- the flags of the document at a path, which may have floats or may not, or why there are none
unfoldable pub IsDocumentAt : Bool → Holding → List ℕ → Result Definitions CheckRefusal → Type 0
IsDocumentAt floats at path r = Lifts Load (files.IsDocumentAs floats at path) r

-- what is found of the bytes that were loaded from a path, or why they are no document
abbrev pub IsCheckedOf : Bool → List ℕ → Result (List ℕ) Refusal → Result Checked CheckRefusal → Type 0
IsCheckedOf floats path (Err e) r = r ≡ Err (Load e)
IsCheckedOf floats path (Ok bytes) r = (document : Result Definitions Refusal) × IsDocumentInAs floats bytes document × (r ≡ (refused_by Load document >>= λ flags. Ok (checked floats path bytes flags)))

unfoldable pub IsCheckedAt : Bool → Holding → List ℕ → Result Checked CheckRefusal → Type 0
IsCheckedAt floats at path r = IsCheckedOf floats path (refused_by file.Load (load_of at path max_text)) r

-- a document, and then the others, or the first refusal
abbrev pub IsWithOthers : (Result (List Checked) CheckRefusal → Type 0) → Result Checked CheckRefusal → Result (List Checked) CheckRefusal → Type 0
IsWithOthers Others (Err e) r = r ≡ Err e
IsWithOthers Others (Ok c) r = (others : Result (List Checked) CheckRefusal) × Others others × (r ≡ (others >>= λ cs. Ok (c ∷ cs)))

-- what is found of the documents at these paths, each read before the next, or the first refusal
unfoldable pub AreChecked : Bool → Holding → List (List ℕ) → Result (List Checked) CheckRefusal → Type 0
AreChecked floats at [] r = r ≡ Ok []
AreChecked floats at (path ∷ paths) r = (first : Result Checked CheckRefusal) × IsCheckedAt floats at path first × IsWithOthers (AreChecked floats at paths) first r
