-- Both documents and what was recorded, each loaded and read before the next.
use Rattle.std.specs.Prelude.{◌≡◌, ℕ, Bool, List, [], ◌∷◌, Result, Ok, Err}
use Rattle.flag_defs.specs.Document.{Definitions}
use Rattle.flag_defs.specs.Flags.{flags_view}
use Rattle.flagops_compare.specs.declared.loading.Loaded as program
use Rattle.flagops_files.specs.Documents.{IsDocumentAs}
use Rattle.flagops_files.specs.Question.{IsEvidenceAt}
use Rattle.flagops_files.specs.Refusal.{Attempts}
use Rattle.flagops_files.specs.Told.{attempt, file}
use Rattle.flagops_files.specs.declared.evidence.Evidence.{Evidence}
use Rattle.flagops_files.specs.declared.refusal.Refusal.{Refusal}
use Rattle.flagops_shell.specs.Files.{Holding}
use Rattle.flagops_shell.specs.Outcomes.{◌>>=◌}

-- the flags before the edit and after it, and the book or the tally
pub record Loaded : Type 0 where
  pub old : Definitions
  pub new : Definitions
  pub evidence : Evidence

abbrev pub loaded_view : program.Loaded → Loaded
loaded_view l = record { old = flags_view l.old; new = flags_view l.new; evidence = l.evidence }

abbrev pub loaded_of : Definitions → Definitions → Result Evidence Refusal → Result Loaded Refusal
loaded_of old new evidence = evidence >>= λ e. Ok (record { old = old; new = new; evidence = e })

abbrev pub IsWithNew : Holding → Definitions → Result Definitions Refusal → List ℕ → Result Loaded Refusal → Type 0
IsWithNew at old (Err e) book r = r ≡ Err e
IsWithNew at old (Ok new) book r = (evidence : Result Evidence Refusal) × IsEvidenceAt at book evidence × (r ≡ loaded_of old new evidence)

abbrev pub IsWithOld : Bool → Holding → Result Definitions Refusal → List ℕ → List ℕ → Result Loaded Refusal → Type 0
IsWithOld floats at (Err e) new book r = r ≡ Err e
IsWithOld floats at (Ok old) new book r = (document : Result Definitions Refusal) × IsDocumentAs floats at new document × IsWithNew at old document book r

-- what the files at these paths are, of which the documents may have floats or may not, or the first refusal
unfoldable pub IsLoadedAt : Bool → Holding → List ℕ → List ℕ → List ℕ → Result Loaded Refusal → Type 0
IsLoadedAt floats at old new book r = (document : Result Definitions Refusal) × IsDocumentAs floats at old document × IsWithOld floats at document new book r

-- the files in the order in which they are read, each before the next
abbrev pub compare_attempts : Bool → Holding → List ℕ → List ℕ → List ℕ → Attempts
compare_attempts floats at old new book = attempt (file old) (IsDocumentAs floats at old) ∷ attempt (file new) (IsDocumentAs floats at new) ∷ attempt (file book) (IsEvidenceAt at book) ∷ []
