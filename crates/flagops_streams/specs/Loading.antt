-- Documents that are loaded.
use Rattle.std.specs.Prelude.{◌≡◌, ℕ, ◌+◌, Bool, false, List, [], ◌∷◌, ◌++◌, length, Option, Some, None, IfSome, Result, Ok, Err}
use Rattle.source_merge.specs.Sources.{SourceList}
use Rattle.source_merge.specs.View.{sources_view}
use Rattle.flagops_shell.specs.Files.{Holding, load_of}
use Rattle.flagops_shell.specs.Outcomes.{◌>>=◌}
use Rattle.flagops_shell.specs.declared.files.LoadFault.{LoadFault}
use Rattle.flagops_shell.specs.declared.files.LoadFault.TheVariants as load
use Rattle.limits.specs.Limits.{text_bytes}
use Rattle.flagops_streams.specs.Documents.{Answer, IsRefusedAt, ServesTo, source_added, texts_of}
use Rattle.flagops_streams.specs.Refusal.{is_unreadable, is_want}
use Rattle.flagops_streams.specs.declared.documents.Documents.{Documents}
use Rattle.flagops_streams.specs.declared.refusal.Refusal.{Refusal}
use Rattle.flagops_streams.specs.declared.refusal.Refusal.TheVariants.{Unloaded, Unreadable}
use Rattle.flagops_streams.specs.Told.{TellsOfFile}
use Rattle.flagops_streams.specs.Words.{Serving}
use Rattle.flagops_streams.specs.declared.loading.Unloaded as code

-- documents by their bytes, and the sources that they are merged from
pub record Loaded : Type 0 where
  pub sources : SourceList
  pub texts : List (List ℕ)

abbrev pub documents_view : Documents → Loaded
documents_view d = record { sources = sources_view d.sources; texts = texts_of d.texts.items }

-- what a read of a file gives, its fault as the refusal of `serve`
abbrev pub text_of : Result (List ℕ) LoadFault → Result (List ℕ) Refusal
text_of (Ok bytes) = Ok bytes
text_of (Err load.Unreadable) = Err Unreadable
text_of (Err load.WantOfMemory) = Err Unloaded

-- one more document: its source is added, then the file at the path is loaded
abbrev pub loaded_next : Holding → Loaded → List ℕ → Result Loaded Refusal
loaded_next at d path = do
  sources ← source_added d.sources (length d.texts + 1)
  text ← text_of (load_of at path text_bytes)
  Ok (record { sources = sources; texts = d.texts ++ text ∷ [] })

-- one more document for each path, in their order; the first refusal is the answer
abbrev pub loaded_from : Holding → Loaded → List (List ℕ) → Result Loaded Refusal
loaded_from at d [] = Ok d
loaded_from at d (path ∷ paths) = do
  next ← loaded_next at d path
  loaded_from at next paths

-- the documents of the files at these paths
abbrev pub loaded_at : Holding → List (List ℕ) → Result Loaded Refusal
loaded_at at paths = loaded_from at (record { sources = []; texts = [] }) paths

-- the first of paths, where this is refused, or else the one that is left to those behind it
abbrev pub refused_here : List ℕ → (Loaded → Option (List ℕ)) → Result Loaded Refusal → Option (List ℕ)
refused_here path behind (Ok next) = behind next
refused_here path behind (Err refusal) = Some path

-- the path of the first document that is refused, behind those that were loaded
abbrev pub refused_from : Holding → Loaded → List (List ℕ) → Option (List ℕ)
refused_from at d [] = None
refused_from at d (path ∷ paths) = refused_here path (λ next. refused_from at next paths) (loaded_next at d path)

-- of the documents of the files at these paths
abbrev pub refused_at : Holding → List (List ℕ) → Option (List ℕ)
refused_at at paths = refused_from at (record { sources = []; texts = [] }) paths

-- the path is that of the first document that is refused, where the files are known
abbrev pub IsFirstRefused : Option Holding → List (List ℕ) → List ℕ → Type 0
IsFirstRefused files paths path = IfSome files (λ at. refused_at at paths ≡ Some path)

-- the first document that is refused was told by the path of its file
abbrev pub TellsUnloaded : Option Holding → List (List ℕ) → Option (List ℕ) → Option (List ℕ) → Bool → Type 0
TellsUnloaded files paths old new is_mute = (path : List ℕ) × IsFirstRefused files paths path × TellsOfFile path old new is_mute

-- what was loaded is what the definition gives, unless memory ran out
abbrev pub LoadsTo : Result Documents code.Unloaded → Result Loaded Refusal → Type 0
LoadsTo (Ok d) wanted = wanted ≡ Ok (documents_view d)
LoadsTo (Err u) wanted = is_want u.refusal ≡ false → wanted ≡ Err u.refusal

-- what serving them gives, or why they were not loaded
abbrev pub ServesLoaded : Bool → ℕ → Result Loaded Refusal → Answer → Type 0
ServesLoaded floats subscribers (Err refusal) answer = answer ≡ Err refusal
ServesLoaded floats subscribers (Ok d) answer = ServesTo floats subscribers d.sources d.texts [] answer

-- What `serve` answers: what serving the documents at the paths of its words gives, to as many subscribers as they say,
-- unless memory ran out.
abbrev pub AnswersTo : Holding → Serving → Answer → Type 0
AnswersTo at s (Ok published) = ServesLoaded s.floats s.subscribers (loaded_at at s.documents) (Ok published)
AnswersTo at s (Err r) = is_want r ≡ false → ServesLoaded s.floats s.subscribers (loaded_at at s.documents) (Err r)

-- the document at a place, from 1, is none, of those that are loaded
abbrev pub IsRefusedOf : Holding → Serving → ℕ → Type 0
IsRefusedOf at s place = (d : Loaded) × (loaded_at at s.documents ≡ Ok d) × IsRefusedAt s.floats d.texts place

-- a file could not be read
abbrev pub is_unread : {X : Type 0} → Result X code.Unloaded → Bool
is_unread (Ok x) = false
is_unread (Err u) = is_unreadable u.refusal

abbrev pub is_unread_next : {X : Type 0} → Result X Refusal → Bool
is_unread_next (Ok x) = false
is_unread_next (Err r) = is_unreadable r
