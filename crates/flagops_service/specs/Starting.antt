-- What starting on documents gives, from the files at their paths.
use Rattle.std.specs.Prelude.{◌≡◌, ◌⊎◌, ◌+◌, Bool, true, false, ℕ, List, [], ◌∷◌, ◌++◌, length, Result, Ok, Err}
use Rattle.std.specs.List.{list_any}
use Rattle.flag_defs.specs.Definition.{Definition}
use Rattle.flag_defs.specs.Document.{Definitions}
use Rattle.flag_defs.specs.Flag.{is_broken}
use Rattle.flagops_service.specs.declared.asked.OnBroken.{OnBroken}
use Rattle.flagops_service.specs.declared.asked.OnBroken.TheVariants.{Keep, Refuse, Serve}
use Rattle.flagops_shell.specs.Files.{Holding}
use Rattle.flagops_streams.specs.Loading.{Loaded, loaded_at}
use Rattle.flagops_shell.specs.Outcomes.{◌>>=◌}
use Rattle.flagops_streams.specs.Documents.{Answer, Gives, MayFail, source_added}
use Rattle.flagops_streams.specs.Refusal.{is_want}
use Rattle.flagops_streams.specs.declared.refusal.Refusal.{Refusal}
use Rattle.flagops_streams.specs.declared.refusal.Refusal.TheVariants.{Share, Unbound, WantOfMemory}
use Rattle.flagops_service.specs.Words.{Answering, seats_of}

-- the flags that are answered from: the last merge
abbrev pub last_of : List Definitions → Definitions
last_of [] = []
last_of (flags ∷ []) = flags
last_of (flags ∷ next ∷ more) = last_of (next ∷ more)

-- these flags are not answered from: one is broken, and none is to be
abbrev pub stops_on : OnBroken → Definitions → Bool
stops_on Refuse flags = list_any (λ (f : List ℕ × Definition). is_broken f.1) flags
stops_on Keep flags = false
stops_on Serve flags = false

abbrev pub stops_in : OnBroken → Answer → Bool
stops_in mode (Ok merges) = stops_on mode (last_of merges)
stops_in mode (Err refusal) = false

-- why so many seats are not begun with: the address, the seats or memory; no thread or subscriber is waited for
abbrev pub MayNotStart : ℕ → Refusal → Type 0
MayNotStart seats Unbound = Unit {0}
MayNotStart seats WantOfMemory = Unit {0}
MayNotStart seats (Share fault) = MayFail seats (Share fault)
MayNotStart seats refusal = ⊥

-- Each document is merged over those before it, and the last merge is answered from; or one refuses; or the address, so many seats or memory.
abbrev pub StartsOn : ℕ → Loaded → Answer → Type 0
StartsOn seats d answer = ((refusal : Refusal) × (answer ≡ Err refusal) × MayNotStart seats refusal) ⊎ Gives true d.sources d.texts [] answer

-- documents of these texts behind others, each with a source under its number
abbrev pub numbered_from : Loaded → List (List ℕ) → Result Loaded Refusal
numbered_from d [] = Ok d
numbered_from d (text ∷ texts) = do
  sources ← source_added d.sources (length d.texts + 1)
  numbered_from (record { sources = sources; texts = d.texts ++ text ∷ [] }) texts

abbrev pub numbered : List (List ℕ) → Result Loaded Refusal
numbered texts = numbered_from (record { sources = []; texts = [] }) texts

-- the same, or why they were not loaded
abbrev pub StartsLoaded : ℕ → Result Loaded Refusal → Answer → Type 0
StartsLoaded seats (Err refusal) answer = answer ≡ Err refusal
StartsLoaded seats (Ok d) answer = StartsOn seats d answer

-- the same, unless memory ran out
abbrev pub StartsAs : ℕ → Result Loaded Refusal → Answer → Type 0
StartsAs seats loaded (Ok merges) = StartsLoaded seats loaded (Ok merges)
StartsAs seats loaded (Err refusal) = is_want refusal ≡ false → StartsLoaded seats loaded (Err refusal)

-- what the documents at the paths of the words come to
abbrev pub StartsTo : Holding → Answering → Answer → Type 0
StartsTo at a answer = StartsAs (seats_of a) (loaded_at at a.documents) answer
