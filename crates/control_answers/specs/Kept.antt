-- The document of a snapshot with a rule at a site, and all else as it was, or why there is none.
use Rattle.std.specs.Prelude.{◌≡◌, ◌≢◌, ℕ, List, true, Option, Some, None, Result, Ok, Err}
use Rattle.bucket_core.specs.Rule.{Entries}
use Rattle.flag_defs.specs.Document.{Definitions}
use Rattle.flag_defs.specs.Floats.{MeansAs}
use Rattle.kept_document.specs.Kept.{IsRefused, KeptAt, place_in}
use Rattle.kept_document.specs.declared.fault.KeepFault.{KeepFault}
use Rattle.plan_text.specs.Answer.{Answer, emit, none_exists}
use Rattle.price_core.specs.Request.{Asked, asked_of}
use Rattle.rollout.specs.Applied.{applied}
use Rattle.rollout.specs.declared.fault.RolloutFault.{RolloutFault}
use Rattle.kept_document.specs.Place.{SitePlace}
use Rattle.control_answers.specs.Refusal.{of_keep, of_rollout}
use Rattle.control_answers.specs.Snapshot.{Snapshot}
use Rattle.control_answers.specs.Turns.{Outcomes}
use Rattle.control_answers.specs.declared.refusal.ControlRefusal.{ControlRefusal}
use Rattle.control_answers.specs.declared.refusal.ControlRefusal.TheVariants.{WantOfMemory, NoDocument}

-- the text with the rule in place of the buckets at a place, which means these flags, as a document that may have floats; or why there is none
abbrev pub IsEdited : List ℕ → SitePlace → Entries → Definitions → Result (List ℕ) ControlRefusal → Type 0
IsEdited document place rule wanted (Ok text) = KeptAt document place rule text × MeansAs true text (Ok wanted)
IsEdited document place rule wanted (Err e) = (fault : KeepFault) × IsRefused true document place rule wanted fault × (e ≡ of_keep fault)

-- the flags that are wanted are those with the rule at the site
abbrev pub IsEditedTo : List ℕ → SitePlace → Entries → Result Definitions RolloutFault → Outcomes (List ℕ)
IsEditedTo document place rule (Err e) r = r ≡ Err (of_rollout e)
IsEditedTo document place rule (Ok wanted) r = IsEdited document place rule wanted r

abbrev pub IsKeptAt : Snapshot → Asked → Entries → Outcomes (List ℕ)
IsKeptAt s asked rule r = IsEditedTo s.document (place_in true s.document s.flags asked.flag asked.site) rule (applied s.flags asked.flag asked.site rule) r

-- with the rule of an answer, where it has one, at the site of its request
abbrev pub IsChanged : Snapshot → List ℕ → Answer → Outcomes (List ℕ)
IsChanged s request (emit rule c) r = (asked : Asked) × (asked_of request ≡ Ok asked) × IsKeptAt s asked rule r
IsChanged s request (none_exists kind names) r = r ≡ Err NoDocument

-- there is such a text, or none, for a reason other than want of memory
abbrev pub MayBeChanged : Snapshot → List ℕ → Answer → Option (List ℕ) → Type 0
MayBeChanged s request answer (Some text) = IsChanged s request answer (Ok text)
MayBeChanged s request answer None = (e : ControlRefusal) × (e ≢ WantOfMemory) × IsChanged s request answer (Err e)
