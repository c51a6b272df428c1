-- The document with the rule of a right answer at the site of its request, and all else as it was.
use Rattle.std.specs.Prelude.{◌≡◌, ℕ, List, Result, Ok, Err, false}
use Rattle.bucket_core.specs.Rule.{Entries}
use Rattle.flag_defs.specs.Document.{Definitions, DocumentMeans}
use Rattle.kept_document.specs.Kept.{IsRefused, KeptAt, place_in}
use Rattle.kept_document.specs.declared.fault.KeepFault.{KeepFault}
use Rattle.plan_text.specs.Answer.{Answer, emit, none_exists}
use Rattle.price_core.specs.Request.{Asked, asked_of}
use Rattle.rollout.specs.Applied.{applied}
use Rattle.rollout.specs.declared.fault.RolloutFault.{RolloutFault}
use Rattle.rollout.specs.declared.verify_fault.VerifyFault.{VerifyFault}
use Rattle.kept_document.specs.Place.{SitePlace}
use Rattle.note_tallies.specs.Tally.{PageTally}
use Rattle.library_rollouts.specs.Reading.{OfAnswer, OfFlags, OfTally}
use Rattle.library_rollouts.specs.Refusal.{of_keep, of_rollout, of_verdict}
use Rattle.library_rollouts.specs.Verify.{MayBeTold}
use Rattle.library_rollouts.specs.Writing.{Meaning}
use Rattle.library_rollouts.specs.declared.refusal.RolloutRefusal.TheVariants.{NoRule}

-- The document with the rule in place of the buckets at a place and all else as it was, which means these flags; or a refusal.
abbrev pub IsEdited : List ℕ → SitePlace → Entries → Definitions → Meaning (Unit {0})
IsEdited document place rule wanted (Ok made) = KeptAt document place rule made.0 × DocumentMeans made.0 (Ok wanted)
IsEdited document place rule wanted (Err e) = (fault : KeepFault) × IsRefused false document place rule wanted fault × (e ≡ of_keep fault)

-- the flags that are wanted are those with the rule at the site
abbrev pub IsEditedTo : List ℕ → SitePlace → Entries → Result Definitions RolloutFault → Meaning (Unit {0})
IsEditedTo document place rule (Err e) r = r ≡ Err (of_rollout e)
IsEditedTo document place rule (Ok wanted) r = IsEdited document place rule wanted r

-- the document with the rule at a site
abbrev pub IsKeptAt : List ℕ → Definitions → List ℕ → ℕ → Entries → Meaning (Unit {0})
IsKeptAt document flags key site rule r = IsEditedTo document (place_in false document flags key site) rule (applied flags key site rule) r

-- by a right answer: one without a rule changes nothing
abbrev pub IsKeptWith : List ℕ → List ℕ → Definitions → Answer → Meaning (Unit {0})
IsKeptWith document request flags (emit rule c) r = (asked : Asked) × (asked_of request ≡ Ok asked) × IsKeptAt document flags asked.flag asked.site rule r
IsKeptWith document request flags (none_exists kind names) r = r ≡ Err NoRule

-- nor does one that is not right
abbrev pub IsKeptBy : List ℕ → List ℕ → Definitions → Answer → Result (Unit {0}) VerifyFault → Meaning (Unit {0})
IsKeptBy document request flags answer (Err e) r = r ≡ Err (of_verdict e)
IsKeptBy document request flags answer (Ok right) r = IsKeptWith document request flags answer r

abbrev pub IsKeptOn : List ℕ → List ℕ → Definitions → PageTally → Answer → Meaning (Unit {0})
IsKeptOn document request flags tally answer r = (verdict : Result (Unit {0}) VerifyFault) × MayBeTold flags request tally answer verdict × IsKeptBy document request flags answer verdict r

-- The document with the rule of the answer of a plan file; or the first refusal: of the document, the tally, the plan file, the request, the check, no rule, the changed flags, the changed text.
abbrev pub IsApplied : List ℕ → List ℕ → List ℕ → List ℕ → Meaning (Unit {0})
IsApplied document request tally plan = OfFlags document (λ flags. OfTally tally (λ t. OfAnswer plan (IsKeptOn document request flags t)))
