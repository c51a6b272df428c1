-- What is recorded at a site.
use Rattle.std.specs.Prelude.{◌≡◌, ℕ, List, Ok}
use Rattle.flag_defs.specs.Document.{Definitions}
use Rattle.note_tallies.specs.Tally.{PageTally}
use Rattle.note_tallies.specs.File.{tally_text}
use Rattle.note_tallies.specs.Reading.{ReadsAs}
use Rattle.control_answers.specs.Target.{Target, target_in}
use Rattle.control_answers.specs.Turns.{OfFiles, Outcomes, WithTarget}

-- the file of a tally, which reads as it
abbrev pub IsTallyText : PageTally → Outcomes (List ℕ)
IsTallyText t r = (r ≡ Ok (tally_text t)) × ReadsAs (tally_text t) t

abbrev pub IsRecordOver : List (List ℕ) → Target → Outcomes (List ℕ)
IsRecordOver files target = OfFiles files target IsTallyText

-- The file of the tally of the inputs of a site's page that files hold, at the rule's total; or the first refusal: of the flag,
-- the site, its buckets, its weight, the total, the files.
abbrev pub IsRecordAnswer : Definitions → List ℕ → ℕ → List (List ℕ) → Outcomes (List ℕ)
IsRecordAnswer flags key site files = WithTarget (IsRecordOver files) (target_in flags key site)
