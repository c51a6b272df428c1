-- What is tallied of note lines for a request.
use Rattle.std.specs.Prelude.{◌≡◌, ◌≢◌, ℕ, List, Result, Ok, Err}
use Rattle.byte_streams.specs.Lines.{parts_of}
use Rattle.note_tallies.specs.Lines.{Tallied, finished, untallied}
use Rattle.note_streams.specs.Tallied.{Tallies}
use Rattle.note_tallies.specs.Tally.{PageTally}
use Rattle.note_tallies.specs.declared.filter_fault.FilterFault.{FilterFault}
use Rattle.note_tallies.specs.declared.filter_fault.FilterFault.TheVariants.{WantOfMemory}
use Rattle.note_tallies.specs.File.{tally_text}
use Rattle.note_tallies.specs.Reading.{ReadsAs}
use Rattle.library_rollouts.specs.Reading.{OfFlags}
use Rattle.library_rollouts.specs.Refusal.{of_notes}
use Rattle.library_rollouts.specs.Target.{Target, WithTarget, target_of}
use Rattle.library_rollouts.specs.Writing.{Meaning}
use Rattle.library_rollouts.specs.declared.refusal.RolloutRefusal.{RolloutRefusal}

-- the tally of the lines that end with a line feed, or the first of them is refused
abbrev pub TalliesLines : Tallied → List ℕ → Result PageTally FilterFault → Type 0
TalliesLines start notes (Ok t) = (last : Tallied) × Tallies start 0 (parts_of notes) (Ok last) × (t ≡ finished last)
TalliesLines start notes (Err fault) = fault ≢ WantOfMemory → Tallies start 0 (parts_of notes) (Err fault)

-- the file of what was tallied
abbrev pub tally_report : Result Tallied FilterFault → Result (List ℕ × Unit {0}) RolloutRefusal
tally_report (Ok last) = Ok (tally_text (finished last), tt)
tally_report (Err e) = Err (of_notes e)

-- whoever reads what is written reads what was tallied
abbrev pub ReadsBack : Result Tallied FilterFault → Result (List ℕ × Unit {0}) RolloutRefusal → Type 0
ReadsBack (Ok last) (Ok made) = ReadsAs made.0 (finished last)
ReadsBack (Ok last) (Err e) = Unit {0}
ReadsBack (Err e) r = Unit {0}

abbrev pub IsTallyOver : List ℕ → Target → Meaning (Unit {0})
IsTallyOver notes target r = (last : Result Tallied FilterFault) × Tallies (untallied target.page target.total) 0 (parts_of notes) last × (r ≡ tally_report last) × ReadsBack last r

-- The file of the tally of note lines, at the site of a request; or the first refusal: of the document, the request, a line.
abbrev pub IsTally : List ℕ → List ℕ → List ℕ → Meaning (Unit {0})
IsTally document request notes = OfFlags document (λ flags. WithTarget (IsTallyOver notes) (target_of flags request))
