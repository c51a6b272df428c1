-- What the bytes of a call stand for is read in turn: the document, then the tally, then the plan; each may be refused.
use Rattle.std.specs.Prelude.{◌≡◌, ℕ, List, Result, Ok, Err}
use Rattle.flag_defs.specs.Document.{Definitions, DocumentMeans}
use Rattle.flag_defs.specs.declared.fault.DefFault.{DefFault}
use Rattle.plan_text.specs.Answer.{Answer}
use Rattle.plan_text.specs.PlanFile.{answer_of}
use Rattle.plan_text.specs.declared.fault.PlanFileFault.{PlanFileFault}
use Rattle.note_tallies.specs.Tally.{PageTally}
use Rattle.note_tallies.specs.Reading.{ReadsTally}
use Rattle.note_tallies.specs.declared.file_fault.TallyFileFault.{TallyFileFault}
use Rattle.library_rollouts.specs.Refusal.{of_document, of_plan, of_tally}
use Rattle.library_rollouts.specs.declared.refusal.RolloutRefusal.{RolloutRefusal}

-- what a call may come to
abbrev pub Outcomes : Type 0 → Type 1
Outcomes B = Result B RolloutRefusal → Type 0

module _ {B : Type 0} where
  abbrev pub WithFlags : (Definitions → Outcomes B) → Result Definitions DefFault → Outcomes B
  WithFlags Next (Err e) r = r ≡ Err (of_document e)
  WithFlags Next (Ok flags) r = Next flags r

  -- the refusal of the document, or what comes of its flags
  abbrev pub OfFlags : List ℕ → (Definitions → Outcomes B) → Outcomes B
  OfFlags document Next r = (flags : Result Definitions DefFault) × DocumentMeans document flags × WithFlags Next flags r

  abbrev pub WithTally : (PageTally → Outcomes B) → Result PageTally TallyFileFault → Outcomes B
  WithTally Next (Err e) r = r ≡ Err (of_tally e)
  WithTally Next (Ok t) r = Next t r

  -- the refusal of the tally, or what comes of it
  abbrev pub OfTally : List ℕ → (PageTally → Outcomes B) → Outcomes B
  OfTally bytes Next r = (t : Result PageTally TallyFileFault) × ReadsTally bytes t × WithTally Next t r

  abbrev pub WithAnswer : (Answer → Outcomes B) → Result Answer PlanFileFault → Outcomes B
  WithAnswer Next (Err e) r = r ≡ Err (of_plan e)
  WithAnswer Next (Ok answer) r = Next answer r

  -- the refusal of the plan file, or what comes of its answer
  abbrev pub OfAnswer : List ℕ → (Answer → Outcomes B) → Outcomes B
  OfAnswer bytes Next r = WithAnswer Next (answer_of bytes) r
