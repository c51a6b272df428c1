-- What a call comes to is found in turn: what is tallied, then the tally of the log files; each may be refused.
use Rattle.std.specs.Prelude.{◌≡◌, ◌≢◌, ℕ, List, Result, Ok, Err}
use Rattle.flag_defs.specs.Document.{Definitions}
use Rattle.note_streams.specs.Tallies.{TalliesFiles}
use Rattle.note_streams.specs.declared.log_fault.LogTallyFault.{LogTallyFault}
use Rattle.rollout.specs.declared.fault.RolloutFault.{RolloutFault}
use Rattle.note_tallies.specs.Tally.{PageTally}
use Rattle.control_answers.specs.Refusal.{of_logs, of_rollout}
use Rattle.control_answers.specs.Target.{Target, target_of, target_view}
use Rattle.control_answers.specs.declared.question.Question as program
use Rattle.control_answers.specs.declared.refusal.ControlRefusal.{ControlRefusal}
use Rattle.control_answers.specs.declared.refusal.ControlRefusal.TheVariants.{WantOfMemory}

-- what a call may come to
abbrev pub Outcomes : Type 0 → Type 1
Outcomes B = Result B ControlRefusal → Type 0

module _ {B : Type 0} where
  abbrev pub WithTarget : (Target → Outcomes B) → Result Target RolloutFault → Outcomes B
  WithTarget Next (Err e) r = r ≡ Err (of_rollout e)
  WithTarget Next (Ok target) r = Next target r

  abbrev pub WithTally : (PageTally → Outcomes B) → Result PageTally LogTallyFault → Outcomes B
  WithTally Next (Err e) r = r ≡ Err (of_logs e)
  WithTally Next (Ok t) r = Next t r

  -- the refusal of the files, or what comes of the tally of what they hold
  abbrev pub OfFiles : List (List ℕ) → Target → (PageTally → Outcomes B) → Outcomes B
  OfFiles files target Next r = (t : Result PageTally LogTallyFault) × TalliesFiles files target.page target.total t × WithTally Next t r

-- What is given, seen by `seen`, is what a call may come to, unless memory ran out.
abbrev pub Gives : {A B : Type 0} → (A → B) → (Result B ControlRefusal → Type 0) → Result A ControlRefusal → Type 0
Gives seen Is (Ok a) = Is (Ok (seen a))
Gives seen Is (Err e) = e ≢ WantOfMemory → Is (Err e)

-- ---- for private clauses

-- the file of the request has these bytes, and this is tallied for it; or its refusal, unless memory ran out
abbrev pub IsQuestion : Definitions → List ℕ → Result program.Question ControlRefusal → Type 0
IsQuestion flags request (Ok q) = (q.request ≡ request) × (target_of flags request ≡ Ok (target_view q.target))
IsQuestion flags request (Err e) = e ≢ WantOfMemory → (f : RolloutFault) × (target_of flags request ≡ Err f) × (e ≡ of_rollout f)
