-- What is planned of a request on what files hold.
use Rattle.std.specs.Prelude.{◌≡◌, ◌++◌, ℕ, List, codes, Result, Ok, Err}
use Rattle.file_diagnostics.specs.Named.{Names}
use Rattle.plan_text.specs.Answer.{Answer, planned_view}
use Rattle.plan_text.specs.PlanFile.{plan_file}
use Rattle.plan_text.specs.declared.fault.PlanFileFault.{PlanFileFault}
use Rattle.plan_text.specs.declared.planned.Planned.{Planned}
use Rattle.rollout.specs.Plan.{IsTallyPlanned}
use Rattle.rollout.specs.CheckedTally.{TallyProblem, tally_problem_of}
use Rattle.rollout.specs.declared.fault.RolloutFault.{RolloutFault}
use Rattle.rollout.specs.declared.refining.Refining.TheVariants.{Times}
use Rattle.note_tallies.specs.Tally.{PageTally}
use Rattle.control_answers.specs.Body.{Told, edit_words, switched_in, told_text}
use Rattle.control_answers.specs.Token.{token_text}
use Rattle.control_answers.specs.Effect.{IsEffect}
use Rattle.control_answers.specs.Picture.{IsPictured}
use Rattle.control_answers.specs.Kept.{MayBeChanged}
use Rattle.control_answers.specs.Refusal.{of_printed, of_rollout}
use Rattle.control_answers.specs.Snapshot.{Snapshot}
use Rattle.control_answers.specs.Target.{target_of}
use Rattle.control_answers.specs.Turns.{OfFiles, Outcomes, WithTarget}

-- words that begin with the request, and then what the edit by hand would switch
abbrev pub IsExplained : Told → Type 0
IsExplained a = (words : List ℕ) × Names (codes "request") words × (a.explained ≡ words ++ edit_words a.by_hand a.inputs (switched_in a.switches))

-- what is told of a plan is of this snapshot, this request, this tally and this answer
pub record IsTold (s : Snapshot) (request : List ℕ) (t : PageTally) (answer : Answer) (plan : List ℕ) (a : Told) : Type 0 where
  pub problem : TallyProblem
  pub problem_is : tally_problem_of (Times 1) s.flags request t ≡ Ok problem
  pub snapshot : a.snapshot ≡ s.number
  pub inputs : a.inputs ≡ t.inputs
  pub plan_is : a.plan ≡ plan
  pub effect : IsEffect problem answer (record { switches = a.switches; by_hand = a.by_hand })
  pub picture : IsPictured problem answer a.picture
  pub explained : IsExplained a
  pub document : MayBeChanged s request answer a.document
  pub token : a.token ≡ token_text s.document request plan

-- the plan file with what is told beside it, or the refusal of an answer that is too large for a file
abbrev pub IsPrinted : Snapshot → List ℕ → PageTally → Answer → Result (List ℕ) PlanFileFault → Outcomes (List ℕ)
IsPrinted s request t answer (Err e) r = r ≡ Err (of_printed e)
IsPrinted s request t answer (Ok plan) r = (a : Told) × IsTold s request t answer plan a × (r ≡ Ok (told_text a))

abbrev pub IsReported : Snapshot → List ℕ → PageTally → Result Planned RolloutFault → Outcomes (List ℕ)
IsReported s request t (Err e) r = r ≡ Err (of_rollout e)
IsReported s request t (Ok p) r = IsPrinted s request t (planned_view p) (plan_file (planned_view p)) r

-- on the tally, what is planned is an answer for all inputs of which so many fall on each point
abbrev pub IsPlanOn : Snapshot → List ℕ → PageTally → Outcomes (List ℕ)
IsPlanOn s request t r = (planned : Result Planned RolloutFault) × IsTallyPlanned (tally_problem_of (Times 1) s.flags request t) planned × IsReported s request t planned r

-- The plan of a request on the tally of what files hold of its page, with what it does; or the first refusal: of the request, its site, the
-- files, the request on their tally, the size of the plan file.
abbrev pub IsPlanAnswer : Snapshot → List ℕ → List (List ℕ) → Outcomes (List ℕ)
IsPlanAnswer s request files = WithTarget (λ target. OfFiles files target (IsPlanOn s request)) (target_of s.flags request)
