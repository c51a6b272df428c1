-- What is answered to a request is of the inputs that the files hold.
use Rattle.std.proofs.Common.{◌≡◌, ◌⊎◌, ℕ, List, Result, Ok, Err, inl, inr, refl, subst}
use Rattle.book_core.specs.Book.{Inputs}
use Rattle.book_core.specs.Page.{PageName}
use Rattle.note_streams.specs.LogRecorded.{IsRecordTally, IsTallyOfHashes, IsTallyOfInputs}
use Rattle.note_streams.specs.Tallies.{TalliesFiles}
use Rattle.note_streams.specs.declared.log_fault.LogTallyFault.{LogTallyFault}
use Rattle.plan_text.specs.Answer.{planned_view}
use Rattle.plan_text.specs.PlanFile.{plan_file}
use Rattle.plan_text.specs.declared.fault.PlanFileFault.{PlanFileFault}
use Rattle.plan_text.specs.declared.planned.Planned.{Planned}
use Rattle.rollout.specs.Tallied.{TalliesAskAsBooks}
use Rattle.rollout.specs.Plan.{IsTallyPlanned}
use Rattle.rollout.specs.CheckedTally.{TallyProblem, tally_problem_of}
use Rattle.rollout.specs.declared.fault.RolloutFault.{RolloutFault}
use Rattle.rollout.specs.declared.refining.Refining.TheVariants.{Times}
use Rattle.note_tallies.specs.JoinLaw.{HashesStandForInputs, IsTallyOf}
use Rattle.note_tallies.specs.Tally.{PageTally}
use Rattle.control_answers.proofs.Tallied.{tallied}
use Rattle.control_answers.specs.Law.{AnswersPlanTheRecord, IsAnswerFor, PlansHashes, PlansInputs, PlansTheRecord}
use Rattle.control_answers.specs.Plan.{IsPlanOn, IsPrinted, IsReported}
use Rattle.control_answers.specs.Snapshot.{Snapshot}
use Rattle.control_answers.specs.Target.{Target, target_of}
use Rattle.control_answers.specs.Turns.{OfFiles, WithTally, WithTarget}
use Rattle.control_answers.specs.declared.refusal.ControlRefusal.{ControlRefusal}

module _ (law : TalliesAskAsBooks) (hashes : HashesStandForInputs) (s : Snapshot) (request : List ℕ) (files : List (List ℕ)) (body : List ℕ) where
  abbrev Body : Result (List ℕ) ControlRefusal
  Body = Ok body

  same_body : {x : List ℕ} → (let r : Result (List ℕ) ControlRefusal = Ok body in r) ≡ Ok x → body ≡ x
  same_body e = cc

  module _ (t : PageTally) (problem : TallyProblem) (asks : tally_problem_of (Times 1) s.flags request t ≡ Ok problem) (p : Planned) (plans : IsTallyPlanned (Ok problem) (Ok p)) where
    answers : (inputs : Inputs) → IsTallyOf inputs t → IsAnswerFor problem (planned_view p) inputs
    answers inputs is = let are = tallied law (Times 1) s.flags request t problem inputs is asks in record { tallied = are; planned = plans inputs are }

    of_kind : (page : PageName) → IsTallyOfInputs files page t ⊎ IsTallyOfHashes files page t → PlansInputs files page problem (planned_view p) ⊎ PlansHashes files page problem (planned_view p)
    of_kind page (inl of) = inl (of.inputs, of.recorded, answers of.inputs of.tally.tally)
    of_kind page (inr of) = inr (of.hashes, of.recorded, λ inputs are once. answers inputs (hashes t of.hashes inputs of.tally are once))

  of_printed : (target : Target) → target_of s.flags request ≡ Ok target → (t : PageTally) → IsRecordTally files target.page target.total t → (p : Planned) → IsTallyPlanned (tally_problem_of (Times 1) s.flags request t) (Ok p)
      → (plan : Result (List ℕ) PlanFileFault) → IsPrinted s request t (planned_view p) plan Body → PlansTheRecord s request files body
  of_printed target is t record_of p plans (Err e) printed = cc
  of_printed target is t record_of p plans (Ok plan) printed =
      let told = printed.1 in
      let all = subst (λ (asks : Result TallyProblem RolloutFault). IsTallyPlanned asks (Ok p)) told.problem_is plans in
      record {
        target = target;
        target_is = is;
        tally = t;
        recorded = record_of;
        problem = told.problem;
        problem_is = told.problem_is;
        answer = planned_view p;
        plans = of_kind t told.problem told.problem_is p all target.page record_of.of;
        plan = plan;
        told = printed.0;
        is_told = told;
        is = same_body printed.2;
      }

  of_planned : (target : Target) → target_of s.flags request ≡ Ok target → (t : PageTally) → IsRecordTally files target.page target.total t → (planned : Result Planned RolloutFault) → IsTallyPlanned (tally_problem_of (Times 1) s.flags request t) planned
      → IsReported s request t planned Body → PlansTheRecord s request files body
  of_planned target is t record_of (Err e) plans reported = cc
  of_planned target is t record_of (Ok p) plans reported = of_printed target is t record_of p plans (plan_file (planned_view p)) reported

  of_tally : (target : Target) → target_of s.flags request ≡ Ok target → (t : Result PageTally LogTallyFault) → TalliesFiles files target.page target.total t → WithTally (IsPlanOn s request) t Body → PlansTheRecord s request files body
  of_tally target is (Err e) tallies found = cc
  of_tally target is (Ok t) tallies found = of_planned target is t tallies.0 found.0 found.1 found.2

  of_target : (t : Result Target RolloutFault) → target_of s.flags request ≡ t → WithTarget (λ target. OfFiles files target (IsPlanOn s request)) t Body → PlansTheRecord s request files body
  of_target (Err e) is found = cc
  of_target (Ok target) is found = of_tally target is found.0 found.1 found.2

pub plan_the_record : TalliesAskAsBooks → HashesStandForInputs → AnswersPlanTheRecord
plan_the_record law hashes s request files body is = of_target law hashes s request files body (target_of s.flags request) refl is
