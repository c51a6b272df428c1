-- What is found of the answers to steps that stand in a file.
use Rattle.std.specs.Prelude.{◌≡◌, ◌≤◌, ℕ, List, length, map, Option, Result, Ok, Err}
use Rattle.flag_defs.specs.Flags.{flags_view}
use Rattle.flagops_shell.specs.Files.{Holding, load_of}
use Rattle.flagops_files.specs.Loading.{max_rule}
use Rattle.flagops_shell.specs.Outcomes.{refused_by}
use Rattle.flagops_files.specs.Question.{IsQuestionAt, Question, question_view}
use Rattle.flagops_files.specs.declared.refusal.Refusal.{Refusal}
use Rattle.flagops_files.specs.declared.refusal.Refusal.TheVariants.{Load as Unread}
use Rattle.plan_text.specs.Answer.{Answer, planned_view}
use Rattle.ramp.specs.Right.{AreRight, IsTold}
use Rattle.ramp.specs.declared.fault.RampFault.{RampFault}
use Rattle.ramp.specs.declared.fault.RampFault.TheVariants as ramp
use Rattle.ramp.specs.Lines.{ramp_of}
use Rattle.ramp.specs.Steps.{most_steps, requests_view, steps_of}
use Rattle.ramp.specs.declared.file_fault.RampFileFault.{RampFileFault}
use Rattle.ramp.specs.declared.file_fault.StepsFault.{StepsFault}
use Rattle.rollout.specs.declared.verify_fault.VerifyFault.TheVariants.{Request}
use Rattle.flagops_ramps.specs.Ramp.{of_steps, recorded}
use Rattle.flagops_ramps.specs.Words.{Verifying}
use Rattle.flagops_ramps.specs.declared.judging.RightAnswers.{RightAnswers}
use Rattle.flagops_ramps.specs.declared.refusal.RampRefusal.{RampRefusal}
use Rattle.flagops_ramps.specs.declared.refusal.RampRefusal.TheVariants.{Load, Read, Verify, Lines}

-- a question, the requests of its steps, and answers to these
pub record Answered : Type 0 where
  pub question : Question
  pub requests : List (List ℕ)
  pub answers : List Answer

abbrev pub answered_view : RightAnswers → Answered
answered_view a = record { question = question_view a.question; requests = requests_view a.steps.items; answers = map planned_view a.answers.items }

-- they are right for the steps, of which there are no more than the most
pub record AreRightAnswers (refine : Option ℕ) (a : RightAnswers) : Type 0 where
  pub few : length a.steps.items ≤ most_steps
  pub right : AreRight (Ok (flags_view a.question.flags)) refine (requests_view a.steps.items) (recorded a.question.evidence) (map planned_view a.answers.items)

-- ---- the answers of a file

abbrev pub read_as : Result (List Answer) RampFileFault → Result (List Answer) RampRefusal
read_as (Ok answers) = Ok answers
read_as (Err e) = Err (Read e)

abbrev pub if_loaded : Result (List ℕ) Refusal → Result (List Answer) RampRefusal
if_loaded (Err e) = Err (Load e)
if_loaded (Ok bytes) = read_as (ramp_of bytes)

-- the answers of the file at a path
unfoldable pub answers_at : Holding → List ℕ → Result (List Answer) RampRefusal
answers_at at path = if_loaded (refused_by Unread (load_of at path max_rule))

-- ---- what is found of them: that they are right, or the first refusal

abbrev pub Found : Type 0
Found = Result Answered RampRefusal

abbrev pub refused_as : RampFault → RampRefusal
refused_as (ramp.Step n e) = Verify e
refused_as ramp.Lines = Lines

abbrev pub found_as : Answered → Result (Unit {0}) RampFault → Found
found_as a (Ok u) = Ok a
found_as a (Err e) = Err (refused_as e)

abbrev pub IsFoundOver : Option ℕ → Question → List Answer → Result (List (List ℕ)) StepsFault → Found → Type 0
IsFoundOver refine q answers (Err e) r = r ≡ Err (Verify (Request (of_steps e)))
IsFoundOver refine q answers (Ok requests) r =
    (told : Result (Unit {0}) RampFault) × IsTold (Ok q.flags) refine requests (recorded q.evidence) answers told × (r ≡ found_as (record { question = q; requests = requests; answers = answers }) told)

-- the answers are asked for where there is a question, and steps are judged behind them
abbrev pub IsFoundOf : Option ℕ → Result Question Refusal → Result (List Answer) RampRefusal → Found → Type 0
IsFoundOf refine (Err e) answers r = r ≡ Err (Load e)
IsFoundOf refine (Ok q) (Err e) r = r ≡ Err e
IsFoundOf refine (Ok q) (Ok answers) r = IsFoundOver refine q answers (steps_of q.request) r

-- of the files at the paths
unfoldable pub IsFoundAt : Holding → Verifying → Found → Type 0
IsFoundAt at v r =
    (question : Result Question Refusal) × IsQuestionAt v.rollout.floats at v.rollout.document v.rollout.steps v.rollout.book question × IsFoundOf v.rollout.refine question (answers_at at v.ramp) r
