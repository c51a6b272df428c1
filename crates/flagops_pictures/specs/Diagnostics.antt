-- What a person is told of what a command that draws comes to: of a refusal the first file or word that was refused, and beside a report
-- what is doubted, and of a plan the rest that `plan` tells.
use Rattle.std.specs.Prelude.{[], ◌∷◌, ◌++◌, Bool, true, false, List, ℕ, unwrap_or, Some, Ok, Err}
use Rattle.flagops_rollouts.specs.Attempts.{Attempts, plan_read, question_attempts}
use Rattle.flagops_rollouts.specs.Doubts.{NamesDoubted, doubt_subjects}
use Rattle.flagops_rollouts.specs.Remarks.{TellsDoubtsAt, TellsPlanAt}
use Rattle.flagops_rollouts.specs.Subjects.{is_of_request, is_of_size, the_plan}
use Rattle.flagops_rollouts.specs.Refusal.{Remarks, Subjects, by, stores_file}
use Rattle.flagops_rollouts.specs.declared.refusal.RolloutRefusal.{RolloutRefusal}
use Rattle.flagops_rollouts.specs.declared.refusal.RolloutRefusal.TheVariants.{Verify}
use Rattle.flagops_files.specs.Told.{NamesFirst, by_kind, file, word}
use Rattle.flagops_shell.specs.Diagnostic.{Says}
use Rattle.flagops_shell.specs.Files.{Holding}
use Rattle.flagops_pictures.specs.Words.{Picturing, Planning}
use Rattle.rollout.specs.declared.verify_fault.VerifyFault.TheVariants as verdict

-- a plan is no answer to its request
abbrev pub is_of_check : RolloutRefusal → Bool
is_of_check (Verify (verdict.Check e)) = true
is_of_check e = false

-- the request or the plan, where the plan is not right
abbrev pub checked_subjects : List ℕ → List ℕ → Subjects
checked_subjects request plan = (file request, is_of_request) ∷ (file plan, is_of_check) ∷ []

-- the files of the question, the plan file, and then the check of the one against the other
abbrev pub picture_attempts : Holding → Picturing → Attempts
picture_attempts at a = question_attempts a.floats at a.document a.request a.book ++ plan_read at a.plan (checked_subjects a.request a.plan)

-- what `plan` refuses of a question
abbrev pub planned_subjects : List ℕ → List ℕ → Subjects
planned_subjects request book = (file request, is_of_request) ∷ (word the_plan, is_of_size) ∷ doubt_subjects request book

-- the file of the picture, where it could not be written
abbrev pub drawn_subjects : Planning → Subjects
drawn_subjects p = (file p.picture, by stores_file) ∷ planned_subjects p.request p.book

-- the files of the question, and then the plan and its picture
abbrev pub plan_attempts : Holding → Planning → Attempts
plan_attempts at p = question_attempts p.floats at p.document p.request p.book ++ by_kind (drawn_subjects p)

abbrev pub picture_told : Holding → Picturing → Remarks
picture_told at a (Ok report) remark = Says (NamesDoubted a.request a.book) remark × TellsDoubtsAt a.floats at a.document a.request a.book (Some remark)
picture_told at a (Err e) remark = NamesFirst (picture_attempts at a) e remark

abbrev pub plan_told : Holding → Planning → Remarks
plan_told at p (Ok report) remark = Says (NamesDoubted p.request p.book) remark × TellsPlanAt p.floats at p.document p.request p.book (unwrap_or p.refine 1) p.explain report.text (Some remark)
plan_told at p (Err e) remark = NamesFirst (plan_attempts at p) e remark
