-- What a person is told of a refusal of a command on rollouts: the files at its paths and its words stand here, each with the
-- refusals that are of it.
use Rattle.std.specs.Prelude.{ℕ, Bool, true, false, List, [], ◌∷◌, ◌++◌, codes}
use Rattle.flagops_rollouts.specs.Loaded.{question_subjects}
use Rattle.flagops_rollouts.specs.Refusal.{loads_flags, loads_plan, stores_file, Subjects, by}
use Rattle.flagops_files.specs.Told.{file, word}
use Rattle.flagops_rollouts.specs.declared.keep_refusal.KeepRefusal.TheVariants as keeping
use Rattle.flagops_rollouts.specs.declared.refusal.RolloutRefusal.{RolloutRefusal}
use Rattle.flagops_rollouts.specs.declared.refusal.RolloutRefusal.TheVariants.{Plan, PrintPlanned, Verify, Apply, Keep, Omitted}
use Rattle.file_diagnostics.specs.Named.{Names}
use Rattle.flagops_rollouts.specs.Doubts.{doubt_subjects}
use Rattle.rollout.specs.declared.verify_fault.VerifyFault.{VerifyFault}
use Rattle.rollout.specs.declared.verify_fault.VerifyFault.TheVariants as verdict

-- a plan is refused as no answer to its request, or the request itself
abbrev pub is_of_request : RolloutRefusal → Bool
is_of_request (Verify (verdict.Request e)) = true
is_of_request (Plan e) = true
is_of_request e = false

abbrev pub is_of_answer : RolloutRefusal → Bool
is_of_answer (Verify (verdict.Check e)) = true
is_of_answer e = by loads_plan e

abbrev pub verify_subjects : List ℕ → List ℕ → List ℕ → List ℕ → Subjects
verify_subjects document request book answer = question_subjects document request book ++ (file request, is_of_request) ∷ (file answer, is_of_answer) ∷ doubt_subjects request book

-- what is said of an answer that is not verified
abbrev pub NamesVerified : List ℕ → List ℕ → VerifyFault → List ℕ → Type 0
NamesVerified request answer (verdict.Request e) lines = Names request lines
NamesVerified request answer (verdict.Check e) lines = Names answer lines

-- a plan is refused as a file, or where its rule is put
abbrev pub is_of_plan : RolloutRefusal → Bool
is_of_plan (Apply e) = true
is_of_plan e = by loads_plan e

-- a document is refused where it is printed, for what is left out of it
abbrev pub is_of_printed : RolloutRefusal → Bool
is_of_printed Omitted = true
is_of_printed e = false

abbrev pub applied_subjects : List ℕ → List ℕ → Subjects
applied_subjects document answer = (file document, is_of_printed) ∷ (file answer, is_of_plan) ∷ []

abbrev pub apply_subjects : List ℕ → List ℕ → Subjects
apply_subjects document answer = (file document, by loads_flags) ∷ applied_subjects document answer

-- a document that is to keep what else it has is refused with its request, with its plan, or by itself
abbrev pub is_of_kept_request : RolloutRefusal → Bool
is_of_kept_request (Keep (keeping.Verify (verdict.Request e))) = true
is_of_kept_request e = false

abbrev pub is_of_kept_answer : RolloutRefusal → Bool
is_of_kept_answer (Keep (keeping.Verify (verdict.Check e))) = true
is_of_kept_answer e = is_of_plan e

abbrev pub is_of_kept_document : RolloutRefusal → Bool
is_of_kept_document (Keep (keeping.Document e)) = true
is_of_kept_document e = by stores_file e

abbrev pub keep_subjects : List ℕ → List ℕ → List ℕ → List ℕ → Subjects
keep_subjects document answer request book =
    question_subjects document request book ++ (file request, is_of_kept_request) ∷ (file answer, is_of_kept_answer) ∷ (file document, is_of_kept_document) ∷ doubt_subjects request book

-- a plan that is too large to be printed
abbrev pub is_of_size : RolloutRefusal → Bool
is_of_size (PrintPlanned e) = true
is_of_size e = false

abbrev pub the_plan : List ℕ
the_plan = codes "the plan"

abbrev pub plan_subjects : List ℕ → List ℕ → List ℕ → Subjects
plan_subjects document request book = question_subjects document request book ++ (file request, is_of_request) ∷ (word the_plan, is_of_size) ∷ doubt_subjects request book
