-- What a person is told beside the answers of each command on steps, part after part.
use Rattle.std.specs.Prelude.{◌≡◌, ◌++◌, ℕ, List, [], ◌∷◌, unwrap_or, Option, Some, Ok}
use Rattle.std.specs.Result.{result_ok}
use Rattle.flag_defs.specs.Document.{Definitions}
use Rattle.flagops_files.specs.Documents.{IsDocumentAs}
use Rattle.flagops_files.specs.Loading.{max_text}
use Rattle.flagops_files.specs.Question.{Question, IsQuestionAt}
use Rattle.flagops_shell.specs.Files.{Holding, load_of}
use Rattle.flagops_shell.specs.declared.refused.Remark.{Remark}
use Rattle.plan_text.specs.Answer.{Answer}
use Rattle.price_core.specs.Request.{asked_of}
use Rattle.ramp.specs.Steps.{steps_of}
use Rattle.flagops_rollouts.specs.Beside.{Part, Tells}
use Rattle.flagops_rollouts.specs.Finer.{finer_parts, times_asked}
use Rattle.flagops_rollouts.specs.Remarks.{applied_parts}
use Rattle.flagops_ramps.specs.Apply.{answer_to}
use Rattle.flagops_ramps.specs.Doubts.{doubt_parts_of_steps, first_request}
use Rattle.flagops_ramps.specs.Judging.{answers_at}
use Rattle.flagops_ramps.specs.Keep.{from_step}
use Rattle.flagops_ramps.specs.Ramp.{Holds}
use Rattle.flagops_ramps.specs.Words.{Applying, Keeping, Ramping, Verifying}

-- ---- `ramp`: each doubt, and once that the rules have finer points than the site

abbrev pub ramp_finer_parts : List ℕ → ℕ → List Answer → List Part
ramp_finer_parts steps m [] = []
ramp_finer_parts steps m (answer ∷ answers) = finer_parts steps m answer

abbrev pub ramp_parts : Ramping → Question → List (List ℕ) → List Answer → List Part
ramp_parts a q requests answers = doubt_parts_of_steps a.steps a.book q requests ++ ramp_finer_parts a.steps (unwrap_or a.refine 1) answers

-- of the answers that a text holds, to the steps of a question, and of the files at the paths
unfoldable pub TellsRampOf : Ramping → Question → List ℕ → Option Remark → Type 0
TellsRampOf a q text told = (requests : List (List ℕ)) × (answers : List Answer) × (steps_of q.request ≡ Ok requests) × Holds answers text × Tells (ramp_parts a q requests answers) told

unfoldable pub TellsRampAt : Holding → Ramping → List ℕ → Option Remark → Type 0
TellsRampAt at a text told = (q : Question) × IsQuestionAt a.floats at a.document a.steps a.book (Ok q) × TellsRampOf a q text told

-- ---- `verify-ramp`: each doubt

unfoldable pub TellsVerdictAt : Holding → Verifying → Option Remark → Type 0
TellsVerdictAt at v told =
    (q : Question) × (requests : List (List ℕ)) × IsQuestionAt v.rollout.floats at v.rollout.document v.rollout.steps v.rollout.book (Ok q) × (steps_of q.request ≡ Ok requests) × Tells (doubt_parts_of_steps v.rollout.steps v.rollout.book q requests) told

-- ---- `apply --step --keep`: each doubt, and that the rule has finer points than the one that stood at the site

abbrev pub put_finer_parts : List ℕ → Definitions → List (List ℕ) → List Answer → List Part
put_finer_parts steps flags requests [] = []
put_finer_parts steps flags requests (answer ∷ answers) = finer_parts steps (times_asked flags (result_ok (asked_of (first_request requests))) answer) answer

abbrev pub keep_parts : Keeping → Question → List (List ℕ) → List Answer → List Part
keep_parts k q requests answers =
    doubt_parts_of_steps k.answered.rollout.steps k.answered.rollout.book q requests ++ put_finer_parts k.answered.rollout.steps q.flags (from_step k.step requests) (from_step k.step answers)

-- of the steps of a question, and the answers of a file, and of the files at the paths
unfoldable pub TellsKeepFrom : Holding → Keeping → Question → Option Remark → Type 0
TellsKeepFrom at k q told = (requests : List (List ℕ)) × (answers : List Answer) × (answers_at at k.answered.ramp ≡ Ok answers) × (steps_of q.request ≡ Ok requests) × Tells (keep_parts k q requests answers) told

unfoldable pub TellsKeepAt : Holding → Keeping → Option Remark → Type 0
TellsKeepAt at k told = (q : Question) × IsQuestionAt k.answered.rollout.floats at k.answered.rollout.document k.answered.rollout.steps k.answered.rollout.book (Ok q) × TellsKeepFrom at k q told

-- ---- `apply --step`: what is told beside the document that `apply` prints of the answer to the step

unfoldable pub TellsStepOf : Applying → List ℕ → Definitions → List Answer → Option Remark → Type 0
TellsStepOf a document flags answers told = (answer : Answer) × (Some answer ≡ answer_to answers a.step) × Tells (applied_parts a.floats a.document document flags a.key a.site answer) told

-- of the answers of a file, and of the files at the paths
unfoldable pub TellsStepFrom : Holding → Applying → List ℕ → Definitions → Option Remark → Type 0
TellsStepFrom at a document flags told = (answers : List Answer) × (answers_at at a.ramp ≡ Ok answers) × TellsStepOf a document flags answers told

unfoldable pub TellsStepAt : Holding → Applying → Option Remark → Type 0
TellsStepAt at a told = (document : List ℕ) × (flags : Definitions) × (load_of at a.document max_text ≡ Ok document) × IsDocumentAs a.floats at a.document (Ok flags) × TellsStepFrom at a document flags told
