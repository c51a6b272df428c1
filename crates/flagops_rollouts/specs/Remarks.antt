-- What a person is told beside the answer of each command on rollouts, part after part.
use Rattle.std.specs.Prelude.{◌≡◌, ◌++◌, ℕ, Bool, List, [], Option, Ok}
use Rattle.std.specs.Result.{result_ok}
use Rattle.bucket_core.specs.Rule.{total_weight}
use Rattle.flag_defs.specs.Document.{Definitions}
use Rattle.plan_text.specs.Answer.{Answer, emit, none_exists}
use Rattle.price_core.specs.Request.{asked_of}
use Rattle.flagops_files.specs.Loading.{max_text}
use Rattle.flagops_files.specs.Question.{Question}
use Rattle.flagops_shell.specs.Files.{Holding, load_of}
use Rattle.flagops_shell.specs.declared.refused.Remark.{Remark}
use Rattle.flagops_rollouts.specs.Beside.{Part, Tells, part_if}
use Rattle.flagops_rollouts.specs.ByHand.{TellsEdit}
use Rattle.flagops_rollouts.specs.Doubts.{doubt_parts}
use Rattle.flagops_rollouts.specs.Finer.{finer_part, finer_parts, times_asked, times_at}
use Rattle.flagops_rollouts.specs.Loaded.{IsDocumentAt, IsQuestionAt, plan_at}
use Rattle.flagops_rollouts.specs.Omitted.{TellsOmitted, is_omitting}
use Rattle.flagops_rollouts.specs.Plan.{Holds}

-- `plan`: the answer in words where that is asked for, each doubt, and that its rule has finer points
abbrev pub plan_parts : List ℕ → List ℕ → Question → ℕ → Bool → Answer → List Part
plan_parts request book q m explain answer = (part_if explain (TellsEdit request q m answer) ++ doubt_parts request book q) ++ finer_parts request m answer

-- of the answer that a text holds
unfoldable pub TellsPlan : List ℕ → List ℕ → Question → ℕ → Bool → List ℕ → Option Remark → Type 0
TellsPlan request book q m explain text told = (answer : Answer) × Holds answer text × Tells (plan_parts request book q m explain answer) told

-- and of the question of the files at these paths
unfoldable pub TellsPlanAt : Bool → Holding → List ℕ → List ℕ → List ℕ → ℕ → Bool → List ℕ → Option Remark → Type 0
TellsPlanAt floats at document request book m explain text told = (q : Question) × IsQuestionAt floats at document request book (Ok q) × TellsPlan request book q m explain text told

-- `verify`: each doubt
unfoldable pub TellsDoubtsAt : Bool → Holding → List ℕ → List ℕ → List ℕ → Option Remark → Type 0
TellsDoubtsAt floats at document request book told = (q : Question) × IsQuestionAt floats at document request book (Ok q) × Tells (doubt_parts request book q) told

-- `apply --keep`: each doubt, and that the rule has finer points than the one that stood at the site
abbrev pub keep_parts : List ℕ → List ℕ → Question → Answer → List Part
keep_parts request book q answer = doubt_parts request book q ++ finer_parts request (times_asked q.flags (result_ok (asked_of q.request)) answer) answer

unfoldable pub TellsKeptAt : Bool → Holding → List ℕ → List ℕ → List ℕ → List ℕ → Option Remark → Type 0
TellsKeptAt floats at document plan request book told =
    (q : Question) × (answer : Answer) × IsQuestionAt floats at document request book (Ok q) × (plan_at at plan ≡ Ok answer) × Tells (keep_parts request book q answer) told

-- `apply`: what the printed form of the document leaves out, and that the rule has finer points than the one that stood at the site
abbrev pub applied_parts : Bool → List ℕ → List ℕ → Definitions → List ℕ → ℕ → Answer → List Part
applied_parts floats path document flags key site (emit rule c) = part_if (is_omitting floats document flags) (TellsOmitted path flags) ++ finer_part path (times_at flags key site (total_weight rule)) (total_weight rule)
applied_parts floats path document flags key site (none_exists kind names) = []

unfoldable pub TellsAppliedAt : Bool → Holding → List ℕ → List ℕ → List ℕ → ℕ → Option Remark → Type 0
TellsAppliedAt floats at path plan key site told =
    (document : List ℕ) × (flags : Definitions) × (answer : Answer) × (load_of at path max_text ≡ Ok document) × IsDocumentAt floats at path (Ok flags) × (plan_at at plan ≡ Ok answer)
    × Tells (applied_parts floats path document flags key site answer) told
