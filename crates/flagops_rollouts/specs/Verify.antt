-- What the command `verify` answers.
use Rattle.std.specs.Prelude.{◌≡◌, ℕ, Bool, List, ◌++◌, codes, decimal, if◌then◌else◌, OnOk, Option, Result, Ok, Err}
use Rattle.flag_defs.specs.Document.{Definitions}
use Rattle.plan_text.specs.Answer.{Answer, emit, none_exists}
use Rattle.rollout.specs.Refined.{problem_checked, refining_checked}
use Rattle.rollout.specs.CheckedTally.{IsTallyOutcome, IsTallyShown, TallyProblem, tally_problem_of}
use Rattle.rollout.specs.Verified.{IsOutcome, IsShown}
use Rattle.rollout.specs.declared.fault.RolloutFault.{RolloutFault}
use Rattle.rollout.specs.declared.verify_fault.VerifyFault.{VerifyFault}
use Rattle.note_tallies.specs.Tally.{PageTally}
use Rattle.flagops_shell.specs.Files.{Holding}
use Rattle.flagops_shell.specs.Outcomes.{◌>>=◌, refused_by, beside, done}
use Rattle.flagops_rollouts.specs.Loaded.{plan_at, IsQuestionAt}
use Rattle.flagops_files.specs.Question.{Question}
use Rattle.flagops_rollouts.specs.Refusal.{Outcomes}
use Rattle.flagops_shell.specs.Report.{Report}
use Rattle.flagops_rollouts.specs.Doubts.{doubt_of, settle}
use Rattle.flagops_rollouts.specs.declared.refusal.RolloutCall.TheVariants as call
use Rattle.flagops_files.specs.declared.evidence.Evidence.{Evidence}
use Rattle.flagops_files.specs.declared.evidence.Evidence.TheVariants.{Book, Tally}
use Rattle.flagops_rollouts.specs.declared.refusal.RolloutRefusal.{RolloutRefusal}
use Rattle.flagops_rollouts.specs.declared.refusal.RolloutRefusal.TheVariants.{Verify}

-- what a valid answer proves: the cost of its rule, or that there is none
unfoldable pub valid_text : Answer → List ℕ
valid_text (emit rule c) = codes "valid cost " ++ (decimal c.cost ++ codes "\n")
valid_text (none_exists kind names) = codes "valid none\n"

-- the same as one JSON text, the cost null where there is no rule
unfoldable pub valid_json : Answer → List ℕ
valid_json (emit rule c) = codes "{\"cost\":" ++ (decimal c.cost ++ codes ",\"valid\":true}\n")
valid_json (none_exists kind names) = codes "{\"cost\":null,\"valid\":true}\n"

-- the line, or with `--json` the JSON text
abbrev pub valid_as : Bool → Answer → List ℕ
valid_as json answer = if json then valid_json answer else valid_text answer

-- the report of what is told of an answer, beside which a person is told more, or not
abbrev pub told : Bool → Result Bool RolloutRefusal → Answer → Result (Unit {0}) VerifyFault → Result Report RolloutRefusal
told json settled answer verdict = refused_by Verify verdict >>= λ _. settled >>= λ noted. beside noted (done (valid_as json answer))

-- what an answer is checked against on a tally: the rule refined as on a book
abbrev pub tally_problem_checked : Option ℕ → Answer → Definitions → List ℕ → PageTally → Result TallyProblem RolloutFault
tally_problem_checked refine answer = tally_problem_of (refining_checked refine answer)

-- what is told of an answer, over the inputs of a book, or over all inputs of which so many fall on each point as a tally says
abbrev pub IsToldOn : Option ℕ → Answer → Definitions → List ℕ → Evidence → Result (Unit {0}) VerifyFault → Type 0
IsToldOn refine answer flags request (Book book) verdict = IsOutcome (problem_checked refine answer flags request book) answer verdict
IsToldOn refine answer flags request (Tally tally) verdict = IsTallyOutcome (tally_problem_checked refine answer flags request tally) answer verdict

-- what then holds of an answer that is right, over the same inputs
abbrev pub IsShownOn : Option ℕ → Answer → Definitions → List ℕ → Evidence → Type 0
IsShownOn refine answer flags request (Book book) = IsShown (problem_checked refine answer flags request book) answer
IsShownOn refine answer flags request (Tally tally) = IsTallyShown (tally_problem_checked refine answer flags request tally) answer

-- what may be told of an answer to a question
pub record MayBeTold (refine : Option ℕ) (q : Question) (answer : Answer) (verdict : Result (Unit {0}) VerifyFault) : Type 0 where
  -- that it is right, or the first refusal of the request or of the check
  pub told : IsToldOn refine answer q.flags q.request q.evidence verdict
  -- and where it is right, its rule costs the recorded inputs the least of all that fit, or no rule fits
  pub shown : OnOk verdict (IsShownOn refine answer q.flags q.request q.evidence)

-- its report, unless it is doubted and `--strict` refuses that; the answer is asked for where there is a question
abbrev pub IsVerdict : Bool → Bool → Option ℕ → Result Question RolloutRefusal → Result Answer RolloutRefusal → Outcomes
IsVerdict strict json refine (Err e) answer r = r ≡ Err e
IsVerdict strict json refine (Ok q) (Err e) r = r ≡ Err e
IsVerdict strict json refine (Ok q) (Ok answer) r =
    (verdict : Result (Unit {0}) VerifyFault) × MayBeTold refine q answer verdict × (r ≡ told json (settle call.Verify strict (doubt_of q)) answer verdict)

unfoldable pub IsVerifyReport : Bool → Holding → List ℕ → List ℕ → List ℕ → List ℕ → Option ℕ → Bool → Bool → Outcomes
IsVerifyReport floats at document request book plan refine strict json r =
    (question : Result Question RolloutRefusal) × IsQuestionAt floats at document request book question × IsVerdict strict json refine question (plan_at at plan) r
