-- What the command `verify-ramp` answers.
use Rattle.std.specs.Prelude.{◌≡◌, Bool, false, List, ℕ, [], ◌∷◌, ◌++◌, codes, decimal, Ok, Err}
use Rattle.flagops_shell.specs.Files.{Holding}
use Rattle.plan_text.specs.Answer.{Answer, emit, none_exists}
use Rattle.flagops_ramps.specs.Doubts.{beside, doubt_of_steps, settle}
use Rattle.flagops_ramps.specs.Judging.{Found, IsFoundAt}
use Rattle.flagops_ramps.specs.Report.{Came}
use Rattle.flagops_ramps.specs.Words.{Verifying}
use Rattle.flagops_ramps.specs.declared.refusal.StepCall.TheVariants as call

-- what a step costs, or `none` where no rule fits it, behind a blank
abbrev pub cost_item : Answer → List ℕ
cost_item (emit rule c) = codes " " ++ decimal c.cost
cost_item (none_exists kind names) = codes " none"

-- that of each step, and a line feed
abbrev pub cost_items : List Answer → List ℕ
cost_items [] = codes "\n"
cost_items (answer ∷ answers) = cost_item answer ++ cost_items answers

-- what right answers prove
abbrev pub valid_ramp : List Answer → List ℕ
valid_ramp answers = codes "valid cost" ++ cost_items answers

-- the report of right answers
abbrev pub report_valid : List Answer → Came
report_valid answers = Ok (record { text = valid_ramp answers; status = 0; is_told = false })

-- the report of what is found of the answers; where they are right, a person is told of a doubt beside it
abbrev pub report_found : Bool → Found → Came
report_found strict (Ok a) = beside (settle call.VerifyRamp strict (doubt_of_steps a.question a.requests)) (report_valid a.answers)
report_found strict (Err e) = Err e

-- what the files at the paths make
unfoldable pub IsVerdictReport : Holding → Verifying → Came → Type 0
IsVerdictReport at v r = (found : Found) × IsFoundAt at v found × (r ≡ report_found v.rollout.strict found)
