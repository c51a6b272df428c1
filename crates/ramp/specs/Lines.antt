-- The file of a ramp: the answers to its steps, a line for each.
use Rattle.std.specs.Prelude.{◌≡◌, ℕ, suc, ℤ, pos, ◌==◌, nat_lt, Bool, true, false, List, [], ◌∷◌, ◌++◌, length, if◌then◌else◌, Option, Some, None, option_map, option_and_then, Result, Ok, Err, codes, decimal}
use Rattle.std.specs.List.{slice_split}
use Rattle.std.specs.Result.{result_ok}
use Rattle.book_core.specs.Reading.{is_feed}
use Rattle.flag_text.specs.Printing.{text_of}
use Rattle.flag_text.specs.Readers.{member_of}
use Rattle.flag_text.specs.Reading.{tree_of}
use Rattle.flag_text.specs.Shape.{Shape, whole}
use Rattle.plan_text.specs.Answer.{Answer}
use Rattle.plan_text.specs.PlanFile.{answer_of, if_small, max_plan, planned_written}
use Rattle.plan_text.specs.declared.fault.PlanFileFault.{PlanFileFault}
use Rattle.ramp.specs.declared.file_fault.RampFileFault.{RampFileFault}
use Rattle.ramp.specs.declared.file_fault.RampFileFault.TheVariants.{Line, TooLarge}

-- ---- writing

-- `{"plan":PLAN,"step":N}` and a line feed
abbrev pub step_line : ℕ → Answer → List ℕ
step_line n answer = codes "{\"plan\":" ++ (text_of (planned_written answer) ++ (codes ",\"step\":" ++ (decimal n ++ codes "}\n")))

-- the lines of the answers, from step n on
abbrev pub lines_from : ℕ → List Answer → List ℕ
lines_from n [] = []
lines_from n (answer ∷ answers) = step_line n answer ++ lines_from (suc n) answers

-- the text of the answers, unless it is too large for a file
abbrev pub ramp_file : List Answer → Result (List ℕ) PlanFileFault
ramp_file answers = if_small (lines_from 1 answers)

-- the plan file of an answer reads as the answer
abbrev pub ReadsAgain : Answer → Type 0
ReadsAgain answer = answer_of (text_of (planned_written answer)) ≡ Ok answer

-- ---- reading

-- the number of the step is told
abbrev pub is_step : ℕ → Option Shape → Bool
is_step n (Some (whole (pos k))) = k == n
is_step n o = false

-- the answer of step n: a plan file under `plan`; other members are passed over
abbrev pub step_in : ℕ → Shape → Option Answer
step_in n t =
    if is_step n (member_of (codes "step") t) then option_and_then (λ plan. result_ok (answer_of (text_of plan))) (member_of (codes "plan") t) else None

-- the answer of the line of step n
abbrev pub step_of : ℕ → List ℕ → Option Answer
step_of n line = option_and_then (step_in n) (result_ok (tree_of line max_plan))

abbrev pub and_more : ℕ → Option Answer → Result (List Answer) RampFileFault → Result (List Answer) RampFileFault
and_more n None rest = Err (Line n)
and_more n (Some answer) (Err e) = Err e
and_more n (Some answer) (Ok answers) = Ok (answer ∷ answers)

-- behind the last line feed stands nothing
abbrev pub if_ended : ℕ → List ℕ → Result (List Answer) RampFileFault
if_ended n [] = Ok []
if_ended n (b ∷ bs) = Err (Line n)

-- the answers of the parts between line feeds, from step n on, or the first line at fault
abbrev pub read_parts : ℕ → List (List ℕ) → Result (List Answer) RampFileFault
read_parts n [] = Ok []
read_parts n (last ∷ []) = if_ended n last
read_parts n (line ∷ next ∷ parts) = and_more n (step_of n line) (read_parts (suc n) (next ∷ parts))

-- the answers of a file; its refusals in their order: too large, the first line at fault
abbrev pub ramp_of : List ℕ → Result (List Answer) RampFileFault
ramp_of bytes = if nat_lt max_plan (length bytes) then Err TooLarge else read_parts 1 (slice_split is_feed bytes)
