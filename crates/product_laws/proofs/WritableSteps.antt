-- So are those of the steps of ramps that are read.
use Rattle.std.proofs.Common.{ℕ, suc, Bool, true, false, cond, nat_lt, List, [], ◌∷◌, length, Option, Some, None, option_and_then, Result, Ok, Err, codes}
use Rattle.std.specs.List.{AllByRecursion, slice_split}
use Rattle.std.specs.Prelude.{IfSome}
use Rattle.std.specs.Result.{result_ok}
use Rattle.book_core.specs.Reading.{is_feed}
use Rattle.flag_text.specs.Printing.{text_of}
use Rattle.flag_text.specs.Readers.{member_of}
use Rattle.flag_text.specs.Reading.{tree_of}
use Rattle.flag_text.specs.Shape.{Shape}
use Rattle.flagops_files.specs.Loading.{max_rule}
use Rattle.flagops_files.specs.declared.refusal.Refusal.TheVariants as file
use Rattle.flagops_ramps.specs.Judging.{answers_at, if_loaded, read_as}
use Rattle.flagops_shell.specs.Files.{Holding, load_of}
use Rattle.flagops_shell.specs.Outcomes.{refused_by}
use Rattle.flagops_shell.specs.declared.files.LoadFault.{LoadFault}
use Rattle.plan_text.specs.Answer.{Answer}
use Rattle.plan_text.specs.PlanFile.{answer_of, max_plan}
use Rattle.ramp.specs.Lines.{and_more, if_ended, is_step, ramp_of, read_parts, step_in, step_of}
use Rattle.ramp.specs.declared.file_fault.RampFileFault.{RampFileFault}
use Rattle.ramp.specs.declared.file_fault.RampFileFault.TheVariants.{TooLarge}
use Rattle.product_laws.proofs.Writable.{IsWritableAnswer, IsWritablePlan, answer_writable, some_of}

-- the rule of each step, if it has one, is such a rule
abbrev pub AreWritable : {E : Type 0} → Result (List Answer) E → Type 0
AreWritable (Ok answers) = AllByRecursion IsWritableAnswer answers
AreWritable (Err e) = Unit {0}

of_answer : {E : Type 0} (r : Result Answer E) → IsWritablePlan r → IfSome (result_ok r) IsWritableAnswer
of_answer (Ok answer) h = h
of_answer (Err e) h = tt

step_writable : (n : ℕ) (line : List ℕ) → IfSome (step_of n line) IsWritableAnswer
step_writable n line = some_of IsWritableAnswer (step_in n) (λ t. by t (is_step n (member_of (codes "step") t))) (result_ok (tree_of line max_plan))
  where
    by : (t : Shape) (b : Bool) → IfSome (cond b (option_and_then (λ plan. result_ok (answer_of (text_of plan))) (member_of (codes "plan") t)) None) IsWritableAnswer
    by t true = some_of IsWritableAnswer (λ plan. result_ok (answer_of (text_of plan))) (λ plan. of_answer (answer_of (text_of plan)) (answer_writable (text_of plan))) (member_of (codes "plan") t)
    by t false = tt

more_writable : (n : ℕ) (o : Option Answer) (r : Result (List Answer) RampFileFault) → IfSome o IsWritableAnswer → AreWritable r → AreWritable (and_more n o r)
more_writable n None r h g = tt
more_writable n (Some answer) (Err e) h g = tt
more_writable n (Some answer) (Ok answers) h g = (h, g)

ended_writable : (n : ℕ) (last : List ℕ) → AreWritable (if_ended n last)
ended_writable n [] = tt
ended_writable n (b ∷ bs) = tt

parts_writable : (n : ℕ) (parts : List (List ℕ)) → AreWritable (read_parts n parts)
parts_writable n [] = tt
parts_writable n (last ∷ []) = ended_writable n last
parts_writable n (line ∷ next ∷ parts) = more_writable n (step_of n line) (read_parts (suc n) (next ∷ parts)) (step_writable n line) (parts_writable (suc n) (next ∷ parts))

ramp_writable : (bytes : List ℕ) → AreWritable (ramp_of bytes)
ramp_writable bytes = by (nat_lt max_plan (length bytes))
  where
    by : (b : Bool) → AreWritable (cond b (Err TooLarge) (read_parts 1 (slice_split is_feed bytes)))
    by true = tt
    by false = parts_writable 1 (slice_split is_feed bytes)

read_so : (r : Result (List Answer) RampFileFault) → AreWritable r → AreWritable (read_as r)
read_so (Ok answers) h = h
read_so (Err e) h = tt

-- the answers of the file of a ramp
pub answers_writable : (at : Holding) (path : List ℕ) → AreWritable (answers_at at path)
unfolding answers_at
answers_writable at path = by (load_of at path max_rule)
  where
    by : (l : Result (List ℕ) LoadFault) → AreWritable (if_loaded (refused_by file.Load l))
    by (Err e) = tt
    by (Ok bytes) = read_so (ramp_of bytes) (ramp_writable bytes)
