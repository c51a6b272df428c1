-- The calls that each command on rollouts makes, by the names that the lines of refusals have.
use Rattle.std.specs.Prelude.{Bool, true, false}
use Rattle.flagops_files.specs.Refusal as files
use Rattle.flagops_files.specs.declared.refusal.Call.{Call}
use Rattle.flagops_files.specs.declared.refusal.Call.TheVariants as file
use Rattle.flagops_rollouts.specs.Refusal.{loads, loads_question, stores_file}
use Rattle.flagops_rollouts.specs.declared.refusal.RolloutCall.{RolloutCall}
use Rattle.flagops_rollouts.specs.declared.refusal.RolloutCall.TheVariants as call

-- the calls that loading a question and a plan file makes
abbrev pub loads_answered : Call → Bool
loads_answered file.ReadPlanned = true
loads_answered c = files.loads_question c

-- those of a document and a plan file
abbrev pub loads_applied : Call → Bool
loads_applied file.ReadPlanned = true
loads_applied c = files.loads_flags c

-- those of a question and a plan file, and of writing
abbrev pub loads_kept : Call → Bool
loads_kept file.Store = true
loads_kept c = loads_answered c

-- the call of the command `verify` itself
abbrev pub verify_itself : RolloutCall → Bool
verify_itself call.Verify = true
verify_itself c = false

-- the calls that the command `verify` makes
abbrev pub verify_calls : RolloutCall → Bool
verify_calls call.Verify = true
verify_calls c = loads loads_answered c

-- the call of the command `apply` itself
abbrev pub apply_itself : RolloutCall → Bool
apply_itself call.Apply = true
apply_itself c = false

-- the calls that the command `apply` makes
abbrev pub apply_calls : RolloutCall → Bool
apply_calls call.Apply = true
apply_calls c = loads loads_applied c

-- the calls of `apply --keep` where it puts the document
abbrev pub puts_document : RolloutCall → Bool
puts_document call.Apply = true
puts_document c = stores_file c

-- the calls that `apply --keep` makes
abbrev pub keep_calls : RolloutCall → Bool
keep_calls call.Apply = true
keep_calls c = loads loads_kept c

-- the calls of the command `plan` over what it read
abbrev pub prints_plan : RolloutCall → Bool
prints_plan call.Plan = true
prints_plan call.PrintPlanned = true
prints_plan c = false

-- the calls that the command `plan` makes
abbrev pub plan_calls : RolloutCall → Bool
plan_calls call.Plan = true
plan_calls call.PrintPlanned = true
plan_calls c = loads_question c
