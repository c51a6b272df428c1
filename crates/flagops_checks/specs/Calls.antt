-- The calls that the command `check` makes, by the names that the lines of refusals have.
use Rattle.std.specs.Prelude.{Bool, true, false}
use Rattle.flagops_checks.specs.Refusal.{loads_flags}
use Rattle.flagops_checks.specs.declared.refusal.CheckCall.{CheckCall}
use Rattle.flagops_checks.specs.declared.refusal.CheckCall.TheVariants as call

-- the call of the command itself
abbrev pub check_itself : CheckCall → Bool
check_itself call.Check = true
check_itself c = false

-- and those of loading a document
abbrev pub check_calls : CheckCall → Bool
check_calls call.Check = true
check_calls c = loads_flags c
