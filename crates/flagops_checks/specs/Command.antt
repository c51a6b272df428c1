-- What is known of the command `check`.
use Rattle.std.specs.Prelude.{◌≡◌}
use Rattle.flagops_checks.specs.Calls.{check_calls}
use Rattle.flagops_checks.specs.Refusal.{call_name, call_of}
use Rattle.flagops_checks.specs.Report.{IsCheckReport, remark_of}
use Rattle.flagops_checks.specs.Words.{Checking, check_by, check_faults}
use Rattle.flagops_shell.specs.Described.{described}
use Rattle.flagops_checks.specs.declared.refusal.CheckRefusal.{CheckRefusal}
use Rattle.flagops_shell.specs.Running.{Description}

-- its words, what it comes to over the files, what a person is told of that, and its calls; files are only read
abbrev pub description : Description Checking CheckRefusal
description = described call_name call_of check_by check_faults (λ c at after. IsCheckReport at c) (λ c at. remark_of at c) (λ c. check_calls) (λ c old new. new ≡ old)
