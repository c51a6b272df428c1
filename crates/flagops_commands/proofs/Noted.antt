-- What is told beside a report.
use Rattle.std.proofs.Common.{◌≡◌, ℕ, List, Option, Some, None, Result, IfOk, IfSome}
use Rattle.std.specs.Prelude.{Ok, Err}
use Rattle.flagops_shell.specs.Diagnostic.{Says}
use Rattle.flagops_shell.specs.Files.{Holding}
use Rattle.flagops_shell.specs.declared.outcome.Outcome.{Outcome}
use Rattle.flagops_rollouts.specs.Beside.{Tells}
use Rattle.flagops_rollouts.specs.Doubts.{request_parts}
use Rattle.flagops_commands.specs.Loaded.{bytes_at}
use Rattle.flagops_commands.specs.Price.{TellsRequestAt}
use Rattle.flagops_commands.specs.Refusal.{Refused}
use Rattle.flagops_shell.specs.declared.refused.Remark.{Remark}
use Rattle.flagops_shell.specs.declared.refused.Remark.TheVariants.{Short, Lines}

says_nothing : (o : Option Remark) → IfSome o (Says (λ lines. Unit {0}))
says_nothing None = tt
says_nothing (Some Short) = tt
says_nothing (Some (Lines lines)) = tt

-- a command of which nothing is noted
pub nothing : (r : Result Outcome Refused) → IfOk r (λ o. IfSome o.remark (Says (λ lines. Unit {0})))
nothing (Ok o) = says_nothing o.remark
nothing (Err e) = tt

-- nor of its numbers
pub no_numbers : (files : Option Holding) (r : Result Outcome Refused) → IfOk r (λ o. IfSome files (λ at. IfSome o.remark (Says (λ lines. Unit {0}))))
no_numbers files (Err e) = tt
no_numbers None (Ok o) = tt
no_numbers (Some at) (Ok o) = says_nothing o.remark

-- nor of its parts
pub no_parts : (files : Option Holding) (r : Result Outcome Refused) → IfSome files (λ at. IfOk r (λ o. Unit {0}))
no_parts None r = tt
no_parts (Some at) (Ok o) = tt
no_parts (Some at) (Err e) = tt

-- ---- of a request

request_there : {X E : Type 0} (remark_of : X → Option Remark) (path bytes : List ℕ) (at : Holding) (r : Result X E) → bytes_at at path ≡ Ok bytes → IfOk r (λ x. Tells (request_parts path bytes) (remark_of x)) → IfOk r (λ x. TellsRequestAt at path (remark_of x))
unfolding TellsRequestAt
request_there remark_of path bytes at (Ok x) is told = (bytes, is, told)
request_there remark_of path bytes at (Err e) is told = tt

-- what is told of bytes is told of the file that has them
pub request_told_at : {X E : Type 0} (remark_of : X → Option Remark) (path bytes : List ℕ) (old : Option Holding) (r : Result X E) → IfSome old (λ at. bytes_at at path ≡ Ok bytes) → IfOk r (λ x. Tells (request_parts path bytes) (remark_of x))
    → IfSome old (λ at. IfOk r (λ x. TellsRequestAt at path (remark_of x)))
request_told_at remark_of path bytes None r is told = tt
request_told_at remark_of path bytes (Some at) r is told = request_there remark_of path bytes at r is told
