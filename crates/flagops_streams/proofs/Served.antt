-- Subscribers that were sent what was published.
use Rattle.std.proofs.Common.{◌≤◌, ℕ, Bool, true, false, Option, if◌then◌else◌, arith}
use Rattle.flagops_streams.specs.Documents.{is_served}
use Rattle.flagops_streams.specs.declared.disconnected.Disconnected.{Disconnected}

-- each counts once at most
pub at_most_one : (published : ℕ) (end : Option Disconnected) → (if is_served published end then 0 else 1) ≤ 1
at_most_one published end = by (is_served published end)
  where
    by : (b : Bool) → (if b then 0 else 1) ≤ 1
    by true = omega arith
    by false = omega arith
