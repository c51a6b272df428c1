use Rattle.std.proofs.Common.{◌≡◌, length}
use Rattle.logic_values.specs.Decimal.{without_trailing_zeros}
use Rattle.logic_values.proofs.digits.before_zeros.Given as goal

abbrev pub invariant-loop-last : goal.invariant-loop-last
invariant-loop-last l = without_trailing_zeros l.rest ≡ without_trailing_zeros l.digits

abbrev pub decreases-loop-last : goal.decreases-loop-last
decreases-loop-last l = length l.rest
