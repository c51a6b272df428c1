use Rattle.std.proofs.Common.{◌≡◌, length}
use Rattle.flagops_shell.specs.Beginning.{may_begin_notes}
use Rattle.flagops_shell.proofs.beginning.may_begin_notes.Given as goal

-- the rest answers as all
abbrev pub invariant-bytes : goal.invariant-bytes
invariant-bytes l = may_begin_notes l.left ≡ may_begin_notes l.bytes

abbrev pub decreases-bytes : goal.decreases-bytes
decreases-bytes l = length l.left
