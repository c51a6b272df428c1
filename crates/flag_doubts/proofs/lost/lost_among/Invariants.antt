use Rattle.std.proofs.Common.{◌≡◌, ℕ, length}
use Rattle.flag_defs.specs.Flags.{flags_view}
use Rattle.flag_doubts.specs.Regression.{first_lost}
use Rattle.flag_doubts.proofs.lost.lost_among.Given as goal

-- what is lost among the tokens that are left is what is lost among all of them
abbrev pub invariant-tokens : goal.invariant-tokens
invariant-tokens l = first_lost (flags_view l.current) (flags_view l.later) l.reader ≡ first_lost (flags_view l.current) (flags_view l.later) l.initial.reader

abbrev pub decreases-tokens : goal.decreases-tokens
decreases-tokens l = length l.reader
