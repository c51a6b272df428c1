use Rattle.std.proofs.Common.{◌≡◌, vec_len}
use Rattle.flagops_service.proofs.command.none_refused.Given as goal

-- none for each document so far
abbrev pub invariant-loop-document : goal.invariant-loop-document
invariant-loop-document l = vec_len l.refused ≡ l._document
