use Rattle.std.proofs.Common.{◌≡◌, ◌≤◌, ◌-◌, drop}
use Rattle.flag_defs.specs.Document.{max_bytes}
use Rattle.flag_defs.specs.Lent.{lent_view}
use Rattle.flag_defs.proofs.Bytes.{exceeds}
use Rattle.flag_defs.proofs.lent.are_heavy.Given as goal

abbrev pub invariant-loop-key : goal.invariant-loop-key
invariant-loop-key l = (l.left ≤ max_bytes) × (exceeds l.left (lent_view (drop l.key-index l.entries)) ≡ exceeds (max_bytes - 11) (lent_view l.entries))
