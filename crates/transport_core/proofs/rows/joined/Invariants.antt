use Rattle.std.proofs.Common.{◌≡◌, ◌+◌, ◌≤◌, ◌++◌, drop}
use Rattle.transport_core.specs.Rows.{joined, joined_from, whole_amount}
use Rattle.transport_core.proofs.rows.joined.Given as goal

-- what is done, with the rest, is the whole
abbrev pub invariant-loop-next : goal.invariant-loop-next
invariant-loop-next g l = record {
  done : l.joined.items ++ joined_from g.K.PartialEq.eq (l.key, l.amount) (drop l.next-index l.rest) ≡ joined g.K.PartialEq.eq l.rows;
  left : l.amount + whole_amount (drop l.next-index l.rest) ≤ whole_amount l.rows;
}
