use Rattle.std.proofs.Common.{drop}
use Rattle.transport_core.specs.Groups.{rows_view}
use Rattle.transport_core.proofs.Tallied.{Pending}
use Rattle.transport_core.proofs.counted.add_counts.Given as goal

-- what is written, what is pending and the rest are all
abbrev pub invariant-loop-next : goal.invariant-loop-next
invariant-loop-next l = Pending l.name l.counts (rows_view l.initial.rows.items) (rows_view l.rows.items) l.count l.points (drop l.next-index l.rest)
