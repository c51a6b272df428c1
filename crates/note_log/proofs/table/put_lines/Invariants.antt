use Rattle.std.proofs.Common.{◌≡◌, length}
use Rattle.note_log.specs.Files.{History}
use Rattle.note_log.specs.Memory.{AllStand, AllStandAt}
use Rattle.note_log.proofs.table.put_lines.Given as goal

abbrev pub invariant-loop-line : goal.invariant-loop-line
invariant-loop-line l =
    ((history : History) → AllStand history l.initial.table.entries → AllStandAt history l.number l.fn.lines.items → AllStand history l.table.entries × AllStandAt history l.number l.lines.items)
    × (l.table.cap ≡ l.initial.table.cap)

abbrev pub decreases-loop-line : goal.decreases-loop-line
decreases-loop-line l = length l.lines.items
