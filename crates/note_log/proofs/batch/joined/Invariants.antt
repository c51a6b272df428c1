use Rattle.std.proofs.Common.{◌≡◌, take}
use Rattle.note_log.specs.Batch.{items_of}
use Rattle.note_log.specs.Recalled.{joined}
use Rattle.note_log.proofs.batch.joined.Given as goal

abbrev pub invariant-loop-line : goal.invariant-loop-line
invariant-loop-line l = l.bytes.items ≡ joined (items_of (take l.line-index l.lines))
