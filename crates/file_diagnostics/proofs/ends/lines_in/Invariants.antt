use Rattle.std.proofs.Common.{◌≡◌, ◌+◌, ◌≤◌, count_by, drop}
use Rattle.file_diagnostics.specs.Ends.{is_feed}
use Rattle.file_diagnostics.proofs.ends.lines_in.Given as goal

abbrev pub invariant-loop-byte : goal.invariant-loop-byte
invariant-loop-byte l = (l.feeds + count_by is_feed (drop l.byte-index l.bytes) ≡ count_by is_feed l.bytes) × (l.feeds ≤ l.byte-index)
