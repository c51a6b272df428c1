use Rattle.std.proofs.Common.{◌≡◌, drop}
use Rattle.note_lines.specs.Blank.{begins_book}
use Rattle.note_lines.proofs.opening.begins_book.Given as goal

-- the rest answers as all
abbrev pub invariant-loop-byte : goal.invariant-loop-byte
invariant-loop-byte l = begins_book (drop l.byte-index l.bytes) ≡ begins_book l.bytes
