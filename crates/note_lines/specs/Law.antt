-- That each line is that of one note.
use Rattle.std.specs.Prelude.{◌≡◌, ◌≢◌}
use Rattle.note_lines.specs.Hashed.{Hashed, IsHashed, hashed_line}
use Rattle.note_lines.specs.Note.{Noted, note_line}

-- the lines of different notes without inputs differ
abbrev pub EachHasItsLine : Type 0
EachHasItsLine = (one other : Hashed) → IsHashed one → IsHashed other → hashed_line one ≡ hashed_line other → one ≡ other

-- no line is that of a note and that of one without its input
abbrev pub NoLineIsOfBoth : Type 0
NoLineIsOfBoth = (note : Noted) (other : Hashed) → IsHashed other → note_line note ≢ hashed_line other
