use Rattle.note_lines.proofs.Noted.{notes_its_lines}
use Rattle.note_lines.proofs.book_laws.a_file_notes_its_lines.Goals as goal

pub returns : goal.returns
returns c = notes_its_lines
