use Rattle.note_lines.proofs.Noted.{books_begin, lines_begin}
use Rattle.note_lines.proofs.book_laws.a_file_begins_as_it_is.Goals as goal

pub returns : goal.returns
returns c = record { book = books_begin; lines = lines_begin }
