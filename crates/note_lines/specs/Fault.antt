-- Why a book does not take a note, whose input is not too long: the page is full, or memory ran out.
use Rattle.book_core.specs.declared.fault.BookFault.{BookFault}
use Rattle.book_core.specs.declared.fault.BookFault.TheVariants as book
use Rattle.note_lines.specs.declared.fault.NotesFault.{NotesFault}
use Rattle.note_lines.specs.declared.fault.NotesFault.TheVariants.{WantOfMemory, PageFull}

abbrev pub of_note : BookFault → NotesFault
of_note book.WantOfMemory = WantOfMemory
of_note fault = PageFull
