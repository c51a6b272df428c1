-- A note and its line, as `book_core` has them.
pub use Rattle.book_core.specs.Note.{Noted, IsNote, most_noted, parts_shape, note_shape}
unfoldable pub use Rattle.book_core.specs.Note.{note_line}
