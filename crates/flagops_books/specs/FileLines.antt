-- A file that could not be read or written is reported by one of two lines, as every other command reports it.
use Rattle.std.specs.Prelude.{◌≡◌, true}
use Rattle.flagops_files.specs.FileLines as files
use Rattle.flagops_shell.specs.Apart.{apart}
use Rattle.flagops_shell.specs.Report.{IsFileLine}
use Rattle.flagops_books.specs.Refusal.{is_unread, line_of}
use Rattle.flagops_books.specs.declared.refusal.BookRefusal.{BookRefusal}
use Rattle.flagops_books.specs.declared.refusal.BookRefusal.TheVariants.{Load, WantOfMemory, FullBook, WouldLose}

pub file_line : (r : BookRefusal) → is_unread r ≡ true → IsFileLine (line_of r)
file_line (Load e) is = files.file_line e is
file_line WantOfMemory is = apart is
file_line FullBook is = apart is
file_line (WouldLose n) is = apart is
