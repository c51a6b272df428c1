-- A file that could not be read is reported by its line.
use Rattle.std.specs.Prelude.{◌≡◌, true}
use Rattle.flagops_shell.specs.Apart.{apart}
use Rattle.flagops_shell.specs.Report.{IsFileLine}
use Rattle.flagops_files.specs.FileLines as files
use Rattle.flagops_filters.specs.Refusal.{is_unread, line_of}
use Rattle.flagops_filters.specs.declared.refusal.FilterRefusal.{FilterRefusal}
use Rattle.flagops_filters.specs.declared.refusal.FilterRefusal.TheVariants.{Load, Flag, Record, Tally, Join}

pub file_line : (r : FilterRefusal) → is_unread r ≡ true → IsFileLine (line_of r)
file_line (Load e) is = files.file_line e is
file_line (Flag e) is = apart is
file_line (Record e) is = apart is
file_line (Tally e) is = apart is
file_line (Join e) is = apart is
