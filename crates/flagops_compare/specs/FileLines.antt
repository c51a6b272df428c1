-- A file that could not be read is reported by its line, as every other command reports it.
use Rattle.std.specs.Prelude.{◌≡◌, true}
use Rattle.flagops_files.specs.FileLines as files
use Rattle.flagops_shell.specs.Apart.{apart}
use Rattle.flagops_shell.specs.Report.{IsFileLine}
use Rattle.flagops_compare.specs.Refusal.{is_unread, line_of}
use Rattle.flagops_compare.specs.declared.refusal.CompareRefusal.{CompareRefusal}
use Rattle.flagops_compare.specs.declared.refusal.CompareRefusal.TheVariants.{WantOfMemory, Load, OtherTally}

pub file_line : (r : CompareRefusal) → is_unread r ≡ true → IsFileLine (line_of r)
file_line WantOfMemory is = apart is
file_line (Load e) is = files.file_line e is
file_line OtherTally is = apart is
