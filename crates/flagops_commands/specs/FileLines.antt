-- A file that could not be read or written is reported by one of two lines, as every other command reports it.
use Rattle.std.specs.Prelude.{◌≡◌, true}
use Rattle.flagops_files.specs.FileLines as files
use Rattle.flagops_rollouts.specs.FileLines as rollouts
use Rattle.flagops_shell.specs.Apart.{apart}
use Rattle.flagops_shell.specs.Report.{IsFileLine}
use Rattle.flagops_commands.specs.Refusal.{is_unread, line_of}
use Rattle.flagops_commands.specs.declared.refusal.ListedRefusal.{ListedRefusal}
use Rattle.flagops_commands.specs.declared.refusal.ListedRefusal.TheVariants.{Load, Rollout, WantOfMemory, ReadRequest, Note, Price, Drive, Doubted, WouldLose}

pub file_line : (r : ListedRefusal) → is_unread r ≡ true → IsFileLine (line_of r)
file_line (Load e) is = files.file_line e is
file_line (Rollout e) is = rollouts.file_line e is
file_line (WantOfMemory c) is = apart is
file_line (ReadRequest e) is = apart is
file_line (Note e) is = apart is
file_line (Price e) is = apart is
file_line (Drive e) is = apart is
file_line (Doubted d) is = apart is
file_line (WouldLose n) is = apart is
