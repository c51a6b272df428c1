-- A file that could not be read or written is reported by one of two lines, as every other command reports it.
use Rattle.std.specs.Prelude.{◌≡◌, true}
use Rattle.flagops_files.specs.FileLines as files
use Rattle.flagops_shell.specs.Apart.{apart}
use Rattle.flagops_shell.specs.Report.{IsFileLine}
use Rattle.flagops_rollouts.specs.Refusal.{is_unread, line_of}
use Rattle.flagops_rollouts.specs.declared.refusal.RolloutRefusal.{RolloutRefusal}
use Rattle.flagops_rollouts.specs.declared.refusal.RolloutRefusal.TheVariants.{Load, WantOfMemory, Verify, Apply, Keep, Omitted, Plan, PrintPlanned, Doubted}

pub file_line : (r : RolloutRefusal) → is_unread r ≡ true → IsFileLine (line_of r)
file_line (Load e) is = files.file_line e is
file_line (WantOfMemory c) is = apart is
file_line (Verify e) is = apart is
file_line (Apply e) is = apart is
file_line (Keep e) is = apart is
file_line Omitted is = apart is
file_line (Plan e) is = apart is
file_line (PrintPlanned e) is = apart is
file_line (Doubted c d) is = apart is
