-- A file that could not be read is reported by one of two lines, as every other command reports it.
use Rattle.std.specs.Prelude.{◌≡◌, true}
use Rattle.flagops_files.specs.FileLines as files
use Rattle.flagops_rollouts.specs.FileLines as rollouts
use Rattle.flagops_shell.specs.Report.{IsFileLine}
use Rattle.flagops_ramps.specs.Refusal.{is_unread, line_of}
use Rattle.flagops_ramps.specs.declared.refusal.RampRefusal.{RampRefusal}
use Rattle.flagops_ramps.specs.declared.refusal.RampRefusal.TheVariants.{Load, Rollout, Ramp, Print, Read, Verify, Lines, NoStep, OtherRule, Doubted}

pub file_line : (r : RampRefusal) → is_unread r ≡ true → IsFileLine (line_of r)
file_line (Load e) is = files.file_line e is
file_line (Rollout e) is = rollouts.file_line e is
file_line (Ramp e) is = cc
file_line (Print e) is = cc
file_line (Read e) is = cc
file_line (Verify e) is = cc
file_line Lines is = cc
file_line NoStep is = cc
file_line OtherRule is = cc
file_line (Doubted c d) is = cc
