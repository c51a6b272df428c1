-- How a file is lost (POSIX, sys/stat.h: st_dev and st_ino together identify a file; st_nlink is the number of its links, which are
-- its names).
use Rattle.std.specs.Prelude.{ℕ, ◌==◌, ◌&&◌, nat_lt, Option, Some, None, if◌then◌else◌}
use Rattle.log_file.specs.declared.loss.FileMark.{FileMark}
use Rattle.log_file.specs.declared.loss.Loss.{Loss}
use Rattle.log_file.specs.declared.loss.Loss.TheVariants.{Replaced, Shorter, Removed}

abbrev pub loss_of : FileMark → FileMark → ℕ → Option Loss
loss_of held at_path len =
    if held.device == at_path.device && held.inode == at_path.inode
    then (if nat_lt at_path.len len then Some Shorter else None)
    else Some Replaced

-- a file without a name is removed, whatever is at its path
abbrev pub loss_with_links : Loss → Option ℕ → Loss
loss_with_links loss None = loss
loss_with_links loss (Some links) = if links == 0 then Removed else loss
