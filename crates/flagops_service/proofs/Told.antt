-- What a person is told, as a text that was put.
use Rattle.std.proofs.Common.{ℕ, Bool, true, false, List, Option}
use Rattle.flagops_shell.specs.Report.{PutsText}
use Rattle.flagops_streams.specs.Told.{TellsText}

pub as_told : (old new : Option (List ℕ)) (is_mute : Bool) → PutsText old new is_mute → TellsText old new is_mute
as_told old new true puts = puts
as_told old new false puts = puts
