use Rattle.std.proofs.Common.{◌≡◌, map, take}
use Rattle.flag_defs.specs.Flags.{flags_view}
use Rattle.ofrep_answers.specs.Answer.{reached_view}
use Rattle.ofrep_worker.specs.Notes.{notes_in}
use Rattle.ofrep_worker.proofs.notes.notes_in.Given as goal

abbrev pub invariant-loop-flag : goal.invariant-loop-flag
invariant-loop-flag l = l.notes.items ≡ notes_in (flags_view l.flags) (map reached_view (take l.flag-index l.reached))
