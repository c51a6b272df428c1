use Rattle.std.proofs.Common.{◌≡◌, drop}
use Rattle.flag_defs.specs.Document.{definitions_written}
use Rattle.flag_defs.specs.Flag.{entries_view}
use Rattle.flag_defs.specs.Members.{followed_by}
use Rattle.flag_defs.proofs.write.write_entries.Given as goal

abbrev pub invariant-loop-key : goal.invariant-loop-key
invariant-loop-key l = followed_by l.members.items (definitions_written (entries_view (drop l.key-index l.flags))) ≡ definitions_written (entries_view l.flags)
