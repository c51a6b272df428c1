use Rattle.std.proofs.Common.{◌≡◌, drop, fold}
use Rattle.flag_metadata.specs.Spelled.{with_entry}
use Rattle.flag_metadata.specs.View.{entries_view, lent_view}
use Rattle.flag_metadata.proofs.object.put_all.Given as goal

abbrev pub invariant-loop-member : goal.invariant-loop-member
invariant-loop-member l = fold with_entry (lent_view l.by_name.entries) (entries_view (drop l.member-index l.members)) ≡ fold with_entry (lent_view l.initial.by_name.entries) (entries_view l.members)
