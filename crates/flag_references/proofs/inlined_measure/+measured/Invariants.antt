use Rattle.std.proofs.Common.{◌≡◌, drop}
use Rattle.flag_text.specs.View.{items_view, members_view}
use Rattle.flag_references.specs.Measure.{known, parts_measured, members_measured}
use Rattle.flag_references.proofs.Extents.{Adds}
use Rattle.flag_references.proofs.inlined_measure.+measured.Given as goal

abbrev pub invariant-list_measured-loop-i : goal.invariant-list_measured-loop-i
invariant-list_measured-loop-i l = parts_measured (known (members_view l.table.members) l.table.measures) (items_view (drop l.i l.items.items)) ≡ l.parts

abbrev pub invariant-literal_measured-loop-i : goal.invariant-literal_measured-loop-i
invariant-literal_measured-loop-i l = members_measured (known (members_view l.table.members) l.table.measures) (members_view (drop l.i l.members.items)) ≡ l.all

abbrev pub invariant-items_extent-loop-i : goal.invariant-items_extent-loop-i
invariant-items_extent-loop-i l = Adds (known (members_view l.table.members) l.table.measures) l.items.items l.i l.parts
