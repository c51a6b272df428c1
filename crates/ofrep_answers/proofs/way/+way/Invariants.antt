use Rattle.std.proofs.Common.{◌≡◌, drop}
use Rattle.flag_text.specs.View.{items_view, members_view}
use Rattle.ofrep_answers.specs.Way.{way_in_items, way_in_members}
use Rattle.ofrep_answers.proofs.way.+way.Given as goal

abbrev pub invariant-way_in_items-loop-place : goal.invariant-way_in_items-loop-place
invariant-way_in_items-loop-place l = way_in_items l.fn.levels (items_view l.items.items) 0 ≡ way_in_items l.fn.levels (items_view (drop l.place-counter l.items.items)) l.place-counter

abbrev pub invariant-way_in_members-loop-name : goal.invariant-way_in_members-loop-name
invariant-way_in_members-loop-name l = way_in_members l.fn.levels (members_view l.name-items) ≡ way_in_members l.fn.levels (members_view (drop l.name-index l.name-items))
