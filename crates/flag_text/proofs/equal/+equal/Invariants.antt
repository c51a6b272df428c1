use Rattle.std.proofs.Common.{◌≡◌, ◌↔◌, drop}
use Rattle.flag_text.specs.View.{items_view, members_view}
use Rattle.flag_text.proofs.equal.+equal.Given as goal

abbrev pub invariant-items_equal-loop-i : goal.invariant-items_equal-loop-i
invariant-items_equal-loop-i l =
    (items_view l.a.items ≡ items_view l.b.items) ↔ (items_view (drop l.i l.a.items) ≡ items_view (drop l.i l.b.items))

abbrev pub invariant-members_equal-loop-i : goal.invariant-members_equal-loop-i
invariant-members_equal-loop-i l =
    (members_view l.a.items ≡ members_view l.b.items) ↔ (members_view (drop l.i l.a.items) ≡ members_view (drop l.i l.b.items))
