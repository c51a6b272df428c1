use Rattle.std.proofs.Common.{◌≡◌, drop}
use Rattle.flag_text.specs.View.{members_view}
use Rattle.logic_values.specs.Views.{before}
use Rattle.logic_values.proofs.tree.push_copies.Given as goal

abbrev pub invariant-loop-key : goal.invariant-loop-key
invariant-loop-key l = before l.all.items (members_view (drop l.key-index l.members)) ≡ before l.fn.all.items (members_view l.members)
