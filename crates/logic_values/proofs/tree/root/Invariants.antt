use Rattle.std.proofs.Common.{◌≡◌, drop}
use Rattle.std.specs.Prelude.{codes}
use Rattle.flag_text.specs.View.{view, members_view}
use Rattle.logic_values.specs.Objects.{with_member}
use Rattle.logic_values.specs.Views.{before}
use Rattle.logic_values.proofs.tree.root.Given as goal

abbrev pub invariant-loop-i : goal.invariant-loop-i
invariant-loop-i l =
    before l.all.items (with_member (codes "$flagd") (view l.flagd) (members_view (drop l.i l.members))) ≡ with_member (codes "$flagd") (view l.flagd) (members_view l.members)
