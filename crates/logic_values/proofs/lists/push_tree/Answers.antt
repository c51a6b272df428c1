use Rattle.flag_text.specs.View.{view}
use Rattle.logic_values.specs.Views.{value_view}
use Rattle.logic_values.proofs.Items.{pushed}
use Rattle.logic_values.proofs.Parts.{parts_of-listed, parts_of-alone}
use Rattle.logic_values.proofs.Surfaces.{value_lent}
use Rattle.logic_values.proofs.lists.push_tree.Goals as goal

pub returns-in-Some : goal.returns-in-Some
returns-in-Some c = rw (parts_of-listed (view c.args.tree.now) c.in-Some.parts.now c.in-Some.ensures) c.push_lent.ensures

pub returns-in_ok-push-in-None : goal.returns-in_ok-push-in-None
returns-in_ok-push-in-None c =
    rw (parts_of-alone (view c.args.tree.now) c.in-None.ensures)
    (pushed value_view c.args.items.now.items _ _ _ c.in_ok-push-in-None.ensures.items (value_lent _))
