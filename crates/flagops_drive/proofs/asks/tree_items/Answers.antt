use Rattle.std.proofs.Common.{◌≡◌, ◌∙◌, false, is_some, sym, ap}
use Rattle.flag_text.specs.View.{view}
use Rattle.flagops_drive.specs.Misfit.{misfit_of}
use Rattle.flagops_drive.proofs.Misfits.{are-listed, few-listed, items-listed, unasked}
use Rattle.flagops_drive.proofs.asks.tree_items.Goals as goal

pub returns-then-is_some-clause-are : goal.returns-then-is_some-clause-are
returns-then-is_some-clause-are c = unasked (view c.args.tree.now) (ap is_some (sym c.of.ensures) ∙ (sym c.is_some.ensures ∙ c.if-is_some.true))

pub returns-clause-are : goal.returns-clause-are
returns-clause-are c =
    let none : is_some (misfit_of (view c.args.tree.now)) ≡ false = ap is_some (sym c.of.ensures) ∙ (sym c.is_some.ensures ∙ c.if-is_some.false) in
    are-listed (view c.args.tree.now) c.as_list.result c.as_list.ensures none

pub returns-clause-items : goal.returns-clause-items
returns-clause-items c =
    let none : is_some (misfit_of (view c.args.tree.now)) ≡ false = ap is_some (sym c.of.ensures) ∙ (sym c.is_some.ensures ∙ c.if-is_some.false) in
    items-listed (view c.args.tree.now) c.as_list.result c.as_list.ensures none

pub returns-clause-few : goal.returns-clause-few
returns-clause-few c =
    let none : is_some (misfit_of (view c.args.tree.now)) ≡ false = ap is_some (sym c.of.ensures) ∙ (sym c.is_some.ensures ∙ c.if-is_some.false) in
    few-listed (view c.args.tree.now) c.as_list.result c.as_list.ensures none
