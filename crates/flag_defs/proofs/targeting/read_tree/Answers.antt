use Rattle.flag_text.specs.View.{view, members_view}
use Rattle.flag_defs.proofs.Targetings.{good-form, form-good}
use Rattle.flag_defs.proofs.targeting.read_tree.Goals as goal

pub expand-requires : goal.expand-requires
expand-requires c = good-form (members_view c.args.evaluators.now) (view c.args.tree) c.requires.good

pub read_form-requires : goal.read_form-requires
read_form-requires c = record { good = form-good (members_view c.args.evaluators.now) (view c.args.tree) (view c.expand.new.tree) c.requires.good c.in_ok-expand.ensures }
