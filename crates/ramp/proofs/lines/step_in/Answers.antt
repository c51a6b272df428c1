use Rattle.std.proofs.Common.{codes, sym, subst}
use Rattle.flag_text.proofs.Bools.{Holds}
use Rattle.flag_text.specs.Shape.{is_whole}
use Rattle.flag_text.specs.View.{view}
use Rattle.ramp.proofs.Whole.{member_whole}
use Rattle.ramp.proofs.lines.step_in.Goals as goal

pub plan_in-requires : goal.plan_in-requires
plan_in-requires c = subst (Holds is_whole) (sym c.in-Some.ensures) (member_whole (codes "plan") (view c.args.tree.now) c.requires)
