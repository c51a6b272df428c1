use Rattle.std.proofs.Common.{sym, subst, string_bytes}
use Rattle.std.specs.Prelude.{Result}
use Rattle.flagops_pictures.specs.Pictured.{AddsTold}
use Rattle.plan_text.specs.Answer.{planned_view}
use Rattle.rollout.specs.CheckedTally.{TallyProblem}
use Rattle.rollout.specs.declared.fault.RolloutFault.{RolloutFault}
use Rattle.flagops_pictures.proofs.drawing.add_asked.Goals as goal

pub returns : goal.returns
returns g c =
    subst (λ (r : Result TallyProblem RolloutFault). AddsTold r (planned_view c.args.planned.now) c.args.y c.in_ok-below.below (string_bytes c.args.pictures.now) (string_bytes c.draw.new.pictures))
    (sym c.in_ok-problem.ensures.asked) c.in_ok-below.ensures
