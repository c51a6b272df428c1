use Rattle.std.proofs.Common.{refl}
use Rattle.flag_defs.specs.Flags.{flags_view}
use Rattle.rollout.specs.Refined.{problem_refined}
use Rattle.ramp.proofs.RampSteps.{planned_step}
use Rattle.ramp.proofs.basis.CountedBookBasis.plan.Goals as goal

pub returns-clause-exact : goal.returns-clause-exact
returns-clause-exact g c =
    let flags = flags_view c.args.flags.now in
    let book = g.B.Recorded.contents c.args.self.now.book.now in
    planned_step flags c.requires.lawful c.args.m c.args.request.now book (problem_refined c.args.m flags c.args.request.now book) c.plan_refined.result refl c.plan_refined.ensures.exact
