use Rattle.std.proofs.Common.{Result, subst, sym}
use Rattle.flag_text.specs.Outcome.{GivesUnless}
use Rattle.flag_defs.specs.Flags.{flags_view}
use Rattle.flag_defs.specs.declared.flags.Flags.{Flags}
use Rattle.plan_text.specs.Answer.{planned_view}
use Rattle.rollout.specs.declared.fault.RolloutFault.{RolloutFault}
use Rattle.rollout.specs.declared.fault.RolloutFault.TheVariants.{WantOfMemory}
use Rattle.ramp.specs.Ramp.{Standing}
use Rattle.ramp.specs.Right.{TellsStep}
use Rattle.ramp.proofs.verifying.verdict.Goals as goal

pub returns-in-Ok : goal.returns-in-Ok
returns-in-Ok g c = λ s gives.
    let stands = subst (λ (x : Result Flags RolloutFault). GivesUnless WantOfMemory flags_view x s) c.in-Ok.is gives in
    subst (λ (x : Standing). TellsStep x c.args.refine c.args.request.now (g.E.Basis.recorded c.args.basis.now) (planned_view c.args.planned.now) c.verify.result) (sym stands) c.verify.ensures
