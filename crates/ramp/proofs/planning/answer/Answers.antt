use Rattle.std.proofs.Common.{Result, subst, sym}
use Rattle.flag_text.specs.Outcome.{GivesUnless}
use Rattle.flag_defs.specs.Flags.{flags_view}
use Rattle.flag_defs.specs.declared.flags.Flags.{Flags}
use Rattle.rollout.specs.declared.fault.RolloutFault.{RolloutFault}
use Rattle.rollout.specs.declared.fault.RolloutFault.TheVariants.{WantOfMemory}
use Rattle.ramp.specs.Ramp.{AnswersStep, Standing}
use Rattle.ramp.proofs.planning.answer.Goals as goal

pub returns-in-Ok-clause-exact : goal.returns-in-Ok-clause-exact
returns-in-Ok-clause-exact g c = λ s gives.
    let stands = subst (λ (x : Result Flags RolloutFault). GivesUnless WantOfMemory flags_view x s) c.in-Ok.is gives in
    subst (λ (x : Standing). AnswersStep x c.args.m c.args.request.now (g.E.Basis.recorded c.args.basis.now) c.plan.result) (sym stands) c.plan.ensures.exact
