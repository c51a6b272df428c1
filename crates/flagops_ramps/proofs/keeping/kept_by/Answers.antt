use Rattle.std.proofs.Common.{◌≢◌, option_map, rules, subst, sym}
use Rattle.flag_defs.specs.Flags.{flags_view}
use Rattle.flagops_rollouts.proofs.Edited.{not_unread}
use Rattle.flagops_rollouts.specs.Keep.{kept_view}
use Rattle.plan_text.specs.Answer.{planned_view}
use Rattle.plan_text.specs.declared.planned.Planned.{Planned}
use Rattle.price_core.specs.Request.{asked_of}
use Rattle.price_core.specs.declared.fault.PriceFault.TheVariants.{WantOfMemory}
use Rattle.transport_core.specs.Certificate.{certificate_view}
use Rattle.flagops_ramps.specs.Keep.{IsKeptWith}
use Rattle.flagops_ramps.specs.Report.{GivesOne}
use Rattle.flagops_ramps.proofs.Kept.{onto}
use Rattle.flagops_ramps.proofs.keeping.kept_by.Goals as goal

pub returns-in-Ok-clause-exact : goal.returns-in-Ok-clause-exact
returns-in-Ok-clause-exact c =
    let document = c.args.question.now.document.items in
    let flags = flags_view c.args.question.now.flags in
    let request = c.args.request.now in
    let before = option_map (λ p. planned_view p.now) c.args.before in
    let kept = onto c.args.asked.now.answered.rollout.floats document flags request c.in-Ok.request c.in-Ok.ensures.exact before c.in-Emit.rule (certificate_view c.in-Emit.field-1) c.kept_onto.result c.kept_onto.ensures.exact in
    subst (λ (it : Planned). GivesOne kept_view c.kept_onto.result (IsKeptWith c.args.asked.now.answered.rollout.floats document flags request before (planned_view it))) (sym c.in-Emit.is) kept

pub unreachable-requires : goal.unreachable-requires
unreachable-requires c =
    let other : c.in-Err.field-0 ≢ WantOfMemory = search rules in
    not_unread (asked_of c.args.request.now) c.in-Err.field-0 c.requires (c.in-Err.ensures.exact other)
