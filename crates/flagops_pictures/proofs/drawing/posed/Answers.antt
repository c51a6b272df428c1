use Rattle.std.proofs.Common.{◌≢◌, rules, ◌∙◌, ap, sym}
use Rattle.flag_defs.specs.Flags.{flags_view}
use Rattle.flagops_ramps.specs.Ramp.{recorded}
use Rattle.plan_text.specs.Answer.{planned_view}
use Rattle.rollout.specs.declared.fault.RolloutFault.TheVariants.{WantOfMemory}
use Rattle.rollout.specs.declared.refining.Refining.{Refining}
use Rattle.flagops_pictures.specs.Asked.{asked_on}
use Rattle.flagops_pictures.proofs.Posing.{not_refused, posed_as}
use Rattle.flagops_pictures.proofs.drawing.posed.Goals as goal

pub unreachable-requires : goal.unreachable-requires
unreachable-requires g c =
    let a = c.args.asked in
    let flags = flags_view a.flags.now in
    let held = recorded a.evidence.now in
    let same = ap (λ (r : Refining). asked_on r flags a.request.now held) (sym c.refining_for-refining.ensures.value) ∙ posed_as c.refining_for-refining.result flags a.request.now c.args.request.now held c.requires.request in
    let other : c.in-Err.field-0 ≢ WantOfMemory = search rules in
    not_refused flags a.refine a.request.now held (planned_view c.args.planned.now) c.in-Err.field-0 c.requires.shown (same ∙ c.in-Err.ensures.exact other)

pub returns-in-Ok-clause-asked : goal.returns-in-Ok-clause-asked
returns-in-Ok-clause-asked g c =
    let a = c.args.asked in
    let flags = flags_view a.flags.now in
    let held = recorded a.evidence.now in
    let same = ap (λ (r : Refining). asked_on r flags a.request.now held) (sym c.refining_for-refining.ensures.value) ∙ posed_as c.refining_for-refining.result flags a.request.now c.args.request.now held c.requires.request in
    same ∙ c.in-Ok.ensures.exact
