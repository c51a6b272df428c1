use Rattle.std.proofs.Common.{◌≢◌, rules}
use Rattle.flag_defs.specs.Flags.{flags_view}
use Rattle.flagops_ramps.specs.Ramp.{recorded}
use Rattle.plan_text.specs.Answer.{planned_view}
use Rattle.price_core.specs.declared.fault.PriceFault.TheVariants.{WantOfMemory}
use Rattle.flagops_pictures.proofs.Posing.{not_unread}
use Rattle.flagops_pictures.proofs.drawing.add_picture.Goals as goal

-- the request was found lawful before
pub unreachable-requires : goal.unreachable-requires
unreachable-requires g c =
    let a = c.args.asked in
    let other : c.in-Err.field-0 ≢ WantOfMemory = search rules in
    not_unread (flags_view a.flags.now) a.refine a.request.now (recorded a.evidence.now) (planned_view c.args.planned.now) c.in-Err.field-0 c.requires.shown (c.in-Err.ensures.exact other)
