use Rattle.std.proofs.Common.{◌≢◌, sym}
use Rattle.snap_core.specs.Event.{leaves, refused}
use Rattle.snap_core.specs.HubView.{hub_view}
use Rattle.snap_core.specs.WorldView.{world_view}
use Rattle.snap_core.specs.declared.event.Refusal.TheVariants.{Hub}
use Rattle.snap_core.specs.declared.fault.HubFault.TheVariants.{WantOfMemory}
use Rattle.snap_core.proofs.Stepped.{told, leave_done, leave_refused}
use Rattle.snap_core.proofs.subscribers.leave.Goals as goal

pub returns-in-Ok-clause-steps : goal.returns-in-Ok-clause-steps
returns-in-Ok-clause-steps c = leave_done (world_view c.args.world.now) (hub_view c.leave.new.self) c.args.sub.0 (sym c.in-Ok.ensures.exact)

pub returns-in-Err-clause-steps : goal.returns-in-Err-clause-steps
returns-in-Err-clause-steps c =
    let old = world_view c.args.world.now in
    let hub = hub_view c.leave.new.self in
    told old (record old { hub = hub }) (leaves c.args.sub.0) (refused (Hub c.in-Err.fault)) (c.in-Err.fault ≢ WantOfMemory) c.refused_by_hub.result c.refused_by_hub.ensures.answer c.refused_by_hub.ensures.not_want
    (λ real. leave_refused old hub c.args.sub.0 c.in-Err.fault c.in-Err.ensures.refused (sym c.in-Err.ensures.exact))
