use Rattle.std.proofs.Common.{◌≢◌}
use Rattle.snap_core.specs.Event.{joins, refused}
use Rattle.snap_core.specs.HubView.{hub_view}
use Rattle.snap_core.specs.WorldView.{world_view}
use Rattle.snap_core.specs.declared.event.Refusal.TheVariants.{Hub}
use Rattle.snap_core.specs.declared.fault.HubFault.TheVariants.{WantOfMemory}
use Rattle.snap_core.proofs.Stepped.{told, join_done, join_refused}
use Rattle.snap_core.proofs.subscribers.join.Goals as goal

pub returns-in-Ok-clause-steps : goal.returns-in-Ok-clause-steps
returns-in-Ok-clause-steps c = join_done (world_view c.args.world.now) (hub_view c.join.new.self) c.in-Ok.sub.0 c.in-Ok.ensures.exact c.in-Ok.ensures.id

pub returns-in-Err-clause-steps : goal.returns-in-Err-clause-steps
returns-in-Err-clause-steps c =
    let old = world_view c.args.world.now in
    let hub = hub_view c.join.new.self in
    told old (record old { hub = hub }) joins (refused (Hub c.in-Err.fault)) (c.in-Err.fault ≢ WantOfMemory) c.refused_by_hub.result c.refused_by_hub.ensures.answer c.refused_by_hub.ensures.not_want
    (λ real. join_refused old hub c.in-Err.fault c.in-Err.ensures.refused (c.in-Err.ensures.exact real))
