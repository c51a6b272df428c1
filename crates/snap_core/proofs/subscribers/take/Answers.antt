use Rattle.std.proofs.Common.{◌≢◌, option_map}
use Rattle.snap_core.specs.Event.{takes, refused}
use Rattle.snap_core.specs.HubView.{hub_view, snapshot_view}
use Rattle.snap_core.specs.WorldView.{world_view}
use Rattle.snap_core.specs.declared.event.Refusal.TheVariants.{Hub}
use Rattle.snap_core.specs.declared.fault.HubFault.TheVariants.{WantOfMemory}
use Rattle.snap_core.proofs.Stepped.{told, take_done, take_refused}
use Rattle.snap_core.proofs.subscribers.take.Goals as goal

pub returns-in-Ok-clause-steps : goal.returns-in-Ok-clause-steps
returns-in-Ok-clause-steps c = take_done (world_view c.args.world.now) (hub_view c.take.new.self) c.args.sub.0 (option_map snapshot_view c.in-Ok.snapshot) c.in-Ok.ensures.exact c.in-Ok.ensures.after

pub returns-in-Err-clause-steps : goal.returns-in-Err-clause-steps
returns-in-Err-clause-steps c =
    let old = world_view c.args.world.now in
    let hub = hub_view c.take.new.self in
    told old (record old { hub = hub }) (takes c.args.sub.0) (refused (Hub c.in-Err.fault)) (c.in-Err.fault ≢ WantOfMemory) c.refused_by_hub.result c.refused_by_hub.ensures.answer c.refused_by_hub.ensures.not_want
    (λ real. take_refused old hub c.args.sub.0 c.in-Err.fault c.in-Err.ensures.refused (c.in-Err.ensures.exact real))
