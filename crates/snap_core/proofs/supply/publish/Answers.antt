use Rattle.std.proofs.Common.{◌≢◌, sym}
use Rattle.flag_defs.specs.Flags.{flags_view}
use Rattle.source_merge.specs.declared.fault.SourceFault.TheVariants.{WantOfMemory}
use Rattle.snap_core.specs.Event.{publishes, refused}
use Rattle.snap_core.specs.HubView.{hub_view}
use Rattle.snap_core.specs.WorldView.{world_view}
use Rattle.snap_core.specs.declared.event.Refusal.TheVariants.{Source}
use Rattle.snap_core.proofs.Stepped.{told, merge_refused, publish_done, publish_refused}
use Rattle.snap_core.proofs.supply.publish.Goals as goal

pub returns-in-Ok-publish-clause-steps : goal.returns-in-Ok-publish-clause-steps
returns-in-Ok-publish-clause-steps c =
    publish_done (world_view c.args.world.now) (flags_view c.in-Ok.flags) (hub_view c.publish.new.self) c.in-Ok-publish.number c.in-Ok.ensures.exact (sym c.in-Ok-publish.ensures.exact) c.in-Ok-publish.ensures.number

pub returns-in-Err-publish-clause-steps : goal.returns-in-Err-publish-clause-steps
returns-in-Err-publish-clause-steps c =
    publish_refused (world_view c.args.world.now) (flags_view c.in-Ok.flags) (hub_view c.publish.new.self) c.in-Err-publish.fault c.in-Err-publish.ensures.refused c.in-Ok.ensures.exact (sym c.in-Err-publish.ensures.exact)

pub returns-in-Err-clause-steps : goal.returns-in-Err-clause-steps
returns-in-Err-clause-steps c =
    let old = world_view c.args.world.now in
    told old old publishes (refused (Source c.in-Err.fault)) (c.in-Err.fault ≢ WantOfMemory) c.refused_by_sources.result c.refused_by_sources.ensures.answer c.refused_by_sources.ensures.not_want
    (λ real. merge_refused old c.in-Err.fault (c.in-Err.ensures.exact real))
