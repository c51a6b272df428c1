use Rattle.std.proofs.Common.{◌≢◌}
use Rattle.source_merge.specs.View.{sources_view}
use Rattle.source_merge.specs.declared.fault.SourceFault.TheVariants.{WantOfMemory}
use Rattle.snap_core.specs.Event.{sets, refused}
use Rattle.snap_core.specs.WorldView.{world_view}
use Rattle.snap_core.specs.declared.event.Refusal.TheVariants.{Source}
use Rattle.snap_core.proofs.Stepped.{told, set_done, set_refused}
use Rattle.snap_core.proofs.supply.set_source.Goals as goal

pub returns-in-Ok-clause-steps : goal.returns-in-Ok-clause-steps
returns-in-Ok-clause-steps c = set_done (world_view c.args.world.now) c.args.source.now c.args.bytes.now (sources_view c.set.new.self) c.in-Ok.ensures.exact

pub returns-in-Err-clause-steps : goal.returns-in-Err-clause-steps
returns-in-Err-clause-steps c =
    let old = world_view c.args.world.now in
    let sources = sources_view c.set.new.self in
    told old (record old { sources = sources }) (sets c.args.source.now c.args.bytes.now) (refused (Source c.in-Err.fault)) (c.in-Err.fault ≢ WantOfMemory) c.refused_by_sources.result c.refused_by_sources.ensures.answer c.refused_by_sources.ensures.not_want
    (λ real. set_refused old c.args.source.now c.args.bytes.now sources c.in-Err.fault c.in-Err.ensures.refused (c.in-Err.ensures.exact real))
