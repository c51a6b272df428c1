use Rattle.std.proofs.Common.{◌≢◌, sym}
use Rattle.source_merge.specs.View.{sources_view}
use Rattle.source_merge.specs.declared.fault.SourceFault.TheVariants.{WantOfMemory}
use Rattle.snap_core.specs.Event.{clears, refused}
use Rattle.snap_core.specs.WorldView.{world_view}
use Rattle.snap_core.specs.declared.event.Refusal.TheVariants.{Source}
use Rattle.snap_core.proofs.Stepped.{told, clear_done, clear_refused}
use Rattle.snap_core.proofs.supply.clear_source.Goals as goal

pub returns-in-Ok-clause-steps : goal.returns-in-Ok-clause-steps
returns-in-Ok-clause-steps c = clear_done (world_view c.args.world.now) c.args.source.now (sources_view c.clear.new.self) (sym c.in-Ok.ensures.exact)

pub returns-in-Err-clause-steps : goal.returns-in-Err-clause-steps
returns-in-Err-clause-steps c =
    let old = world_view c.args.world.now in
    let sources = sources_view c.clear.new.self in
    told old (record old { sources = sources }) (clears c.args.source.now) (refused (Source c.in-Err.fault)) (c.in-Err.fault ≢ WantOfMemory) c.refused_by_sources.result c.refused_by_sources.ensures.answer c.refused_by_sources.ensures.not_want
    (λ real. clear_refused old c.args.source.now sources c.in-Err.fault c.in-Err.ensures.refused (sym c.in-Err.ensures.exact))
