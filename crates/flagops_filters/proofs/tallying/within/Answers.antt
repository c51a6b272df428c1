use Rattle.flag_defs.specs.Flags.{flags_view}
use Rattle.flagops_filters.specs.Place.{target_view}
use Rattle.flagops_filters.specs.Words.{tallying_view}
use Rattle.flagops_filters.proofs.Tallied.{at_target, no_target}
use Rattle.flagops_filters.proofs.Naming.{flag_named, stream_named, stream_read}
use Rattle.flagops_filters.proofs.tallying.within.Goals as goal

pub returns-in-Ok-clause-exact : goal.returns-in-Ok-clause-exact
returns-in-Ok-clause-exact g c =
    at_target (flags_view c.args.flags.now) (tallying_view c.args.asked.now) (g.I.Inlet.is_broken c.over.new.input) c.factor_of.result c.factor_of.ensures.value (target_view c.in-Ok.target) (g.I.Inlet.bytes c.args.input.now) c.over.result c.in-Ok.ensures c.over.ensures.exact

pub returns-in-Err-clause-exact : goal.returns-in-Err-clause-exact
returns-in-Err-clause-exact g c =
    no_target (flags_view c.args.flags.now) (tallying_view c.args.asked.now) (g.I.Inlet.is_broken c.args.input.now) c.factor_of.result c.factor_of.ensures.value (g.I.Inlet.bytes c.args.input.now) c.in-Err.fault c.untallied.result c.in-Err.ensures c.untallied.ensures.refusal

pub returns-in-Ok-clause-read : goal.returns-in-Ok-clause-read
returns-in-Ok-clause-read g c = stream_read c.over.result c.over.ensures.stops

pub returns-in-Ok-clause-names : goal.returns-in-Ok-clause-names
returns-in-Ok-clause-names g c = stream_named c.args.asked.now.document.now c.over.result c.over.ensures.stops

pub returns-in-Err-clause-names : goal.returns-in-Err-clause-names
returns-in-Err-clause-names g c = flag_named c.args.asked.now.document.now c.untallied.result c.in-Err.fault c.untallied.ensures.refusal c.untallied.ensures.names
