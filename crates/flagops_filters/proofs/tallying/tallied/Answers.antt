use Rattle.flag_defs.specs.Flags.{flags_view}
use Rattle.flagops_filters.specs.Words.{tallying_view}
use Rattle.flagops_filters.proofs.Loaded.{loaded, unloaded}
use Rattle.flagops_filters.proofs.Naming.{document_named}
use Rattle.flagops_filters.proofs.tallying.tallied.Goals as goal

pub returns-in-Ok-clause-exact : goal.returns-in-Ok-clause-exact
returns-in-Ok-clause-exact g c =
    loaded (tallying_view c.args.asked.now) (g.I.Inlet.is_broken c.within.new.input) (g.F.FileSet.holding c.args.files.now) (g.I.Inlet.bytes c.args.input.now) (flags_view c.in-Ok.flags) c.within.result c.in-Ok.ensures.document c.within.ensures.exact

pub returns-in-Err-clause-exact : goal.returns-in-Err-clause-exact
returns-in-Err-clause-exact g c =
    unloaded (tallying_view c.args.asked.now) (g.I.Inlet.is_broken c.args.input.now) (g.F.FileSet.holding c.args.files.now) (g.I.Inlet.bytes c.args.input.now) c.in-Err.refused c.of.result c.of.ensures.refusal c.in-Err.ensures.document

pub returns-in-Err-clause-names : goal.returns-in-Err-clause-names
returns-in-Err-clause-names g c = document_named c.args.asked.now.document.now c.in-Err.refused c.of.result c.of.ensures.refusal c.of.ensures.remark c.in-Err.ensures.names
