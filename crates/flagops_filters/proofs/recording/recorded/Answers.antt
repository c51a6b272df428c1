use Rattle.std.proofs.Common.{ap, ◌∙◌}
use Rattle.flag_defs.specs.Flags.{flags_view}
use Rattle.flagops_files.specs.Refusal as files
use Rattle.flagops_filters.specs.Record.{record_call}
use Rattle.flagops_filters.specs.Refusal.{is_unread}
use Rattle.flagops_filters.specs.Words.{recording_view}
use Rattle.flagops_filters.proofs.Ending.{failed_now, fails_so, unread_shown}
use Rattle.flagops_filters.proofs.Recorded.{over_document, unloaded}
use Rattle.flagops_filters.proofs.recording.recorded.Goals as goal

pub returns-in-Ok-clause-answers : goal.returns-in-Ok-clause-answers
returns-in-Ok-clause-answers g c =
    over_document c.args.console.now c.over.new.console c.over.result (recording_view c.args.asked.now) c.args.now (g.I.Inlet.is_broken c.over.new.input) (g.F.FileSet.has_failed c.load_flags_as.new.files)
    (g.F.FileSet.holding c.args.files.now) (g.I.Inlet.bytes c.args.input.now) (flags_view c.in-Ok.flags) c.in-Ok.ensures.document c.over.ensures

pub returns-in-Err-clause-answers : goal.returns-in-Err-clause-answers
returns-in-Err-clause-answers g c =
    let e = c.in-Err.unread in
    unloaded c.args.console.now c.refuse.new.console c.refuse.result (recording_view c.args.asked.now) c.args.now (g.I.Inlet.is_broken c.args.input.now) (g.F.FileSet.has_failed c.load_flags_as.new.files)
    (g.F.FileSet.holding c.args.files.now) (g.I.Inlet.bytes c.args.input.now) e c.of.result c.in-Err.ensures.document c.of.ensures.refusal c.of.ensures.remark c.in-Err.ensures.names
    (fails_so (g.F.FileSet.has_failed c.args.files.now) (g.F.FileSet.has_failed c.load_flags_as.new.files) (files.is_unread e.refusal) c.in-Err.ensures.failed) c.refuse.ensures

pub returns-in-Err-clause-unread : goal.returns-in-Err-clause-unread
returns-in-Err-clause-unread g c = λ none failed.
    let e = c.in-Err.unread in
    let unread = ap is_unread c.of.ensures.refusal ∙ failed_now (g.F.FileSet.has_failed c.args.files.now) (g.F.FileSet.has_failed c.load_flags_as.new.files) (files.is_unread e.refusal) c.in-Err.ensures.failed none failed in
    unread_shown c.args.console.now c.refuse.new.console c.refuse.result record_call c.of.result.refusal c.of.result.remark unread c.refuse.ensures
