use Rattle.flagops_filters.specs.Refusal.{is_unread}
use Rattle.flagops_filters.specs.Tally.{tally_call}
use Rattle.flagops_filters.specs.Words.{tallying_view}
use Rattle.flagops_filters.proofs.Ending.{failed_now, fails_so, refused, reported, unread_shown}
use Rattle.flagops_filters.proofs.tallying.answered.Goals as goal

pub returns-in-Ok-clause-answers : goal.returns-in-Ok-clause-answers
returns-in-Ok-clause-answers g c =
    reported c.args.console.now c.report.new.console c.report.result (tallying_view c.args.asked.now) (g.I.Inlet.is_broken c.tallied.new.input) (g.F.FileSet.holding c.tallied.new.files) (g.F.FileSet.has_failed c.tallied.new.files)
    (g.F.FileSet.holding c.args.files.now) (g.I.Inlet.bytes c.args.input.now) c.in-Ok.outcome c.in-Ok.ensures.exact c.in-Ok.ensures.notes c.report.ensures.report c.report.ensures.remark

pub returns-in-Err-clause-answers : goal.returns-in-Err-clause-answers
returns-in-Err-clause-answers g c =
    let t = c.in-Err.refused in
    refused c.args.console.now c.refuse.new.console c.refuse.result (tallying_view c.args.asked.now) (g.I.Inlet.is_broken c.tallied.new.input) (g.F.FileSet.holding c.tallied.new.files) (g.F.FileSet.has_failed c.tallied.new.files)
    (g.F.FileSet.holding c.args.files.now) (g.I.Inlet.bytes c.args.input.now) t c.in-Err.ensures.exact
    (fails_so (g.F.FileSet.has_failed c.args.files.now) (g.F.FileSet.has_failed c.tallied.new.files) (is_unread t.refusal) c.in-Err.ensures.failed) c.in-Err.ensures.names c.refuse.ensures

pub returns-in-Err-clause-unread : goal.returns-in-Err-clause-unread
returns-in-Err-clause-unread g c = λ none failed.
    let t = c.in-Err.refused in
    let unread = failed_now (g.F.FileSet.has_failed c.args.files.now) (g.F.FileSet.has_failed c.tallied.new.files) (is_unread t.refusal) c.in-Err.ensures.failed none failed in
    unread_shown c.args.console.now c.refuse.new.console c.refuse.result tally_call t.refusal t.remark unread c.refuse.ensures
