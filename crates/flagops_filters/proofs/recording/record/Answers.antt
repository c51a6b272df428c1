use Rattle.std.proofs.Common.{map}
use Rattle.clap.specs.Words.{kind_of}
use Rattle.flagops_shell.specs.Usage.{ShowsWordsWant}
use Rattle.flagops_filters.specs.Record.{RecordAnswers}
use Rattle.flagops_filters.specs.Words.{record_by, record_faults, recording_view}
use Rattle.flagops_filters.proofs.Ending.{answered, unasked}
use Rattle.flagops_filters.proofs.recording.record.Goals as goal

pub returns-in-Ok-clause-answers : goal.returns-in-Ok-clause-answers
returns-in-Ok-clause-answers g c =
    let now = c.second.result in (
      now,
      answered (record_by (map g.S.AsStr.text c.args.words.now)) (recording_view c.in-Ok.asked) (g.F.FileSet.holding c.args.files.now) (g.I.Inlet.bytes c.args.input.now)
          (λ a at bytes. RecordAnswers c.args.console.now c.recorded.new.console c.recorded.result at (g.F.FileSet.has_failed c.recorded.new.files) a now bytes (g.I.Inlet.is_broken c.recorded.new.input))
          (ShowsWordsWant c.args.console.now c.recorded.new.console c.recorded.result) c.in-Ok.ensures.ok c.recorded.ensures.answers,
    )

pub returns-in-Err-clause-answers : goal.returns-in-Err-clause-answers
returns-in-Err-clause-answers g c = (
  0,
  unasked c.args.console.now c.report_usage.new.console c.report_usage.result (record_by (map g.S.AsStr.text c.args.words.now)) (g.F.FileSet.holding c.args.files.now) (g.I.Inlet.bytes c.args.input.now)
      (λ a at bytes. RecordAnswers c.args.console.now c.report_usage.new.console c.report_usage.result at (g.F.FileSet.has_failed c.args.files.now) a 0 bytes (g.I.Inlet.is_broken c.args.input.now))
      (record_faults (map g.S.AsStr.text c.args.words.now)) (kind_of c.in-Err.error) c.in-Err.ensures.err c.report_usage.ensures,
)
