use Rattle.std.proofs.Common.{◌≡◌, ◌⊎◌, ℕ, List, map}
use Rattle.clap.specs.Words.{kind_of}
use Rattle.flagops_shell.specs.Ending.{Ends}
use Rattle.flagops_shell.specs.Files.{Holding}
use Rattle.flagops_shell.specs.Running.{MayRun}
use Rattle.flagops_shell.specs.Usage.{ShowsWordsWant}
use Rattle.flagops_filters.specs.Command.{tally_description}
use Rattle.flagops_filters.specs.Refusal.{is_unread, line_of}
use Rattle.flagops_filters.specs.Remarks.{tally_remark}
use Rattle.flagops_filters.specs.Tally.{tally_call}
use Rattle.flagops_filters.specs.Words.{Tallying, tally_by, tally_faults, tallying_view}
use Rattle.flagops_filters.proofs.Ending.{answered, turned, unasked}
use Rattle.flagops_filters.proofs.tallying.tally.Goals as goal

pub returns-in-Ok-clause-answers : goal.returns-in-Ok-clause-answers
returns-in-Ok-clause-answers g c =
    let asked = tally_by (map g.S.AsStr.text c.args.words.now) in
    let holding = g.F.FileSet.holding c.args.files.now in
    let given = g.I.Inlet.bytes c.args.input.now in
    let W : Type 0 = ShowsWordsWant c.args.console.now c.answered.new.console c.answered.result in
    let P : Tallying → Holding → List ℕ → Type 0 = λ a at bytes. Ends c.args.console.now c.answered.new.console c.answered.result line_of (λ n. n ≡ tally_call) (tally_remark bytes a.document)
    (MayRun (tally_description bytes (g.I.Inlet.is_broken c.answered.new.input)) is_unread a at (g.F.FileSet.holding c.answered.new.files) (g.F.FileSet.has_failed c.answered.new.files)) in
    turned asked holding given (λ a at bytes. P a at bytes ⊎ W) (answered asked (tallying_view c.in-Ok.asked) holding given P W c.in-Ok.ensures.ok c.answered.ensures.answers)

pub returns-in-Err-clause-answers : goal.returns-in-Err-clause-answers
returns-in-Err-clause-answers g c =
    let words = map g.S.AsStr.text c.args.words.now in
    let holding = g.F.FileSet.holding c.args.files.now in
    let given = g.I.Inlet.bytes c.args.input.now in
    let W : Type 0 = ShowsWordsWant c.args.console.now c.report_usage.new.console c.report_usage.result in
    let P : Tallying → Holding → List ℕ → Type 0 = λ a at bytes. Ends c.args.console.now c.report_usage.new.console c.report_usage.result line_of (λ n. n ≡ tally_call) (tally_remark bytes a.document)
    (MayRun (tally_description bytes (g.I.Inlet.is_broken c.args.input.now)) is_unread a at holding (g.F.FileSet.has_failed c.args.files.now)) in
    turned (tally_by words) holding given (λ a at bytes. P a at bytes ⊎ W)
    (unasked c.args.console.now c.report_usage.new.console c.report_usage.result (tally_by words) holding given P (tally_faults words) (kind_of c.in-Err.error) c.in-Err.ensures.err c.report_usage.ensures)
