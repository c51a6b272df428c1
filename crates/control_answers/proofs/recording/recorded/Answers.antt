use Rattle.std.proofs.Common.{◌≡◌, ◌∙◌, Ok, Err, ap, subst}
use Rattle.std.specs.Prelude.{string_bytes}
use Rattle.std.proofs.lemmas.Result.{err_from_is_err_and}
use Rattle.note_streams.specs.LogLines.{files_view}
use Rattle.note_tallies.specs.Reading.{ReadsAs}
use Rattle.control_answers.specs.Record.{IsRecordOver, IsTallyText}
use Rattle.control_answers.specs.Refusal.{of_logs}
use Rattle.control_answers.specs.Target.{target_view}
use Rattle.control_answers.specs.declared.refusal.ControlRefusal.TheVariants.{WantOfMemory}
use Rattle.control_answers.proofs.Turns.{no_tally, wanted, with_tally}
use Rattle.control_answers.proofs.recording.recorded.Goals as goal

pub returns-in_err-tally : goal.returns-in_err-tally
returns-in_err-tally c =
    let f = c.in_err-tally.field-0.0 in
    let p = err_from_is_err_and c.from_residual.result c.from_residual.ensures.1 in
    let is : c.from_residual.result ≡ Err (of_logs f) = p.1 ∙ ap Err p.2 in
    no_tally string_bytes (files_view c.args.files.now) (target_view c.args.target) IsTallyText f c.from_residual.result is c.in_err-tally.ensures

pub returns-in_err-print_tally : goal.returns-in_err-print_tally
returns-in_err-print_tally c =
    let r = c.from_residual-in_err-print_tally.result in
    let p = err_from_is_err_and r c.from_residual-in_err-print_tally.ensures.1 in
    let is : r ≡ Err WantOfMemory = p.1 ∙ ap Err p.2 in
    wanted string_bytes (IsRecordOver (files_view c.args.files.now) (target_view c.args.target)) r is

pub returns : goal.returns
returns c =
    let t = c.in_ok-tally.tally in
    let text = c.in_ok-print_tally.field-0 in
    with_tally string_bytes (files_view c.args.files.now) (target_view c.args.target) IsTallyText t (Ok text) c.in_ok-tally.ensures
    (ap Ok c.in_ok-print_tally.ensures.text, subst (λ s. ReadsAs s t) c.in_ok-print_tally.ensures.text c.in_ok-print_tally.ensures.reads_back)
