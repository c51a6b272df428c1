use Rattle.std.proofs.Common.{List, ◌++◌, sym, ap, ◌∙◌}
use Rattle.flag_defs.specs.Flags.{flags_view}
use Rattle.note_lines.specs.Note.{Noted}
use Rattle.ofrep_answers.specs.Answer.{reached_view}
use Rattle.ofrep_worker.specs.Notes.{notes_by}
use Rattle.ofrep_worker.proofs.Steps.{flat_more}
use Rattle.ofrep_worker.proofs.notes.notes_in.Goals as goal

pub loop-flag-preserved : goal.loop-flag-preserved
loop-flag-preserved c =
    let flags = flags_view c.args.flags.now in
    let x = c.flag-item.result in
    c.in_ok-push_notes.ensures ∙ ap (λ (ns : List Noted). ns ++ notes_by flags (reached_view x)) c.loop-flag.invariant
    ∙ sym (flat_more reached_view c.args.reached.now c.loop-flag.flag-index x c.loop-flag-test.true c.flag-item.is (notes_by flags))
