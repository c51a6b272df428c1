use Rattle.std.proofs.Common.{◌≡◌, ◌+◌, List, [], ◌∷◌, ◌++◌, take, sym, ap, ◌∙◌, subst}
use Rattle.std.proofs.lemmas.List.{take_more}
use Rattle.note_lines.specs.Note.{Noted}
use Rattle.note_log.specs.Batch.{ArePrinted}
use Rattle.note_log.proofs.Batches.{with_note}
use Rattle.note_log.proofs.batch.lines_of.Goals as goal

pub loop-note-preserved : goal.loop-note-preserved
loop-note-preserved c =
    let notes = c.args.notes.now in
    let i = c.loop-note.note-index in
    let x = c.note-item.result in
    let old = c.loop-note.lines.items in
    let new = c.add_line.new.lines.items in
    let more : take (i + 1) notes ≡ take i notes ++ x ∷ [] = take_more notes i x c.loop-note-test.true ∙ ap (λ (n : Noted). take i notes ++ n ∷ []) (sym c.note-item.is) in
    subst (λ (ns : List Noted). ArePrinted c.args.form ns new) (sym more)
    (with_note c.args.form (take i notes) x old new c.loop-note.invariant c.in_ok-add_line.ensures)
