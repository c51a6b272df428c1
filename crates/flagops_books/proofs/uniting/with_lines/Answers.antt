use Rattle.std.proofs.Common.{◌∙◌, Err, string_bytes, subst, sym}
use Rattle.flagops_books.proofs.Unions.{full_lines, long_line, stopped_lines, taken_lines}
use Rattle.note_lines.specs.Lines.{TakesNotes}
use Rattle.note_lines.specs.declared.fault.NotesFault.{NotesFault}
use Rattle.flagops_books.proofs.uniting.with_lines.Goals as goal

pub returns-then-is_one_line-clause-exact : goal.returns-then-is_one_line-clause-exact
returns-then-is_one_line-clause-exact c = λ now is_of.
    long_line c.args.passing now c.args.path.now c.args.bytes.now (string_bytes c.args.all.told) c.stopped.result (sym c.is_one_line.ensures ∙ c.if-is_one_line.true) c.stopped.ensures.stray c.stopped.ensures.wants

pub returns-in-Ok-clause-exact : goal.returns-in-Ok-clause-exact
returns-in-Ok-clause-exact c = λ now is_of.
    taken_lines c.args.passing now c.args.path.now c.args.bytes.now (string_bytes c.args.all.told) (sym c.is_one_line.ensures ∙ c.if-is_one_line.false) c.in-Ok.taken c.with_taken.result (c.in-Ok.ensures now is_of) c.with_taken.ensures.noted c.with_taken.ensures.wants

pub returns-in-Err-Line-clause-exact : goal.returns-in-Err-Line-clause-exact
returns-in-Err-Line-clause-exact c = λ now is_of.
    stopped_lines c.args.passing now c.args.path.now c.args.bytes.now (string_bytes c.args.all.told) (sym c.is_one_line.ensures ∙ c.if-is_one_line.false) c.in-Err-Line.n c.stopped-in-Err-Line.result
    (subst (λ (e : NotesFault). TakesNotes c.args.passing now c.args.bytes.now (Err e)) c.in-Err-Line.field-0-is (c.in-Err-Line.ensures now is_of)) c.stopped-in-Err-Line.ensures.stray c.stopped-in-Err-Line.ensures.wants

pub returns-in-Err-PageFull-clause-exact : goal.returns-in-Err-PageFull-clause-exact
returns-in-Err-PageFull-clause-exact c = λ now is_of.
    full_lines c.args.passing now c.args.path.now c.args.bytes.now (string_bytes c.args.all.told) (sym c.is_one_line.ensures ∙ c.if-is_one_line.false) c.full.result
    (subst (λ (e : NotesFault). TakesNotes c.args.passing now c.args.bytes.now (Err e)) c.in-Err-PageFull.field-0-is (c.in-Err-PageFull.ensures now is_of)) c.full.ensures.refusal
