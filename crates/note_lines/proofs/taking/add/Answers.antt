use Rattle.std.proofs.Common.{◌∙◌, sym}
use Rattle.note_lines.proofs.Kept.{full_there}
use Rattle.note_lines.proofs.taking.add.Goals as goal

pub returns-in-Err-clause-full : goal.returns-in-Err-clause-full
returns-in-Err-clause-full c = λ is. full_there c.args.book.now c.args.page.now c.args.input.now c.in-Err.fault c.requires c.in-Err.ensures.exact (sym c.of_note.ensures ∙ is)
