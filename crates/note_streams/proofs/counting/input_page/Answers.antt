use Rattle.std.proofs.Common.{Some, subst, sym}
use Rattle.note_lines.specs.Note.{Noted}
use Rattle.note_lines.specs.Reading.{Reads}
use Rattle.note_streams.proofs.LogCounted.{input_says, input_says_nothing}
use Rattle.note_streams.specs.Counts.{SaysPage}
use Rattle.note_streams.proofs.counting.input_page.Goals as goal

pub returns-in-Some : goal.returns-in-Some
returns-in-Some c =
    subst (λ (n : Noted). SaysPage c.args.line.now (Some n.page)) (sym c.note.view_is) (input_says c.args.line.now c.in-Some.note (subst (Reads c.args.line.now) c.in-Some.is c.in_ok-note.ensures.exact))

pub returns-in-None : goal.returns-in-None
returns-in-None c = input_says_nothing c.args.line.now c.requires (subst (Reads c.args.line.now) c.in-None.is c.in_ok-note.ensures.exact)
