use Rattle.std.proofs.Common.{Some, subst, sym}
use Rattle.note_lines.specs.Hashed.{Hashed}
use Rattle.note_lines.specs.Reading.{ReadsHashed}
use Rattle.note_streams.proofs.LogCounted.{hashed_says, hashed_says_nothing}
use Rattle.note_streams.specs.Counts.{SaysPage}
use Rattle.note_streams.proofs.counting.hashed_page.Goals as goal

pub returns-in-Some : goal.returns-in-Some
returns-in-Some c =
    subst (λ (n : Hashed). SaysPage c.args.line.now (Some n.page)) (sym c.note.view_is) (hashed_says c.args.line.now c.in-Some.note (subst (ReadsHashed c.args.line.now) c.in-Some.is c.in_ok-note.ensures.exact))

pub returns-in-None : goal.returns-in-None
returns-in-None c = hashed_says_nothing c.args.line.now c.requires (subst (ReadsHashed c.args.line.now) c.in-None.is c.in_ok-note.ensures.exact)
