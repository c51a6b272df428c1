use Rattle.std.proofs.Common.{sym, subst}
use Rattle.note_streams.proofs.Strays.{hash_told}
use Rattle.note_streams.specs.Stray.{SaysWhether}
use Rattle.note_streams.proofs.stray.is_hashed_note.Goals as goal

pub returns : goal.returns
returns c = subst (SaysWhether c.args.line.now) (sym c.is_some.ensures) (hash_told c.args.line.now c.in_ok-note.note c.requires c.in_ok-note.ensures.exact)
