use Rattle.note_lines.proofs.Lines.{one_hashed}
use Rattle.note_lines.proofs.laws.each_hashed_note_has_its_line.Goals as goal

pub returns : goal.returns
returns c = one_hashed
