use Rattle.note_lines.proofs.OneKind.{not_both}
use Rattle.note_lines.proofs.laws.no_line_is_of_both.Goals as goal

pub returns : goal.returns
returns c = not_both
