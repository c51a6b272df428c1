use Rattle.std.proofs.Common.{◌∙◌, sym}
use Rattle.note_streams.proofs.Strays.{blank_told, noted_told}
use Rattle.note_streams.proofs.stray.is_stray.Goals as goal

pub returns-then-is_blank : goal.returns-then-is_blank
returns-then-is_blank c = blank_told c.args.line.now (sym c.is_blank.ensures ∙ c.if-is_blank.true)

pub returns : goal.returns
returns c = noted_told c.args.line.now c.in_ok-noted.noted (sym c.is_blank.ensures ∙ c.if-is_blank.false) c.in_ok-noted.ensures
