use Rattle.std.proofs.Common.{◌≡◌, length}
use Rattle.json.specs.Lex.{in_string, lex}
use Rattle.text_spans.specs.Place.{IsEnd, after_string}
use Rattle.text_spans.proofs.lexemes.after_string.Given as goal

abbrev pub invariant-bytes : goal.invariant-bytes
invariant-bytes l = (lex in_string l.text ≡ lex in_string l.rest) × IsEnd l.rest l.text × (after_string l.text ≡ after_string l.rest)

abbrev pub decreases-bytes : goal.decreases-bytes
decreases-bytes l = length l.rest
