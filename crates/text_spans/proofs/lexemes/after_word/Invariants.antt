use Rattle.std.proofs.Common.{◌≡◌, length}
use Rattle.json.specs.Lex.{in_word, lex}
use Rattle.text_spans.specs.Place.{IsEnd, after_word}
use Rattle.text_spans.proofs.lexemes.after_word.Given as goal

abbrev pub invariant-bytes : goal.invariant-bytes
invariant-bytes l = (lex in_word l.text ≡ lex in_word l.rest) × IsEnd l.rest l.text × (after_word l.text ≡ after_word l.rest)

abbrev pub decreases-bytes : goal.decreases-bytes
decreases-bytes l = length l.rest
