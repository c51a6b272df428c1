use Rattle.std.proofs.Common.{◌≡◌, List, length}
use Rattle.json.specs.Token.{Token}
use Rattle.text_spans.specs.Place.{IsEnd, Stand, from_token}
use Rattle.text_spans.proofs.lexemes.from_token.Given as goal

abbrev pub invariant-bytes : goal.invariant-bytes
invariant-bytes l = ((ts : List Token) → Stand ts l.text → Stand ts l.rest) × IsEnd l.rest l.text × (from_token l.text ≡ from_token l.rest)

abbrev pub decreases-bytes : goal.decreases-bytes
decreases-bytes l = length l.rest
