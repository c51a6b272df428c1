use Rattle.std.proofs.Common.{◌≡◌, drop}
use Rattle.spelled_numbers.specs.Sent.{respelled}
use Rattle.spelled_numbers.specs.SentView.{shown}
use Rattle.spelled_numbers.proofs.respelling.respelled.Given as goal

-- what is written once the rest has come is the whole text, respelled
abbrev pub invariant-loop-byte : goal.invariant-loop-byte
invariant-loop-byte l = shown l.respelling (drop l.byte-index l.text) ≡ respelled l.text
