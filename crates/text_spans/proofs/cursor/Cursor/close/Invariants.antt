use Rattle.std.proofs.Common.{◌≡◌, ◌<◌, ◌≤◌, ◌+◌, List, Some, length}
use Rattle.json.specs.Token.{Token}
use Rattle.text_spans.specs.Place.{GoOn, IsEnd, Stand, closed}
use Rattle.text_spans.proofs.cursor.Cursor.close.Given as goal

abbrev pub invariant-tokens : goal.invariant-tokens
invariant-tokens l = record {
  is_open : 0 < l.depth;
  level : (rest : List Token) → closed 1 l.initial.self.reader ≡ Some rest → closed l.depth l.self.reader ≡ Some rest;
  stands : Stand l.self.reader l.self.rest.now;
  passed : GoOn l.initial.self.reader l.initial.self.rest.now l.self.reader l.self.rest.now;
  end : IsEnd l.self.rest.now l.initial.self.rest.now;
  bound : l.depth + length l.self.reader ≤ l.most;
}

abbrev pub decreases-tokens : goal.decreases-tokens
decreases-tokens l = length l.self.reader
