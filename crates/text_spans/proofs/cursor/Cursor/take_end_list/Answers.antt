use Rattle.std.proofs.Common.{◌≡◌, Some, refl, arith}
use Rattle.json.specs.Json.{after_end_array}
use Rattle.json.proofs.Grammar.{closed_array}
use Rattle.text_spans.proofs.Going.{goes_closed, goes_none}
use Rattle.text_spans.proofs.Stepping.{next_left, next_stands}
use Rattle.text_spans.proofs.cursor.Cursor.take_end_list.Goals as goal

pub returns-then-ends-clause-stands : goal.returns-then-ends-clause-stands
returns-then-ends-clause-stands c =
    let closes : after_end_array c.args.self.now.reader ≡ Some c.take_end_array-ends.new.self = grind arith in
    next_stands _ _ _ (next_left _ _ _ _ _ (c.from_token.ensures.placed _ c.requires.stands) (c.after_token-self.ensures.one c.from_token.ensures.begins) (closed_array _ _ closes))

pub returns-then-ends-clause-passed : goal.returns-then-ends-clause-passed
returns-then-ends-clause-passed c =
    let closes : after_end_array c.args.self.now.reader ≡ Some c.take_end_array-ends.new.self = grind arith in
    goes_closed _ _ _ _ _ closes c.from_token.ensures.here c.after_token-self.ensures.here

pub returns-else-ends-clause-passed : goal.returns-else-ends-clause-passed
returns-else-ends-clause-passed c = goes_none _ _ _ (grind arith)
