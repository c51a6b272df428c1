use Rattle.std.proofs.Common.{◌≡◌, ◌∷◌, arith}
use Rattle.json.specs.Reads.{token_of}
use Rattle.text_spans.proofs.Going.{goes_none, goes_one}
use Rattle.text_spans.proofs.Stepping.{next_left, next_stands}
use Rattle.text_spans.proofs.cursor.Cursor.next.Goals as goal

pub returns-in_err-token-clause-passed : goal.returns-in_err-token-clause-passed
returns-in_err-token-clause-passed c = goes_none _ _ _ (grind arith)

pub returns-clause-value : goal.returns-clause-value
returns-clause-value c =
    let first : c.args.self.now.reader ≡ token_of c.in_ok-token.token ∷ c.next.new.self = grind arith in
    (first, next_left _ _ _ _ _ (c.from_token.ensures.placed _ c.requires.stands) (c.after_token-self.ensures.one c.from_token.ensures.begins) first)

pub returns-clause-stands : goal.returns-clause-stands
returns-clause-stands c =
    let first : c.args.self.now.reader ≡ token_of c.in_ok-token.token ∷ c.next.new.self = grind arith in
    next_stands _ _ _ (next_left _ _ _ _ _ (c.from_token.ensures.placed _ c.requires.stands) (c.after_token-self.ensures.one c.from_token.ensures.begins) first)

pub returns-clause-passed : goal.returns-clause-passed
returns-clause-passed c =
    let first : c.args.self.now.reader ≡ token_of c.in_ok-token.token ∷ c.next.new.self = grind arith in
    goes_one _ _ _ _ _ _ first c.from_token.ensures.here c.after_token-self.ensures.here
