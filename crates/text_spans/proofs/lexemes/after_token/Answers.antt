use Rattle.text_spans.proofs.Lexing.{end_at, end_end, end_same}
use Rattle.text_spans.proofs.Passed.{no_token, token_at}
use Rattle.text_spans.proofs.lexemes.after_token.Goals as goal

pub returns-in-Some-clause-end : goal.returns-in-Some-clause-end
returns-in-Some-clause-end c = end_end _ _ _ c.after_first.ensures.end (end_at _ _ _ _ c.in-Some.ensures.cases.0 (end_same c.args.text.now))

pub returns-in-Some-clause-here : goal.returns-in-Some-clause-here
returns-in-Some-clause-here c = token_at _ _ _ _ c.in-Some.ensures.cases.0 c.after_first.ensures.here

pub returns-in-None-clause-here : goal.returns-in-None-clause-here
returns-in-None-clause-here c = no_token c.args.text.now c.in-None.ensures.cases
