use Rattle.text_spans.proofs.Lexing.{escaped_at, escaped_none}
use Rattle.text_spans.proofs.Passed.{escape_passed, none_escapes}
use Rattle.text_spans.proofs.lexemes.after_escaped.Goals as goal

pub returns-in-Some-clause-lexed : goal.returns-in-Some-clause-lexed
returns-in-Some-clause-lexed c = escaped_at _ _ _ c.in-Some.ensures.cases.0

pub returns-in-None-clause-lexed : goal.returns-in-None-clause-lexed
returns-in-None-clause-lexed c = escaped_none c.args.text.now c.in-None.ensures.cases

pub returns-in-Some-clause-here : goal.returns-in-Some-clause-here
returns-in-Some-clause-here c = escape_passed _ _ _ c.in-Some.ensures.cases.0

pub returns-in-None-clause-here : goal.returns-in-None-clause-here
returns-in-None-clause-here c = none_escapes c.args.text.now c.in-None.ensures.cases
