use Rattle.std.proofs.Common.{◌∙◌, not, rules, tests}
use Rattle.std.proofs.lemmas.Iterator.Adapters.{position_from-zero}
use Rattle.std.proofs.lemmas.Iterator.Search.{position_from_yields_List}
use Rattle.std.proofs.lemmas.Iterator.Splits.{YieldsList-from_lines}
use Rattle.std.specs.Str.Lines.{lines}
use Rattle.ofrep_guards.specs.KeyLine.{is_key}
use Rattle.ofrep_guards.proofs.key.bad_line.Goals as goal

pub returns : goal.returns
returns c =
    position_from_yields_List (λ line. not (is_key line)) _ _ c.position.result c.position.ensures.ran
    (YieldsList-from_lines c.args.text.now c.lines.ensures.rest) (λ x b q k. search (rules, tests))
    ∙ position_from-zero (λ line. not (is_key line)) (lines c.args.text.now)
