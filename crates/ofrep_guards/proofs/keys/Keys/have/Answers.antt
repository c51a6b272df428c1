use Rattle.std.proofs.Common.{rules, tests, string_bytes, ◌∙◌}
use Rattle.std.specs.Str.{bytes_eq}
use Rattle.std.proofs.lemmas.Iterator.Search.{any_from_yields_List}
use Rattle.std.proofs.lemmas.Iterator.Splits.{YieldsList-from_lines}
use Rattle.ofrep_guards.proofs.keys.Keys.have.Goals as goal

pub returns : goal.returns
returns c =
    any_from_yields_List (λ line. bytes_eq line c.args.key.now) _ _ c.any.result c.any.ensures.ran
    (YieldsList-from_lines (string_bytes c.args.self.now.text) (c.lines.ensures.rest ∙ c.as_str.ensures.value)) (λ x b q k. search (rules, tests))
