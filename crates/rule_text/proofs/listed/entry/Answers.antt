use Rattle.std.proofs.Common.{◌≡◌, ◌∷◌, ap, ◌∙◌, rules, arith}
use Rattle.json.specs.Json.{value}
use Rattle.json.specs.Token.{Token}
use Rattle.serde_json.specs.Read.{converted}
use Rattle.rule_text.specs.Listed.{bucket_in, Closes}
use Rattle.rule_text.proofs.Turns.{bucket_read}
use Rattle.rule_text.proofs.listed.entry.Goals as goal

pub returns-in-Some-clause-value : goal.returns-in-Some-clause-value
returns-in-Some-clause-value c =
    let first : c.args.reader.now ≡ Token.begin_array ∷ c.next.new.self = grind arith in
    let second : c.next.new.self ≡ Token.string c.in-Some-String.name.now ∷ c.next-2.new.self = grind arith in
    let closes : Closes c.next-2.new.self c.in-Some.weight c.closing_weight.new.reader = search rules in
    ap (λ ts. converted bucket_in (value 126 ts)) (first ∙ ap (λ ts. Token.begin_array ∷ ts) second) ∙ bucket_read c.in-Some-String.name.now c.next-2.new.self c.closing_weight.new.reader c.in-Some.weight closes
