use Rattle.std.proofs.Common.{◌≡◌, [], ◌∷◌, sym, ◌∙◌, arith, rules}
use Rattle.json.specs.Token.{Token}
use Rattle.rule_text.specs.Lent.{lent_view}
use Rattle.rule_text.proofs.Turns.{listed_of}
use Rattle.rule_text.proofs.listed.listed.Goals as goal

pub returns : goal.returns
returns c =
    let first : c.in_ok-reader.reader ≡ Token.begin_array ∷ c.next.new.self = grind arith in
    let none : c.entries.new.reader ≡ [] = search rules in
    listed_of c.in_ok-found.found (λ v. lent_view v.items) c.args.text.now c.next.new.self c.entries.new.reader (sym c.in_ok-reader.ensures.ok ∙ first) none c.in_ok-found.ensures
