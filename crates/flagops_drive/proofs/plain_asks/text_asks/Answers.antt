use Rattle.std.proofs.Common.{◌≡◌, [], ◌∷◌, sym, ◌∙◌, arith, rules}
use Rattle.json.specs.Token.{Token}
use Rattle.flagops_drive.proofs.PlainAsks.{list_read}
use Rattle.flagops_drive.proofs.plain_asks.text_asks.Goals as goal

pub returns : goal.returns
returns c =
    let first : c.in_ok-reader.reader ≡ Token.begin_array ∷ c.next.new.self = grind arith in
    let none : c.listed_asks.new.reader ≡ [] = search rules in
    list_read c.args.text.now c.next.new.self c.listed_asks.new.reader c.in_ok-asks.asks.items (sym c.in_ok-reader.ensures.ok ∙ first) none c.in_ok-asks.ensures
