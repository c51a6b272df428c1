use Rattle.std.proofs.Common.{◌≡◌, [], ◌∷◌, sym, ◌∙◌, rules}
use Rattle.json.specs.Token.{Token}
use Rattle.rule_text.specs.Texts.{texts_view}
use Rattle.rule_text.proofs.OnlyTexts.{all_found}
use Rattle.rule_text.proofs.texts.texts_in.Goals as goal

pub returns : goal.returns
returns c =
    let first : c.in_ok-reader.reader ≡ Token.begin_array ∷ c.begins_list.new.reader = search rules in
    let end : c.texts.new.reader ≡ [] = search rules in
    all_found _ c.begins_list.new.reader c.texts.new.reader (sym c.in_ok-reader.ensures.ok ∙ first) c.in_ok-found.found (λ v. texts_view v.items) c.in_ok-found.ensures end
