-- the entries that were listed make the rule of the text
use Rattle.std.proofs.Common.{◌≡◌, rules, sym, ap, ◌∙◌}
use Rattle.serde_json.specs.Read.{read}
use Rattle.flag_text.specs.Reading.{if_json, if_whole}
use Rattle.rule_text.specs.Choosing.{choice_of}
use Rattle.rule_text.specs.Lent.{lent_view}
use Rattle.rule_text.specs.Listed.{IsListed}
use Rattle.rule_text.proofs.Found.{made, ruled}
use Rattle.rule_text.proofs.Literal.{listed_buckets}
use Rattle.rule_text.proofs.choosing.choice_in.Goals as goal

pub returns-in-Some-clause-exact : goal.returns-in-Some-clause-exact
returns-in-Some-clause-exact c =
    let es = lent_view c.as_slice.result.now in
    let same_es : lent_view c.in-Some.entries.items ≡ es = ap lent_view (sym c.as_slice.ensures.value) in
    let is_listed : IsListed c.args.text.now es = rw (← same_es) (search rules) in
    let tree = if_whole (if_json (read c.args.text.now)) in
    let same = ap (choice_of c.args.key.now) (ruled tree ∙ ap made (listed_buckets c.args.text.now es is_listed)) in
    rw same c.choice_among.ensures.exact
