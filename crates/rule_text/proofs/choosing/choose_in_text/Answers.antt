use Rattle.std.proofs.Common.{◌≡◌, ap, sym, ◌∙◌, arith}
use Rattle.serde_json.specs.Read.{read}
use Rattle.flag_text.specs.Reading.{if_json, if_whole}
use Rattle.flag_text.proofs.Readings.{doc_of-utf8, doc_of-none, no_utf8}
use Rattle.rule_text.specs.Choosing.{choice_of}
use Rattle.rule_text.specs.Reading.{of_tree, rule_of_text}
use Rattle.rule_text.proofs.choosing.choose_in_text.Goals as goal

pub returns-in-Ok-clause-exact : goal.returns-in-Ok-clause-exact
returns-in-Ok-clause-exact c =
    let read_as = c.in-Ok.ensures in
    let same : of_tree (if_whole (if_json (read c.in-Ok.text.now))) ≡ rule_of_text c.args.bytes.now c.args.max =
    ap (λ r. of_tree (if_whole r)) (ap (λ bytes. if_json (read bytes)) read_as.0 ∙ sym (doc_of-utf8 c.args.bytes.now c.args.max (omega arith) read_as.1)) in
    rw (← same) c.choice_in.ensures.exact

pub returns-in-Ok-clause-no_text : goal.returns-in-Ok-clause-no_text
returns-in-Ok-clause-no_text c = λ _ other. absurd (no_utf8 c.args.bytes.now c.in-Ok.ensures.1 other)

pub returns-in-Err-clause-exact : goal.returns-in-Err-clause-exact
returns-in-Err-clause-exact c = λ _. ap (λ r. choice_of c.args.key.now (of_tree (if_whole r))) (doc_of-none c.args.bytes.now c.args.max (omega arith) (λ u. absurd (c.in-Err.ensures u)))
