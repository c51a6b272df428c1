use Rattle.std.proofs.Common.{◌≡◌, ap, sym, ◌∙◌, arith}
use Rattle.serde_json.specs.Read.{read}
use Rattle.flag_text.specs.Reading.{if_json, doc_of}
use Rattle.flag_text.proofs.Readings.{doc_of-utf8, doc_of-none, no_utf8}
use Rattle.flag_text.proofs.Rising.{is_tidy-text}
use Rattle.flag_text.proofs.read.read_doc_with.Goals as goal
use Rattle.flag_text.proofs.read.read_doc_with.Goals.{After-text_tree}

same : (c : After-text_tree) → if_json (read c.in-Ok.text.now) ≡ doc_of c.args.bytes.now c.args.max
same c =
    let read_as = c.in-Ok.ensures in
    ap (λ bytes. if_json (read bytes)) read_as.0 ∙ sym (doc_of-utf8 c.args.bytes.now c.args.max (omega arith) read_as.1)

pub returns-in-Ok-clause-exact : goal.returns-in-Ok-clause-exact
returns-in-Ok-clause-exact c = rw (← same c) c.text_tree.ensures.exact

pub returns-in-Ok-clause-tidy : goal.returns-in-Ok-clause-tidy
returns-in-Ok-clause-tidy c = is_tidy-text c.in-Ok.text.now c.text_tree.result c.text_tree.ensures.exact

pub returns-in-Ok-clause-no_text : goal.returns-in-Ok-clause-no_text
returns-in-Ok-clause-no_text c = λ _ other. absurd (no_utf8 c.args.bytes.now c.in-Ok.ensures.1 other)

pub returns-in-Err-clause-exact : goal.returns-in-Err-clause-exact
returns-in-Err-clause-exact c = λ _. doc_of-none c.args.bytes.now c.args.max (omega arith) (λ u. absurd (c.in-Err.ensures u))
