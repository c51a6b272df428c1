use Rattle.std.proofs.Common.{◌≡◌, map, ap, sym, ◌∙◌, subst, arith}
use Rattle.serde_json.specs.Read.{read}
use Rattle.flag_text.specs.Reading.{if_json, if_whole, tree_of}
use Rattle.flag_text.proofs.Readings.{doc_of-utf8, no_utf8}
use Rattle.member_names.specs.Kept.{IsKeptOf}
use Rattle.member_names.proofs.NamedTexts.{carried}
use Rattle.member_names.proofs.reading.kept_tree.Goals as goal
use Rattle.member_names.proofs.reading.kept_tree.Goals.{After-if_kept}

same : (c : After-if_kept) → if_whole (if_json (read c.in-Ok.text.now)) ≡ tree_of c.args.bytes.now c.args.max
same c =
    let read_as = c.in-Ok.ensures in
    ap if_whole (ap (λ bytes. if_json (read bytes)) read_as.0 ∙ sym (doc_of-utf8 c.args.bytes.now c.args.max (omega arith) read_as.1))

pub returns-in-Ok-clause-read : goal.returns-in-Ok-clause-read
returns-in-Ok-clause-read c =
    let names = map (λ n. n.now) c.args.names.now in
    carried c.if_kept.result c.kept_of_text.result (IsKeptOf names (if_whole (if_json (read c.in-Ok.text.now)))) (IsKeptOf names (tree_of c.args.bytes.now c.args.max))
    (λ t kept. subst (λ wanted. IsKeptOf names wanted t) (same c) kept) c.if_kept.ensures.read c.kept_of_text.ensures

pub returns-in-Ok-clause-no_text : goal.returns-in-Ok-clause-no_text
returns-in-Ok-clause-no_text c = λ other. absurd (no_utf8 c.args.bytes.now c.in-Ok.ensures.1 other)
