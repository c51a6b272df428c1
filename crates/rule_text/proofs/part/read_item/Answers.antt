use Rattle.std.proofs.Common.{◌≡◌, ◌-◌, ◌+◌, [], ◌∷◌, length, sym, ap, ◌∙◌, arith}
use Rattle.std.proofs.lemmas.Result.{IfOk-weaker}
use Rattle.json.specs.Json.{parse_map, items, value}
use Rattle.json.specs.Reads.{token_of}
use Rattle.json.proofs.Grammar.{value_is, value-begin_array}
use Rattle.serde_json.specs.Data as parsed
use Rattle.serde_json.specs.Read.{converted, of_items, of_json}
use Rattle.flag_text.specs.Reading.{shape_of, items_shape}
use Rattle.rule_text.specs.Parts.{Seen, part_of, list_of, list_view}
use Rattle.rule_text.proofs.Readings.{converted-array, mapped_some}
use Rattle.rule_text.proofs.part.read_item.Goals as goal

pub returns-in_err-token-clause-err : goal.returns-in_err-token-clause-err
returns-in_err-token-clause-err c refused =
    let empty : c.args.reader.now ≡ [] = grind arith in
    ap (converted of_json) (ap (value c.args.depth) empty ∙ value_is c.args.depth [])

pub returns-in-BeginArray-clause-ok : goal.returns-in-BeginArray-clause-ok
returns-in-BeginArray-clause-ok c =
    let depth = c.args.depth in
    let r = c.next.new.self in
    let first : c.args.reader.now ≡ token_of c.in_ok-token.token ∷ r = grind arith in
    let all = items (value (depth - 1)) (length r) r in
    let deeper : 1 + (depth - 1) ≡ depth = omega arith in
    let opened = ap (converted of_json) (ap (value depth) (first ∙ ap (λ k. token_of k ∷ r) c.in-BeginArray.is) ∙ value-begin_array depth r (omega arith)) ∙ converted-array all in
    IfOk-weaker c.list_part.result _ _ (λ p read.
    let ds = mapped_some (λ ds. list_of (depth - 1) (items_shape ds)) (converted of_items all) (list_view p) c.list_part.new.reader read in
    let seen = sym ds.2 ∙ ap (λ k. part_of k (shape_of (parsed.array ds.0))) deeper in
    (parsed.array ds.0, opened ∙ ap (parse_map parsed.array) ds.1, ap (λ (x : Seen). (x.2, x.3)) seen)) c.list_part.ensures.ok

pub returns-in-BeginArray-clause-err : goal.returns-in-BeginArray-clause-err
returns-in-BeginArray-clause-err c refused =
    let depth = c.args.depth in
    let r = c.next.new.self in
    let first : c.args.reader.now ≡ token_of c.in_ok-token.token ∷ r = grind arith in
    let opened = ap (converted of_json) (ap (value depth) (first ∙ ap (λ k. token_of k ∷ r) c.in-BeginArray.is) ∙ value-begin_array depth r (omega arith)) ∙ converted-array (items (value (depth - 1)) (length r) r) in
    opened ∙ ap (parse_map parsed.array) (c.list_part.ensures.err refused)
