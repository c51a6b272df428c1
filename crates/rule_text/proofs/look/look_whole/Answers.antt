use Rattle.std.proofs.Common.{◌≡◌, [], ◌∷◌, length, None, refl, sym, ap, ap₂, ◌∙◌, arith}
use Rattle.std.proofs.lemmas.Result.{IfOk-weaker}
use Rattle.json.specs.Json.{items, value, parse_map}
use Rattle.json.specs.Reads.{token_of}
use Rattle.json.proofs.Grammar.{value_is, value-begin_array}
use Rattle.serde_json.specs.Data as parsed
use Rattle.serde_json.specs.Read.{converted, max_depth, of_items, of_json}
use Rattle.flag_text.specs.Reading.{items_shape}
use Rattle.rule_text.specs.Buckets.{found_of}
use Rattle.rule_text.proofs.Found.{no_list}
use Rattle.rule_text.proofs.Readings.{converted-array, mapped_some}
use Rattle.rule_text.proofs.look.look_whole.Goals as goal

pub returns-in_err-token-clause-err : goal.returns-in_err-token-clause-err
returns-in_err-token-clause-err c refused =
    let empty : c.args.reader.now ≡ [] = grind arith in
    ap (converted of_json) (ap (value max_depth) empty ∙ value_is max_depth [])

pub returns-in-BeginArray-clause-ok : goal.returns-in-BeginArray-clause-ok
returns-in-BeginArray-clause-ok c =
    let r = c.next.new.self in
    let first : c.args.reader.now ≡ token_of c.in_ok-token.token ∷ r = grind arith in
    let all = items (value 126) (length r) r in
    let opened = ap (converted of_json) (ap (value max_depth) (first ∙ ap (λ k. token_of k ∷ r) c.in-BeginArray.is) ∙ value-begin_array max_depth r (omega arith)) ∙ converted-array all in
    IfOk-weaker c.look_list.result _ _ (λ seen read.
    let ds = mapped_some (λ ds. found_of (items_shape ds)) (converted of_items all) _ c.look_list.new.reader read.1 in
    (parsed.array ds.0, read.0, opened ∙ ap (parse_map parsed.array) ds.1, sym ds.2, read.2)) c.look_list.ensures.ok

pub returns-in-BeginArray-clause-err : goal.returns-in-BeginArray-clause-err
returns-in-BeginArray-clause-err c refused =
    let r = c.next.new.self in
    let first : c.args.reader.now ≡ token_of c.in_ok-token.token ∷ r = grind arith in
    let opened = ap (converted of_json) (ap (value max_depth) (first ∙ ap (λ k. token_of k ∷ r) c.in-BeginArray.is) ∙ value-begin_array max_depth r (omega arith)) ∙ converted-array (items (value 126) (length r) r) in
    opened ∙ ap (parse_map parsed.array) (c.look_list.ensures.err refused)

pub returns : goal.returns
returns c =
    let r = c.next.new.self in
    let first : c.args.reader.now ≡ token_of c.in_ok-token.token ∷ r = grind arith in
    let d = c.in_ok-part.ensures.ok in
    let none = no_list max_depth c.in_ok-token.token c.in_default.not-BeginArray r c.part_from.new.reader d.0 d.1 in
    record { ok = (d.0, None, ap (λ ts. converted of_json (value max_depth ts)) first ∙ d.1, ap₂ (λ o e. (o, e)) (sym none) (ap (λ x. x.3) d.2), refl); err = λ e. cc; kind = tt }
