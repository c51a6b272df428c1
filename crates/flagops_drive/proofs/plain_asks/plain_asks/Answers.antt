use Rattle.std.proofs.Common.{◌≡◌, Ok, arith}
use Rattle.std.proofs.lemmas.Result.{IfOk-weaker}
use Rattle.std.proofs.lemmas.Str.{is_utf8-from_IsUtf8}
use Rattle.serde_json.specs.Read.{read}
use Rattle.flag_text.specs.Reading.{if_json, tree_of}
use Rattle.flag_text.specs.Shape.{list}
use Rattle.flagops_drive.specs.Plain.{asks_shape}
use Rattle.flagops_drive.proofs.PlainAsks.{tree_of_asks}
use Rattle.flagops_drive.proofs.plain_asks.plain_asks.Goals as goal

pub returns-in-Ok-clause-value : goal.returns-in-Ok-clause-value
returns-in-Ok-clause-value c =
    let read_as = c.in-Ok.ensures in
    IfOk-weaker c.text_asks.result (λ v. if_json (read c.in-Ok.text.now) ≡ Ok (list (asks_shape v.items))) (λ v. tree_of c.args.bytes.now c.args.max ≡ Ok (list (asks_shape v.items)))
    (λ v e. tree_of_asks c.args.bytes.now c.in-Ok.text.now c.args.max v.items (omega arith) read_as.0 read_as.1 e) c.text_asks.ensures

pub returns-in-Ok-clause-want : goal.returns-in-Ok-clause-want
returns-in-Ok-clause-want c = λ _. (omega arith, is_utf8-from_IsUtf8 c.args.bytes.now c.in-Ok.ensures.1)
