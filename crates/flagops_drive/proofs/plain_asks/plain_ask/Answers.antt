use Rattle.std.proofs.Common.{◌≡◌, ◌<◌, ◌∷◌, ap, ◌∙◌, Some, None, length, pos, arith}
use Rattle.std.specs.Prelude.{codes}
use Rattle.json.specs.Json.{read_key, value}
use Rattle.json.specs.Token.{Token}
use Rattle.json.proofs.Grammar.{read_key-shorter}
use Rattle.serde_json.specs.Read.{converted}
use Rattle.flag_text.specs.Grammar.{tree_from}
use Rattle.flag_text.specs.Shape.{text, whole}
use Rattle.flag_text.specs.View.{view}
use Rattle.flag_defs.specs.Kind.{word_of}
use Rattle.flagops_drive.proofs.PlainMembers.{ask_read, shorter_behind}
use Rattle.flagops_drive.proofs.plain_asks.plain_ask.Goals as goal
use Rattle.flagops_drive.proofs.plain_asks.plain_ask.Goals.{In-Ok-None}

begun : (c : In-Ok-None) → c.args.reader.now ≡ Token.begin_object ∷ c.next.new.self
begun c = grind arith

ended : (c : In-Ok-None) → read_key c.moment.new.reader ≡ Some (None, c.next_key.new.self)
ended c = rw c.in-Ok-None.field-0-is at c.in-Ok-None.ensures.value

pub returns-clause-value : goal.returns-clause-value
returns-clause-value t =
    let c = (goal.at.returns-clause-value t).In-Ok-None in
    ap (λ ts. converted tree_from (value 126 ts)) (begun c)
    ∙ ask_read c.next.new.self c.text.new.reader c.kind.new.reader c.tree.new.reader c.context.new.reader c.moment.new.reader c.next_key.new.self c.in_ok-key.key.now (word_of c.in_ok-want.want) (view c.in_ok-default.default)
    (view c.in_ok-context.context) (whole (pos c.in_ok-moment.moment)) c.in_ok-key.ensures c.in_ok-want.ensures c.in_ok-default.ensures.value c.in_ok-context.ensures.value c.in_ok-moment.ensures.value (ended c)

pub returns-clause-shorter : goal.returns-clause-shorter
returns-clause-shorter t =
    let c = (goal.at.returns-clause-shorter t).In-Ok-None in
    let first : length c.next.new.self < length c.args.reader.now = omega (arith, ap length (begun c)) in
    let key : length c.text.new.reader < length c.next.new.self = shorter_behind (codes "key") _ (text c.in_ok-key.key.now) _ c.in_ok-key.ensures in
    let want : length c.kind.new.reader < length c.text.new.reader = shorter_behind (codes "want") _ (text (word_of c.in_ok-want.want)) _ c.in_ok-want.ensures in
    let default : length c.tree.new.reader < length c.kind.new.reader = shorter_behind (codes "default") _ (view c.in_ok-default.default) _ c.in_ok-default.ensures.value in
    let context : length c.context.new.reader < length c.tree.new.reader = shorter_behind (codes "context") _ (view c.in_ok-context.context) _ c.in_ok-context.ensures.value in
    let moment : length c.moment.new.reader < length c.context.new.reader = shorter_behind (codes "moment") _ (whole (pos c.in_ok-moment.moment)) _ c.in_ok-moment.ensures.value in
    let end : length c.next_key.new.self < length c.moment.new.reader = read_key-shorter c.moment.new.reader None c.next_key.new.self (ended c) in
    omega (first, key, want, default, context, moment, end, arith)
