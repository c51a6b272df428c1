use Rattle.std.proofs.Common.{ℕ, List, Bool, [], ◌∷◌, ◌++◌, ◌∙◌, ap, append-nil, map, string_bytes, sym}
use Rattle.std.proofs.lemmas.Result.{on_ok_weaker}
use Rattle.control_flags.specs.Doubts.{row_if}
use Rattle.control_flags.specs.Joined.{pair_text}
use Rattle.control_flags.proofs.doubts.push_if.Goals as goal

pub returns-then-is : goal.returns-then-is
returns-then-is c =
    let before = map string_bytes c.args.rows.now.items in
    let key = c.args.key.now in
    on_ok_weaker c.push_pair.result (λ is. is ∙ ap (λ (word : List ℕ). before ++ pair_text key word ∷ []) c.name.ensures ∙ sym (ap (λ (b : Bool). before ++ row_if b key c.args.doubt) c.if-is.true)) c.push_pair.ensures

pub returns-else-is : goal.returns-else-is
returns-else-is c =
    let before = map string_bytes c.args.rows.now.items in
    sym (ap (λ (b : Bool). before ++ row_if b c.args.key.now c.args.doubt) c.if-is.false ∙ append-nil before)
