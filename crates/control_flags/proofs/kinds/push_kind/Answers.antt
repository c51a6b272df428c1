use Rattle.std.proofs.Common.{ℕ, List, Option, [], ◌∷◌, ◌++◌, ◌∙◌, ap, append-nil, map, string_bytes, sym}
use Rattle.std.proofs.lemmas.Result.{on_ok_weaker}
use Rattle.flag_defs.specs.declared.kind.Kind.{Kind}
use Rattle.control_flags.specs.Joined.{pair_text}
use Rattle.control_flags.specs.Kinds.{rows_of}
use Rattle.control_flags.proofs.kinds.push_kind.Goals as goal

pub returns-in-Some : goal.returns-in-Some
returns-in-Some c =
    let before = map string_bytes c.args.rows.now.items in
    let key = c.args.key.now in
    on_ok_weaker c.push_pair.result (λ is. is ∙ ap (λ (word : List ℕ). before ++ pair_text key word ∷ []) c.as_str.ensures ∙ sym (ap (λ (k : Option Kind). before ++ rows_of key k) c.in-Some.is)) c.push_pair.ensures

pub returns-in-None : goal.returns-in-None
returns-in-None c =
    let before = map string_bytes c.args.rows.now.items in
    sym (ap (λ (k : Option Kind). before ++ rows_of c.args.key.now k) c.in-None.is ∙ append-nil before)
