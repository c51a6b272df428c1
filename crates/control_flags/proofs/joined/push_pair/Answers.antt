use Rattle.std.proofs.Common.{ℕ, List, [], ◌∷◌, ◌++◌, ◌∙◌, ap, map, string_bytes}
use Rattle.std.proofs.lemmas.Result.{on_ok_weaker}
use Rattle.control_flags.proofs.joined.push_pair.Goals as goal

pub returns : goal.returns
returns c = on_ok_weaker c.push_row.result (λ is. is ∙ ap (λ (row : List ℕ). map string_bytes c.args.rows.now.items ++ row ∷ []) c.in_ok-row.ensures) c.push_row.ensures
