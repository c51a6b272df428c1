use Rattle.std.proofs.Common.{[], ◌∷◌, ◌∙◌, ap, map, string_bytes}
use Rattle.std.proofs.lemmas.List.{map-append}
use Rattle.control_flags.proofs.joined.push_row.Goals as goal

pub returns : goal.returns
returns c = ap (map string_bytes) c.in_ok-push.ensures.items ∙ map-append string_bytes c.args.rows.now.items (c.args.row ∷ [])
