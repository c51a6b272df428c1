use Rattle.std.proofs.Common.{Some, string_bytes}
use Rattle.std.proofs.lemmas.Map.Text.{btree_map_updates_text}
use Rattle.flag_defs.proofs.marks.insert.Goals as goal

pub returns : goal.returns
returns c = λ key. btree_map_updates_text (string_bytes c.args.mark.key) c.args.last.now c.insert.new.self (Some c.args.mark.has_floats) c.in_ok-insert.ensures.updates key
