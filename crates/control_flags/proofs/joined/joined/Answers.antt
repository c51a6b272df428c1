use Rattle.std.proofs.Common.{codes, ◌∙◌, string_bytes}
use Rattle.std.proofs.lemmas.Result.{IfOk-weaker}
use Rattle.control_flags.proofs.Rows.{join_map}
use Rattle.control_flags.proofs.joined.joined.Goals as goal

pub returns : goal.returns
returns c = IfOk-weaker c.join.result _ _ (λ s is. is ∙ join_map string_bytes (codes ",") c.args.rows.now) c.join.ensures.ok
