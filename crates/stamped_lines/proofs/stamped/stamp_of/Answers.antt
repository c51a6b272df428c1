use Rattle.std.proofs.Common.{◌≡◌, ℕ, List, IfOk, string_bytes, subst}
use Rattle.stamped_lines.specs.Stamped.{stamp_text}
use Rattle.stamped_lines.proofs.stamped.stamp_of.Goals as goal

pub returns : goal.returns
returns c = subst (λ (level : List ℕ). IfOk c.stamp_with.result (λ stamp. string_bytes stamp ≡ stamp_text c.args.moment.now level)) c.name.ensures c.stamp_with.ensures
