use Rattle.std.proofs.Common.{Bool, false, Option, ap, ◌∙◌}
use Rattle.std.specs.Prelude.{unwrap_or}
use Rattle.flag_defs.proofs.marks.mark_of.Goals as goal

pub returns : goal.returns
returns c = c.unwrap_or.ensures ∙ ap (λ (o : Option Bool). unwrap_or o false) (c.copied.ensures ∙ c.get.ensures.value)
