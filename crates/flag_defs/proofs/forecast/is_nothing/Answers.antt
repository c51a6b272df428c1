use Rattle.std.proofs.Common.{sym, ap, ◌∙◌}
use Rattle.flag_text.specs.View.{view}
use Rattle.flag_defs.specs.Targeting.{is_nothing}
use Rattle.flag_defs.proofs.Weighed.{empty-object}
use Rattle.flag_defs.proofs.forecast.is_nothing.Goals as goal

pub returns-in-Object : goal.returns-in-Object
returns-in-Object c = c.is_empty.ensures ∙ (empty-object c.in-Object.members ∙ sym (ap (λ t. is_nothing (view t)) c.in-Object.is))
