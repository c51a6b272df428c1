use Rattle.std.proofs.Common.{sym, ap, ◌∙◌}
use Rattle.flag_text.specs.View.{view, members_view}
use Rattle.spelled_numbers.specs.Levels.{stand_for_number, stands_for_number}
use Rattle.spelled_numbers.proofs.Objects.{view_object}
use Rattle.spelled_numbers.proofs.levels.stands_for_number.Goals as goal

pub returns-in-Object : goal.returns-in-Object
returns-in-Object c =
    c.stand_for_number.ensures ∙ (ap (λ ms. stand_for_number (members_view ms)) c.as_slice.ensures.value
    ∙ sym (ap (λ t. stands_for_number (view t)) c.in-Object.is ∙ ap stands_for_number (view_object c.in-Object.members)))
