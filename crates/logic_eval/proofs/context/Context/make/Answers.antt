use Rattle.std.proofs.Common.{ap, sym, ◌∙◌}
use Rattle.flag_text.specs.Shape.{is_tidy, members_are_tidy}
use Rattle.flag_text.specs.View.{view, members_view}
use Rattle.logic_values.proofs.Members.{view_object}
use Rattle.logic_eval.proofs.context.Context.make.Goals as goal

pub invariant_of-result : goal.invariant_of-result
invariant_of-result c = record {
  tidy = ap (λ ms. members_are_tidy (members_view ms)) c.as_slice.ensures.value ∙ (sym (ap is_tidy (ap view c.in-Object.is ∙ view_object c.in-Object.members)) ∙ c.requires.tidy);
  small = c.requires.moment;
}
