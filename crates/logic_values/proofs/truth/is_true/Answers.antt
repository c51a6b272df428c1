use Rattle.std.proofs.Common.{ap, sym, ◌∙◌}
use Rattle.std.specs.Prelude.{not}
use Rattle.flag_text.specs.View.{view}
use Rattle.logic_values.specs.Truth.{is_true}
use Rattle.logic_values.specs.Views.{seen_view, value_view}
use Rattle.logic_values.proofs.Truths.{is_true_list}
use Rattle.logic_values.proofs.truth.is_true.Goals as goal

pub returns-in-Trees : goal.returns-in-Trees
returns-in-Trees c = ap not c.is_empty-in-Trees.ensures ∙ sym (ap (λ s. is_true (seen_view s)) c.in-Trees.is ∙ is_true_list view c.in-Trees.items.now)

pub returns-in-Values : goal.returns-in-Values
returns-in-Values c = ap not c.is_empty-in-Values.ensures ∙ sym (ap (λ s. is_true (seen_view s)) c.in-Values.is ∙ is_true_list value_view c.in-Values.items.now)
