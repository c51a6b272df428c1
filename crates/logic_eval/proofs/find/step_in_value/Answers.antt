use Rattle.std.proofs.Common.{map, option_map, option_and_then, ap, sym, ◌∙◌}
use Rattle.std.specs.Prelude.{slice_get}
use Rattle.logic_eval.specs.Scope.{step, index_of}
use Rattle.logic_values.specs.Views.{value_view}
use Rattle.logic_eval.specs.Views.{place_view}
use Rattle.logic_eval.proofs.Paths.{step_items}
use Rattle.logic_eval.proofs.find.step_in_value.Goals as goal

pub returns-in_err-value_at-in-Items : goal.returns-in_err-value_at-in-Items
returns-in_err-value_at-in-Items c =
    ap (option_map place_view) c.from_residual-in_err-value_at-in-Items.ensures
    ∙ (c.in_err-value_at-in-Items.ensures ∙ (ap (λ us. option_and_then (slice_get (map value_view us)) (index_of c.args.name.now)) c.as_slice.ensures.value ∙ sym (ap (λ v. step (value_view v) c.args.name.now) c.in-Items.is ∙ step_items c.in-Items.values c.args.name.now)))

pub returns-in_ok-value_at-in-Items : goal.returns-in_ok-value_at-in-Items
returns-in_ok-value_at-in-Items c =
    c.in_ok-value_at-in-Items.ensures ∙ (ap (λ us. option_and_then (slice_get (map value_view us)) (index_of c.args.name.now)) c.as_slice.ensures.value ∙ sym (ap (λ v. step (value_view v) c.args.name.now) c.in-Items.is ∙ step_items c.in-Items.values c.args.name.now))
