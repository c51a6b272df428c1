use Rattle.std.proofs.Common.{◌≡◌, map, Ok, ap, sym, ◌∙◌}
use Rattle.logic_eval.specs.Budget.{paid}
use Rattle.logic_eval.specs.Run.{spends}
use Rattle.logic_eval.specs.Scope.{size, variable}
use Rattle.logic_eval.specs.Views.{progress, place_view, scope_view, source_view}
use Rattle.logic_values.specs.Views.{value_view}
use Rattle.logic_eval.proofs.Branches.{found_ok, found_err}
use Rattle.logic_eval.proofs.Exits.{exits}
use Rattle.logic_eval.proofs.variable.found.Goals as goal

pub returns-in_err-pay_for_scope-in-Whole : goal.returns-in_err-pay_for_scope-in-Whole
returns-in_err-pay_for_scope-in-Whole c =
    let p = progress c.args.meter.now in
    let s = scope_view c.args.scope in
    let is : s ≡ variable s (map value_view c.args.values.items) = ap (source_view s) (sym c.in-Whole.is) ∙ c.in_ok-source.ensures in record {
      exact = exits _ _ _ _ c.from_residual-in_err-pay_for_scope-in-Whole.ensures.1
          (λ n. found_err p _ _ (ap (λ v. paid p (spends (size v))) (sym is) ∙ c.in_err-pay_for_scope-in-Whole.ensures.exact n));
    }

pub returns-in_ok-whole-in-Whole : goal.returns-in_ok-whole-in-Whole
returns-in_ok-whole-in-Whole c =
    let p = progress c.args.meter.now in
    let q = progress c.pay_for_scope.new.meter in
    let s = scope_view c.args.scope in
    let is : s ≡ variable s (map value_view c.args.values.items) = ap (source_view s) (sym c.in-Whole.is) ∙ c.in_ok-source.ensures in record {
      exact = found_ok p q _ _ (ap (λ v. paid p (spends (size v))) (sym is) ∙ c.in_ok-pay_for_scope-in-Whole.ensures.exact) ∙ ap (λ v. Ok (v, q)) (sym (c.in_ok-whole-in-Whole.ensures ∙ is));
    }

pub returns-in_err-pay_for_place-in-Part : goal.returns-in_err-pay_for_place-in-Part
returns-in_err-pay_for_place-in-Part c =
    let p = progress c.args.meter.now in
    let s = scope_view c.args.scope in
    let is : place_view c.in-Part.place ≡ variable s (map value_view c.args.values.items) = ap (source_view s) (sym c.in-Part.is) ∙ c.in_ok-source.ensures in record {
      exact = exits _ _ _ _ c.from_residual-in_err-pay_for_place-in-Part.ensures.1
          (λ n. found_err p _ _ (ap (λ v. paid p (spends (size v))) (sym is) ∙ c.in_err-pay_for_place-in-Part.ensures.exact n));
    }

pub returns-in_ok-value-in-Part : goal.returns-in_ok-value-in-Part
returns-in_ok-value-in-Part c =
    let p = progress c.args.meter.now in
    let q = progress c.pay_for_place.new.meter in
    let s = scope_view c.args.scope in
    let is : place_view c.in-Part.place ≡ variable s (map value_view c.args.values.items) = ap (source_view s) (sym c.in-Part.is) ∙ c.in_ok-source.ensures in record {
      exact = found_ok p q _ _ (ap (λ v. paid p (spends (size v))) (sym is) ∙ c.in_ok-pay_for_place-in-Part.ensures.exact) ∙ ap (λ v. Ok (v, q)) (sym (c.in_ok-value-in-Part.ensures ∙ is));
    }

pub returns-in_err-pay_for_value-in-Default : goal.returns-in_err-pay_for_value-in-Default
returns-in_err-pay_for_value-in-Default c =
    let p = progress c.args.meter.now in
    let s = scope_view c.args.scope in
    let is : value_view c.in-Default.value ≡ variable s (map value_view c.args.values.items) = ap (source_view s) (sym c.in-Default.is) ∙ c.in_ok-source.ensures in record {
      exact = exits _ _ _ _ c.from_residual-in_err-pay_for_value-in-Default.ensures.1
          (λ n. found_err p _ _ (ap (λ v. paid p (spends (size v))) (sym is) ∙ c.in_err-pay_for_value-in-Default.ensures.exact n));
    }

pub returns-in_ok-pay_for_value-in-Default : goal.returns-in_ok-pay_for_value-in-Default
returns-in_ok-pay_for_value-in-Default c =
    let p = progress c.args.meter.now in
    let q = progress c.pay_for_value.new.meter in
    let s = scope_view c.args.scope in
    let is : value_view c.in-Default.value ≡ variable s (map value_view c.args.values.items) = ap (source_view s) (sym c.in-Default.is) ∙ c.in_ok-source.ensures in record {
      exact = found_ok p q _ _ (ap (λ v. paid p (spends (size v))) (sym is) ∙ c.in_ok-pay_for_value-in-Default.ensures.exact) ∙ ap (λ v. Ok (v, q)) (sym is);
    }
