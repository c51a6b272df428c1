use Rattle.std.proofs.Common.{◌<◌, length, map, ap, sym, ◌∙◌, arith}
use Rattle.std.proofs.lemmas.Result.{IfOk-weaker}
use Rattle.flag_text.specs.Readers.{as_list}
use Rattle.flag_text.specs.View.{view}
use Rattle.logic_eval.specs.Views.{scope_view}
use Rattle.logic_values.specs.Views.{seen_view, value_view}
use Rattle.logic_eval.proofs.Names.{missing_list, missing_others, no_list}
use Rattle.logic_eval.proofs.missing.missing.Goals as goal

pub returns-in-Trees : goal.returns-in-Trees
returns-in-Trees c =
    let vs = c.args.values.now in
    let h : 0 < length vs = omega arith in
    IfOk-weaker c.missing_trees.result _ _ (λ v e. e ∙ sym (missing_list (scope_view c.args.scope) vs c.first-item.result (map view c.in-Trees.names.now) h c.first-item.is (sym c.seen.ensures ∙ ap seen_view c.in-Trees.is))) c.missing_trees.ensures

pub returns-in-Values : goal.returns-in-Values
returns-in-Values c =
    let vs = c.args.values.now in
    let h : 0 < length vs = omega arith in
    IfOk-weaker c.missing_values.result _ _ (λ v e. e ∙ sym (missing_list (scope_view c.args.scope) vs c.first-item.result (map value_view c.in-Values.names.now) h c.first-item.is (sym c.seen.ensures ∙ ap seen_view c.in-Values.is))) c.missing_values.ensures

pub returns-in_default : goal.returns-in_default
returns-in_default c =
    let vs = c.args.values.now in
    let h : 0 < length vs = omega arith in
    IfOk-weaker c.missing_values-in_default.result _ _ (λ v e. e ∙ sym (missing_others (scope_view c.args.scope) vs c.first-item.result h c.first-item.is (no_list _ c.in_default.not-Trees c.in_default.not-Values ∙ ap as_list c.seen.ensures))) c.missing_values-in_default.ensures
