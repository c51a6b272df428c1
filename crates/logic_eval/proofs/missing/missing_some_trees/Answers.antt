use Rattle.std.proofs.Common.{◌≡◌, pos, List, Ok, true, false, ap, sym, ◌∙◌, rules, map}
use Rattle.std.proofs.lemmas.Int.{to_z-of_z}
use mir.Syntax.{w64}
use mir.Val.{SFits}
use Rattle.std.specs.Prelude.{int_lt}
use Rattle.flag_text.specs.Shape.{Shape, list}
use Rattle.flag_text.specs.View.{view, items_of}
use Rattle.logic_eval.specs.Scope.{found_count}
use Rattle.logic_eval.specs.Views.{scope_view}
use Rattle.logic_values.specs.Views.{value_view}
use Rattle.logic_eval.proofs.Names.{fewer, enough}
use Rattle.logic_eval.proofs.missing.missing_some_trees.Goals as goal

pub returns-in_ok-missing_trees : goal.returns-in_ok-missing_trees
returns-in_ok-missing_trees c =
    let s = scope_view c.args.scope in
    let ts : List Shape = map view c.args.names.now in
    let fits : SFits w64 c.args.least = search rules in
    let told = simp to_z-of_z at c.is_fewer.ensures in
    let t : int_lt (pos (found_count s ts)) c.args.least ≡ true = ap (λ k. int_lt (pos k) c.args.least) (sym c.in_ok-found.ensures) ∙ (sym told ∙ c.if-is_fewer.true) in record {
      exact = fewer s c.args.least ts t ∙ ap Ok (ap (λ us. list (items_of us)) (sym c.in_ok-missing_trees.ensures));
    }

pub returns-else-is_fewer : goal.returns-else-is_fewer
returns-else-is_fewer c =
    let s = scope_view c.args.scope in
    let ts : List Shape = map view c.args.names.now in
    let fits : SFits w64 c.args.least = search rules in
    let told = simp to_z-of_z at c.is_fewer.ensures in
    let t : int_lt (pos (found_count s ts)) c.args.least ≡ false = ap (λ k. int_lt (pos k) c.args.least) (sym c.in_ok-found.ensures) ∙ (sym told ∙ c.if-is_fewer.false) in record {
      exact = enough s c.args.least ts t ∙ ap Ok (ap (λ us. list (items_of (map value_view us))) (sym c.new.ensures.items));
    }
