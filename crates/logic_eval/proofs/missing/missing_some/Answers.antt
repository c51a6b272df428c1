use Rattle.std.proofs.Common.{Some, map, ap, sym, ◌∙◌, rules}
use Rattle.std.proofs.lemmas.Int.{to_z-of_z}
use mir.Syntax.{w64}
use mir.Val.{SFits}
use Rattle.flag_text.specs.View.{view}
use Rattle.logic_values.specs.Lists.{items_in}
use Rattle.logic_eval.specs.Scope.{missing_unless}
use Rattle.logic_eval.specs.Views.{scope_view}
use Rattle.logic_values.specs.Views.{seen_view, value_view}
use Rattle.logic_eval.proofs.Exits.{gives_same}
use Rattle.logic_values.proofs.Items.{shapes_of_items}
use Rattle.logic_eval.proofs.missing.missing_some.Goals as goal

pub returns-in-Trees : goal.returns-in-Trees
returns-in-Trees c =
    let s = scope_view c.args.scope in
    let fits : SFits w64 c.in-Some.least = search rules in record {
      exact = gives_same _ _ _ _
          (ap (λ o. missing_unless s o (items_in (seen_view c.args.names))) (sym c.in-Some.ensures)
          ∙ ap (missing_unless s (Some c.in-Some.least)) (ap (λ w. items_in (seen_view w)) c.in-Trees.is ∙ shapes_of_items (map view c.in-Trees.names.now)))
          (simp to_z-of_z at c.missing_some_trees.ensures.exact);
    }

pub returns-in-Values : goal.returns-in-Values
returns-in-Values c =
    let s = scope_view c.args.scope in
    let fits : SFits w64 c.in-Some.least = search rules in record {
      exact = gives_same _ _ _ _
          (ap (λ o. missing_unless s o (items_in (seen_view c.args.names))) (sym c.in-Some.ensures)
          ∙ ap (missing_unless s (Some c.in-Some.least)) (ap (λ w. items_in (seen_view w)) c.in-Values.is ∙ shapes_of_items (map value_view c.in-Values.names.now)))
          (simp to_z-of_z at c.missing_some_values.ensures.exact);
    }
