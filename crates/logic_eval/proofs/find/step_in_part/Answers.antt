use Rattle.std.proofs.Common.{map, option_map, option_and_then, ap, sym, ◌∙◌}
use Rattle.std.specs.Prelude.{slice_get}
use Rattle.flag_text.specs.View.{view, members_view}
use Rattle.flag_text.proofs.Halving.{names_rise-tidy, is_tidy-find_member}
use Rattle.logic_eval.specs.Scope.{step, index_of}
use Rattle.logic_eval.proofs.Parts.{held, at_some_index, object_tidy, list_tidy}
use Rattle.logic_eval.proofs.Paths.{step_list}
use Rattle.logic_eval.proofs.find.step_in_part.Goals as goal

pub member_by_halving-requires : goal.member_by_halving-requires
member_by_halving-requires c = record {
  rising = names_rise-tidy (members_view c.as_slice.result.now) (object_tidy c.args.part c.in-Object.members c.as_slice.result.now c.in-Object.is c.as_slice.ensures.value);
}

pub invariant_of-result : goal.invariant_of-result
invariant_of-result c =
    let ms = members_view c.as_slice.result.now in record {
      tidy = held _ (view c.in_ok-tree-in-Object.tree.now) c.in_ok-tree-in-Object.ensures.found
          (is_tidy-find_member c.args.name.now ms (object_tidy c.args.part c.in-Object.members c.as_slice.result.now c.in-Object.is c.as_slice.ensures.value));
    }

pub returns-in_err-tree-in-List : goal.returns-in_err-tree-in-List
returns-in_err-tree-in-List c =
    ap (option_map (λ p. view p.tree.now)) c.from_residual-in_err-tree-in-List.ensures
    ∙ (c.in_err-tree-in-List.ensures ∙ (ap (λ us. option_and_then (slice_get (map view us)) (index_of c.args.name.now)) c.as_slice-in-List.ensures.value ∙ sym (ap (λ t. step (view t) c.args.name.now) c.in-List.is ∙ step_list c.in-List.items c.args.name.now)))

pub invariant_of-result-in-List : goal.invariant_of-result-in-List
invariant_of-result-in-List c =
    let us = c.as_slice-in-List.result.now in record {
      tidy = held _ (view c.in_ok-tree-in-List.tree.now) c.in_ok-tree-in-List.ensures
          (at_some_index (map view us) (index_of c.args.name.now) (list_tidy c.args.part c.in-List.items us c.in-List.is c.as_slice-in-List.ensures.value));
    }

pub returns-in_ok-tree-in-List : goal.returns-in_ok-tree-in-List
returns-in_ok-tree-in-List c =
    c.in_ok-tree-in-List.ensures ∙ (ap (λ us. option_and_then (slice_get (map view us)) (index_of c.args.name.now)) c.as_slice-in-List.ensures.value ∙ sym (ap (λ t. step (view t) c.args.name.now) c.in-List.is ∙ step_list c.in-List.items c.args.name.now))
