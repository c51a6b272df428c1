use Rattle.std.proofs.Common.{◌≡◌, suc, true, not, Option, Some, Ok, Box, Global, option_map, refl, ap, sym, subst, ◌∙◌}
use Rattle.flag_text.specs.Printing.{text_of}
use Rattle.flag_text.specs.Shape.{is_whole}
use Rattle.logic_ast.specs.Expr.{view}
use Rattle.logic_ast.specs.Formed.{is_list, is_formed, by_is_formed}
use Rattle.logic_ast.specs.Parts.{parts_view}
use Rattle.logic_ast.specs.View.{node_view, boxed_view, buckets_view}
use Rattle.logic_ast.specs.Writing.{written, by_text}
use Rattle.logic_ast.specs.declared.node.Node.{Node}
use Rattle.logic_ast.proofs.Inner.{not-none, by-formed, by_text_at-none, by_text_at-some}
use Rattle.logic_ast.proofs.Refusals.{by_text_at-absent, by_text_at-by}
use Rattle.logic_ast.proofs.WellFormed.{is_whole-written}
use Rattle.logic_ast.proofs.Written.{left, right}
use Rattle.logic_ast.proofs.lookup.by_text.Goals as goal

pub returns-in_default : goal.returns-in_default
returns-in_default c =
    let e = view c.args.expr.now in
    let formed = left (is_formed 0 e) _ c.args.expr.now.well_formed in
    record { exact = λ _. by_text_at-none c.args.n e formed (sym c.find.ensures ∙ ap (option_map parts_view) c.in_default.is); no_site = λ _. refl; no_by = λ none. by_text_at-absent c.args.n e formed (sym c.find.ensures ∙ ap (option_map parts_view) c.in_default.is) none }

pub print_tree-requires : goal.print_tree-requires
print_tree-requires c =
    let n = c.args.n in
    let e = view c.args.expr.now in
    let formed = left (is_formed 0 e) _ c.args.expr.now.well_formed in
    let inner = node_view c.in-Some-by.by.value in
    let all = by-formed n e (boxed_view c.in-Some.by.now) (buckets_view c.in-Some.field-0-1.now.items) formed (sym c.find.ensures ∙ ap (option_map parts_view) c.in-Some.is) in
    let own : by_is_formed (suc n) (boxed_view (Some c.in-Some-by.by)) ≡ true = subst (λ (b : Option (Box Node Global)). by_is_formed (suc n) (boxed_view b) ≡ true) c.in-Some-by.is all in
    ap is_whole (c.in_ok-tree-in-Some-by.ensures ∙ ap (λ x. written (node_view x)) c.deref.ensures) ∙ is_whole-written (suc n) inner (right (not (is_list inner)) _ own)

pub returns-in-None : goal.returns-in-None
returns-in-None c =
    let e = view c.args.expr.now in
    let formed = left (is_formed 0 e) _ c.args.expr.now.well_formed in
    record {
      exact = by_text_at-some c.args.n e (boxed_view c.in-Some.by.now) (buckets_view c.in-Some.field-0-1.now.items) formed (sym c.find.ensures ∙ ap (option_map parts_view) c.in-Some.is)
          ∙ ap (λ (b : Option (Box Node Global)). Ok (by_text (boxed_view b))) c.in-None.is;
      no_site = λ none. not-none c.args.n e (boxed_view c.in-Some.by.now) (buckets_view c.in-Some.field-0-1.now.items) formed (sym c.find.ensures ∙ ap (option_map parts_view) c.in-Some.is) none;
      no_by = λ _. refl;
    }

pub returns-in_ok-print_tree-in-Some-by : goal.returns-in_ok-print_tree-in-Some-by
returns-in_ok-print_tree-in-Some-by c =
    let e = view c.args.expr.now in
    let formed = left (is_formed 0 e) _ c.args.expr.now.well_formed in
    let text = c.in_ok-print_tree-in-Some-by.ensures.text ∙ ap text_of (c.in_ok-tree-in-Some-by.ensures ∙ ap (λ x. written (node_view x)) c.deref.ensures) in
    record {
      exact = by_text_at-some c.args.n e (boxed_view c.in-Some.by.now) (buckets_view c.in-Some.field-0-1.now.items) formed (sym c.find.ensures ∙ ap (option_map parts_view) c.in-Some.is)
          ∙ (ap (λ (b : Option (Box Node Global)). Ok (by_text (boxed_view b))) c.in-Some-by.is ∙ ap (λ s. Ok (Some s)) (sym text));
      no_site = λ none. not-none c.args.n e (boxed_view c.in-Some.by.now) (buckets_view c.in-Some.field-0-1.now.items) formed (sym c.find.ensures ∙ ap (option_map parts_view) c.in-Some.is) none;
      no_by = λ none. by_text_at-by c.args.n (view c.args.expr.now) (node_view c.in-Some-by.by.value) (buckets_view c.in-Some.field-0-1.now.items) (left (is_formed 0 (view c.args.expr.now)) _ c.args.expr.now.well_formed) (sym c.find.ensures ∙ (ap (option_map parts_view) c.in-Some.is ∙ ap (λ (b : Option (Box Node Global)). Some (boxed_view b, buckets_view c.in-Some.field-0-1.now.items)) c.in-Some-by.is)) none;
    }

pub returns-in_err-tree-in-Some-by-clause-no_site : goal.returns-in_err-tree-in-Some-by-clause-no_site
returns-in_err-tree-in-Some-by-clause-no_site c =
    let e = view c.args.expr.now in
    λ none. not-none c.args.n e (boxed_view c.in-Some.by.now) (buckets_view c.in-Some.field-0-1.now.items) (left (is_formed 0 e) _ c.args.expr.now.well_formed) (sym c.find.ensures ∙ ap (option_map parts_view) c.in-Some.is) none

pub returns-in_err-print_tree-in-Some-by-clause-no_site : goal.returns-in_err-print_tree-in-Some-by-clause-no_site
returns-in_err-print_tree-in-Some-by-clause-no_site c =
    let e = view c.args.expr.now in
    λ none. not-none c.args.n e (boxed_view c.in-Some.by.now) (buckets_view c.in-Some.field-0-1.now.items) (left (is_formed 0 e) _ c.args.expr.now.well_formed) (sym c.find.ensures ∙ ap (option_map parts_view) c.in-Some.is) none

pub returns-in_err-tree-in-Some-by-clause-no_by : goal.returns-in_err-tree-in-Some-by-clause-no_by
returns-in_err-tree-in-Some-by-clause-no_by c = λ none. by_text_at-by c.args.n (view c.args.expr.now) (node_view c.in-Some-by.by.value) (buckets_view c.in-Some.field-0-1.now.items) (left (is_formed 0 (view c.args.expr.now)) _ c.args.expr.now.well_formed) (sym c.find.ensures ∙ (ap (option_map parts_view) c.in-Some.is ∙ ap (λ (b : Option (Box Node Global)). Some (boxed_view b, buckets_view c.in-Some.field-0-1.now.items)) c.in-Some-by.is)) none

pub returns-in_err-print_tree-in-Some-by-clause-no_by : goal.returns-in_err-print_tree-in-Some-by-clause-no_by
returns-in_err-print_tree-in-Some-by-clause-no_by c = λ none. by_text_at-by c.args.n (view c.args.expr.now) (node_view c.in-Some-by.by.value) (buckets_view c.in-Some.field-0-1.now.items) (left (is_formed 0 (view c.args.expr.now)) _ c.args.expr.now.well_formed) (sym c.find.ensures ∙ (ap (option_map parts_view) c.in-Some.is ∙ ap (λ (b : Option (Box Node Global)). Some (boxed_view b, buckets_view c.in-Some.field-0-1.now.items)) c.in-Some-by.is)) none
