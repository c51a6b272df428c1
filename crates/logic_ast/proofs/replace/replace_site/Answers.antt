use Rattle.std.proofs.Common.{◌≡◌, ◌+◌, Ok, option_map, ap, sym, ◌∙◌, arith}
use Rattle.logic_ast.specs.Expr.{view}
use Rattle.logic_ast.specs.Formed.{is_formed, is_well_formed}
use Rattle.logic_ast.specs.Parts.{parts_view}
use Rattle.logic_ast.specs.Sites.{preorder, entries_of, entries_at, with_entries}
use Rattle.logic_ast.specs.View.{boxed_view, buckets_view}
use Rattle.logic_ast.specs.Writing.{by_text_at}
use Rattle.logic_ast.proofs.Changed.{entries_at-changed, by_text_at-changed, entries_at-kept}
use Rattle.logic_ast.proofs.Inner.{not-none, at-some, replaced-none, replaced-some}
use Rattle.logic_ast.proofs.Numbered.{numbered-preorder, literal-at}
use Rattle.logic_ast.proofs.Refusals.{replaced-absent, replaced-literal}
use Rattle.logic_ast.proofs.Replaced.{small-total, is_formed-with, is_well_formed-with, with_entries-again, if_entries-some, if_entries-none}
use Rattle.logic_ast.proofs.Written.{left}
use Rattle.logic_ast.proofs.replace.replace_site.Goals as goal

pub returns-in_default-clause-exact : goal.returns-in_default-clause-exact
returns-in_default-clause-exact c =
    let e = view c.args.expr.now in
    λ _. replaced-none c.args.n c.args.rule.now e (left (is_formed 0 e) _ c.args.expr.now.well_formed) (sym c.find.ensures ∙ ap (option_map parts_view) c.in_default.is)

pub returns-then-not-are_all_literal-clause-exact : goal.returns-then-not-are_all_literal-clause-exact
returns-then-not-are_all_literal-clause-exact c =
    let e = view c.args.expr.now in
    let bs = buckets_view c.in-Some.buckets.now.items in
    λ _. replaced-some c.args.n c.args.rule.now e (boxed_view c.in-Some.field-0-0.now) bs (left (is_formed 0 e) _ c.args.expr.now.well_formed) (sym c.find.ensures ∙ ap (option_map parts_view) c.in-Some.is)
    ∙ if_entries-none (entries_of bs) (with_entries c.args.n c.args.rule.now e) (sym c.are_all_literal.ensures ∙ c.if-not-are_all_literal.true)

pub with_entries-requires : goal.with_entries-requires
with_entries-requires c = omega (arith, c.total.ensures.value, c.total.ensures.allowed)

pub of-requires : goal.of-requires
of-requires c =
    let n = c.args.n in
    let e = view c.args.expr.now in
    let bs = buckets_view c.in-Some.buckets.now.items in
    let formed = left (is_formed 0 e) _ c.args.expr.now.well_formed in
    let at = at-some n e (boxed_view c.in-Some.field-0-0.now) bs formed (sym c.find.ensures ∙ ap (option_map parts_view) c.in-Some.is) in
    let place : n ≡ 0 + n = omega arith in
    let literal = literal-at 0 n n (preorder e) _ (numbered-preorder 0 e formed) place at.1 (sym c.are_all_literal.ensures ∙ c.if-not-are_all_literal.false) in
    let small = small-total c.args.rule.now (omega (arith, c.total.ensures.value, c.total.ensures.allowed)) in
    ap is_well_formed c.in_ok-root.ensures ∙ is_well_formed-with n c.args.rule.now e small literal c.args.expr.now.well_formed

pub returns-clause-exact : goal.returns-clause-exact
returns-clause-exact c =
    let n = c.args.n in
    let e = view c.args.expr.now in
    let bs = buckets_view c.in-Some.buckets.now.items in
    replaced-some n c.args.rule.now e (boxed_view c.in-Some.field-0-0.now) bs (left (is_formed 0 e) _ c.args.expr.now.well_formed) (sym c.find.ensures ∙ ap (option_map parts_view) c.in-Some.is)
    ∙ (if_entries-some (entries_of bs) (with_entries n c.args.rule.now e) (sym c.are_all_literal.ensures ∙ c.if-not-are_all_literal.false)
    ∙ ap Ok (sym (c.in_ok-of.ensures ∙ c.in_ok-root.ensures)))

pub returns-clause-rest : goal.returns-clause-rest
returns-clause-rest c =
    let n = c.args.n in
    let e = view c.args.expr.now in
    λ q. ap (with_entries n q) (c.in_ok-of.ensures ∙ c.in_ok-root.ensures) ∙ with_entries-again n q c.args.rule.now e

pub returns-then-not-are_all_literal-clause-no_site : goal.returns-then-not-are_all_literal-clause-no_site
returns-then-not-are_all_literal-clause-no_site c =
    let e = view c.args.expr.now in
    λ none. not-none c.args.n e (boxed_view c.in-Some.field-0-0.now) (buckets_view c.in-Some.buckets.now.items) (left (is_formed 0 e) _ c.args.expr.now.well_formed) (sym c.find.ensures ∙ ap (option_map parts_view) c.in-Some.is) none

pub returns-in_err-root-clause-no_site : goal.returns-in_err-root-clause-no_site
returns-in_err-root-clause-no_site c =
    let e = view c.args.expr.now in
    λ none. not-none c.args.n e (boxed_view c.in-Some.field-0-0.now) (buckets_view c.in-Some.buckets.now.items) (left (is_formed 0 e) _ c.args.expr.now.well_formed) (sym c.find.ensures ∙ ap (option_map parts_view) c.in-Some.is) none

pub returns-in_err-of-clause-no_site : goal.returns-in_err-of-clause-no_site
returns-in_err-of-clause-no_site c =
    let e = view c.args.expr.now in
    λ none. not-none c.args.n e (boxed_view c.in-Some.field-0-0.now) (buckets_view c.in-Some.buckets.now.items) (left (is_formed 0 e) _ c.args.expr.now.well_formed) (sym c.find.ensures ∙ ap (option_map parts_view) c.in-Some.is) none

pub returns-clause-no_site : goal.returns-clause-no_site
returns-clause-no_site c =
    let e = view c.args.expr.now in
    λ none. not-none c.args.n e (boxed_view c.in-Some.field-0-0.now) (buckets_view c.in-Some.buckets.now.items) (left (is_formed 0 e) _ c.args.expr.now.well_formed) (sym c.find.ensures ∙ ap (option_map parts_view) c.in-Some.is) none

pub returns-clause-entries : goal.returns-clause-entries
returns-clause-entries c =
    let n = c.args.n in
    let r = c.args.rule.now in
    let e = view c.args.expr.now in
    let formed = left (is_formed 0 e) _ c.args.expr.now.well_formed in
    let at = at-some n e (boxed_view c.in-Some.field-0-0.now) (buckets_view c.in-Some.buckets.now.items) formed (sym c.find.ensures ∙ ap (option_map parts_view) c.in-Some.is) in
    let made = c.in_ok-of.ensures ∙ c.in_ok-root.ensures in
    let place : n ≡ 0 + n = omega arith in
    let literal = literal-at 0 n n (preorder e) _ (numbered-preorder 0 e formed) place at.1 (sym c.are_all_literal.ensures ∙ c.if-not-are_all_literal.false) in
    let small = small-total r (omega (arith, c.total.ensures.value, c.total.ensures.allowed)) in
    ap (entries_at n) made ∙ entries_at-changed n r e _ formed (is_formed-with 0 n r e small literal formed) at.1

pub returns-clause-bucketing : goal.returns-clause-bucketing
returns-clause-bucketing c =
    let n = c.args.n in
    let r = c.args.rule.now in
    let e = view c.args.expr.now in
    let formed = left (is_formed 0 e) _ c.args.expr.now.well_formed in
    let at = at-some n e (boxed_view c.in-Some.field-0-0.now) (buckets_view c.in-Some.buckets.now.items) formed (sym c.find.ensures ∙ ap (option_map parts_view) c.in-Some.is) in
    let made = c.in_ok-of.ensures ∙ c.in_ok-root.ensures in
    let place : n ≡ 0 + n = omega arith in
    let literal = literal-at 0 n n (preorder e) _ (numbered-preorder 0 e formed) place at.1 (sym c.are_all_literal.ensures ∙ c.if-not-are_all_literal.false) in
    let small = small-total r (omega (arith, c.total.ensures.value, c.total.ensures.allowed)) in
    ap (by_text_at n) made ∙ by_text_at-changed n r e formed (is_formed-with 0 n r e small literal formed)

pub returns-clause-others : goal.returns-clause-others
returns-clause-others c =
    let n = c.args.n in
    let r = c.args.rule.now in
    let e = view c.args.expr.now in
    let formed = left (is_formed 0 e) _ c.args.expr.now.well_formed in
    let at = at-some n e (boxed_view c.in-Some.field-0-0.now) (buckets_view c.in-Some.buckets.now.items) formed (sym c.find.ensures ∙ ap (option_map parts_view) c.in-Some.is) in
    let made = c.in_ok-of.ensures ∙ c.in_ok-root.ensures in
    let place : n ≡ 0 + n = omega arith in
    let literal = literal-at 0 n n (preorder e) _ (numbered-preorder 0 e formed) place at.1 (sym c.are_all_literal.ensures ∙ c.if-not-are_all_literal.false) in
    let small = small-total r (omega (arith, c.total.ensures.value, c.total.ensures.allowed)) in
    λ m other. ap (entries_at m) made ∙ entries_at-kept m n r e other formed (is_formed-with 0 n r e small literal formed) literal

pub returns-in_default-clause-computed : goal.returns-in_default-clause-computed
returns-in_default-clause-computed c =
    let e = view c.args.expr.now in
    λ refused. replaced-absent c.args.n c.args.rule.now e (left (is_formed 0 e) _ c.args.expr.now.well_formed) (sym c.find.ensures ∙ ap (option_map parts_view) c.in_default.is) refused

pub returns-in_err-root-clause-computed : goal.returns-in_err-root-clause-computed
returns-in_err-root-clause-computed c = λ refused. replaced-literal c.args.n c.args.rule.now (view c.args.expr.now) (boxed_view c.in-Some.field-0-0.now) (buckets_view c.in-Some.buckets.now.items) (left (is_formed 0 (view c.args.expr.now)) _ c.args.expr.now.well_formed) (sym c.find.ensures ∙ ap (option_map parts_view) c.in-Some.is) (sym c.are_all_literal.ensures ∙ c.if-not-are_all_literal.false) refused

pub returns-in_err-of-clause-computed : goal.returns-in_err-of-clause-computed
returns-in_err-of-clause-computed c = λ refused. replaced-literal c.args.n c.args.rule.now (view c.args.expr.now) (boxed_view c.in-Some.field-0-0.now) (buckets_view c.in-Some.buckets.now.items) (left (is_formed 0 (view c.args.expr.now)) _ c.args.expr.now.well_formed) (sym c.find.ensures ∙ ap (option_map parts_view) c.in-Some.is) (sym c.are_all_literal.ensures ∙ c.if-not-are_all_literal.false) refused

pub returns-clause-computed : goal.returns-clause-computed
returns-clause-computed c = λ refused. replaced-literal c.args.n c.args.rule.now (view c.args.expr.now) (boxed_view c.in-Some.field-0-0.now) (buckets_view c.in-Some.buckets.now.items) (left (is_formed 0 (view c.args.expr.now)) _ c.args.expr.now.well_formed) (sym c.find.ensures ∙ ap (option_map parts_view) c.in-Some.is) (sym c.are_all_literal.ensures ∙ c.if-not-are_all_literal.false) refused
