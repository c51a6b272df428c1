use Rattle.std.proofs.Common.{◌≡◌, ◌+◌, suc, Option, Some, Ok, Box, Global, option_map, refl, ap, sym, ◌∙◌, arith, add-one}
use Rattle.std.proofs.lemmas.Result.{err_from_is_err_and}
use Rattle.bucket_core.specs.Rule.{Entries, entries_view}
use Rattle.logic_ast.specs.Expr.{view}
use Rattle.logic_ast.specs.Expression.{By, by}
use Rattle.logic_ast.specs.Formed.{is_formed, is_well_formed}
use Rattle.logic_ast.specs.Parts.{parts_view}
use Rattle.logic_ast.specs.Sites.{entries_of, lowered, by_lowered}
use Rattle.logic_ast.specs.View.{by_of, node_view, boxed_view, buckets_view}
use Rattle.logic_ast.specs.declared.expr.Expr.{Expr}
use Rattle.logic_ast.specs.declared.node.Node.{Node}
use Rattle.logic_ast.proofs.Inner.{not-none, parts_at-none, parts_at-some, if_entries-err, if_entries-ok, next-fits, own}
use Rattle.logic_ast.proofs.Refusals.{computed-none, parts_at-absent, parts_at-literal}
use Rattle.logic_ast.proofs.Written.{left}
use Rattle.logic_ast.proofs.lookup.site.Goals as goal
use Rattle.logic_ast.proofs.lookup.site.Goals.{in-None, in-Some-by+in_ok-root-in-Some-by+in_ok-of-in-Some-by}

pub returns-in_default : goal.returns-in_default
returns-in_default c =
    let e = view c.args.expr.now in
    record { exact = λ _. parts_at-none c.args.n e (left (is_formed 0 e) _ c.args.expr.now.well_formed) (sym c.find.ensures ∙ ap (option_map parts_view) c.in_default.is); no_site = λ _. refl; computed = λ refused. parts_at-absent c.args.n e (left (is_formed 0 e) _ c.args.expr.now.well_formed) (sym c.find.ensures ∙ ap (option_map parts_view) c.in_default.is) refused }

pub returns-in_err-entries : goal.returns-in_err-entries
returns-in_err-entries c =
    let n = c.args.n in
    let e = view c.args.expr.now in
    let b = boxed_view c.in-Some.by.now in
    let bs = buckets_view c.in-Some.buckets.now.items in
    let p = err_from_is_err_and c.from_residual.result c.from_residual.ensures.1 in
    record {
      exact = rw (p.1, p.2) (λ other.
          parts_at-some n e b bs (left (is_formed 0 e) _ c.args.expr.now.well_formed) (sym c.find.ensures ∙ ap (option_map parts_view) c.in-Some.is)
          ∙ if_entries-err (entries_of bs) (λ r. r) (λ r. let made : By × Entries = (by_lowered (suc n) b, r) in made) _ (c.in_err-entries.ensures other));
      no_site = λ none. not-none n e b bs (left (is_formed 0 e) _ c.args.expr.now.well_formed) (sym c.find.ensures ∙ ap (option_map parts_view) c.in-Some.is) none;
      computed = λ refused. parts_at-literal c.args.n (view c.args.expr.now) (boxed_view c.in-Some.by.now) (buckets_view c.in-Some.buckets.now.items) (left (is_formed 0 (view c.args.expr.now)) _ c.args.expr.now.well_formed) (sym c.find.ensures ∙ ap (option_map parts_view) c.in-Some.is) (sym c.are_all_literal.ensures ∙ c.if-not-are_all_literal.false) refused;
    }

pub overflow_add-n : goal.overflow_add-n
overflow_add-n c =
    let e = view c.args.expr.now in
    omega (arith, next-fits c.args.n e (boxed_view c.in-Some.by.now) (buckets_view c.in-Some.buckets.now.items) c.args.expr.now.well_formed (sym c.find.ensures ∙ ap (option_map parts_view) c.in-Some.is))

pub of-requires : goal.of-requires
of-requires c =
    let n = c.args.n in
    let e = view c.args.expr.now in
    let bs = buckets_view c.in-Some.buckets.now.items in
    let inner = node_view c.in-Some-by.by.value in
    let is = sym c.find.ensures ∙ (ap (option_map parts_view) c.in-Some.is ∙ ap (λ (b : Option (Box Node Global)). Some (boxed_view b, bs)) c.in-Some-by.is) in
    ap is_well_formed (c.in_ok-root-in-Some-by.ensures ∙ (ap (λ x. lowered (n + 1) (node_view x)) c.deref.ensures ∙ ap (λ k. lowered k inner) (add-one n))) ∙ own n e inner bs c.args.expr.now.well_formed is

pub returns : goal.returns
returns c =
    let n = c.args.n in
    let e = view c.args.expr.now in
    let b = boxed_view c.in-Some.by.now in
    let bs = buckets_view c.in-Some.buckets.now.items in
    let entries = entries_view c.in_ok-entries.entries.items in
    let parts = parts_at-some n e b bs (left (is_formed 0 e) _ c.args.expr.now.well_formed) (sym c.find.ensures ∙ ap (option_map parts_view) c.in-Some.is)
    ∙ if_entries-ok (entries_of bs) (λ r. let made : By × Entries = (by_lowered (suc n) b, r) in made) entries c.in_ok-entries.ensures in
    let done = λ (same : by_lowered (suc n) b ≡ by_of (option_map view c.match-by.by)). parts ∙ ap (λ (x : By). Ok (x, entries)) same in
    elim c.match-by.branch [
      | in-None w ↦ record {
        exact = done (ap (λ (x : Option (Box Node Global)). by_lowered (suc n) (boxed_view x)) w.in-None.is ∙ sym (ap (λ (o : Option Expr). by_of (option_map view o)) w.by-is));
        no_site = λ none. not-none n e b bs (left (is_formed 0 e) _ c.args.expr.now.well_formed) (sym c.find.ensures ∙ ap (option_map parts_view) c.in-Some.is) none;
        computed = λ refused. parts_at-literal c.args.n (view c.args.expr.now) (boxed_view c.in-Some.by.now) (buckets_view c.in-Some.buckets.now.items) (left (is_formed 0 (view c.args.expr.now)) _ c.args.expr.now.well_formed) (sym c.find.ensures ∙ ap (option_map parts_view) c.in-Some.is) (sym c.are_all_literal.ensures ∙ c.if-not-are_all_literal.false) refused;
      }
      | in-Some-by+in_ok-root-in-Some-by+in_ok-of-in-Some-by w ↦ record {
        exact = done
            (ap (λ (x : Option (Box Node Global)). by_lowered (suc n) (boxed_view x)) w.in-Some-by.is
            ∙ (ap by (sym (w.in_ok-of-in-Some-by.ensures ∙ w.in_ok-root-in-Some-by.ensures ∙ (ap (λ x. lowered (n + 1) (node_view x)) w.deref.ensures ∙ ap (λ k. lowered k (node_view w.in-Some-by.by.value)) (add-one n))))
            ∙ sym (ap (λ (o : Option Expr). by_of (option_map view o)) w.by-is)));
        no_site = λ none. not-none n e b bs (left (is_formed 0 e) _ c.args.expr.now.well_formed) (sym c.find.ensures ∙ ap (option_map parts_view) c.in-Some.is) none;
        computed = λ refused. parts_at-literal c.args.n (view c.args.expr.now) (boxed_view c.in-Some.by.now) (buckets_view c.in-Some.buckets.now.items) (left (is_formed 0 (view c.args.expr.now)) _ c.args.expr.now.well_formed) (sym c.find.ensures ∙ ap (option_map parts_view) c.in-Some.is) (sym c.are_all_literal.ensures ∙ c.if-not-are_all_literal.false) refused;
      }
    ]

pub returns-in_err-root-in-Some-by-clause-no_site : goal.returns-in_err-root-in-Some-by-clause-no_site
returns-in_err-root-in-Some-by-clause-no_site c =
    let e = view c.args.expr.now in
    λ none. not-none c.args.n e (boxed_view c.in-Some.by.now) (buckets_view c.in-Some.buckets.now.items) (left (is_formed 0 e) _ c.args.expr.now.well_formed) (sym c.find.ensures ∙ ap (option_map parts_view) c.in-Some.is) none

pub returns-in_err-of-in-Some-by-clause-no_site : goal.returns-in_err-of-in-Some-by-clause-no_site
returns-in_err-of-in-Some-by-clause-no_site c =
    let e = view c.args.expr.now in
    λ none. not-none c.args.n e (boxed_view c.in-Some.by.now) (buckets_view c.in-Some.buckets.now.items) (left (is_formed 0 e) _ c.args.expr.now.well_formed) (sym c.find.ensures ∙ ap (option_map parts_view) c.in-Some.is) none

pub returns-in_err-root-in-Some-by-clause-computed : goal.returns-in_err-root-in-Some-by-clause-computed
returns-in_err-root-in-Some-by-clause-computed c = λ refused. parts_at-literal c.args.n (view c.args.expr.now) (boxed_view c.in-Some.by.now) (buckets_view c.in-Some.buckets.now.items) (left (is_formed 0 (view c.args.expr.now)) _ c.args.expr.now.well_formed) (sym c.find.ensures ∙ ap (option_map parts_view) c.in-Some.is) (sym c.are_all_literal.ensures ∙ c.if-not-are_all_literal.false) refused

pub returns-in_err-of-in-Some-by-clause-computed : goal.returns-in_err-of-in-Some-by-clause-computed
returns-in_err-of-in-Some-by-clause-computed c = λ refused. parts_at-literal c.args.n (view c.args.expr.now) (boxed_view c.in-Some.by.now) (buckets_view c.in-Some.buckets.now.items) (left (is_formed 0 (view c.args.expr.now)) _ c.args.expr.now.well_formed) (sym c.find.ensures ∙ ap (option_map parts_view) c.in-Some.is) (sym c.are_all_literal.ensures ∙ c.if-not-are_all_literal.false) refused

pub returns-then-not-are_all_literal-clause-exact : goal.returns-then-not-are_all_literal-clause-exact
returns-then-not-are_all_literal-clause-exact c =
    let n = c.args.n in
    let e = view c.args.expr.now in
    let b = boxed_view c.in-Some.by.now in
    let bs = buckets_view c.in-Some.buckets.now.items in
    λ _. parts_at-some n e b bs (left (is_formed 0 e) _ c.args.expr.now.well_formed) (sym c.find.ensures ∙ ap (option_map parts_view) c.in-Some.is)
    ∙ computed-none (entries_of bs) (λ r. let made : By × Entries = (by_lowered (suc n) b, r) in made) (sym c.are_all_literal.ensures ∙ c.if-not-are_all_literal.true)

pub returns-then-not-are_all_literal-clause-no_site : goal.returns-then-not-are_all_literal-clause-no_site
returns-then-not-are_all_literal-clause-no_site c =
    let e = view c.args.expr.now in
    λ none. not-none c.args.n e (boxed_view c.in-Some.by.now) (buckets_view c.in-Some.buckets.now.items) (left (is_formed 0 e) _ c.args.expr.now.well_formed) (sym c.find.ensures ∙ ap (option_map parts_view) c.in-Some.is) none
