use Rattle.std.proofs.Common.{ℕ, List, ◌+◌, ◌++◌, ◌∷◌, [], ap, sym, arith, ◌∙◌}
use Rattle.std.proofs.lemmas.List.{append_assoc, append-nil}
use Rattle.bucket_core.specs.Rule.{total_weight, ends_from}
use Rattle.bucket_core.proofs.Named.{ends_from-cons, ends_from-nil}
use Rattle.bucket_core.proofs.Points.{total_weight-cons}
use Rattle.bucket_core.proofs.weights.ends_of.Goals as goal

pub overflow_add-end : goal.overflow_add-end
overflow_add-end c =
    let l = c.loop-weight in
    omega (arith, total_weight-cons (c.in-Some.field-0-0.now, c.in-Some.weight) c.next.new.self, ap total_weight c.in-Some.ensures.steps, l.invariant.adds_up, c.requires)

pub loop-weight-preserved : goal.loop-weight-preserved
loop-weight-preserved c =
    let l = c.loop-weight in
    let e : List ℕ × ℕ = (c.in-Some.field-0-0.now, c.in-Some.weight) in
    let left = c.next.new.self in
    let after = ends_from (l.end + e.1) left in record {
      can = tt;
      ends_soon = tt;
      adds_up = omega (arith, total_weight-cons e left, ap total_weight c.in-Some.ensures.steps, l.invariant.adds_up);
      ends = rw c.in_ok-push.ensures.items (append_assoc l.ends.items ((l.end + e.1) ∷ []) after
          ∙ (ap (λ xs. l.ends.items ++ xs) (sym (ap (ends_from l.end) c.in-Some.ensures.steps ∙ ends_from-cons l.end e left)) ∙ l.invariant.ends));
    }

pub returns-clause-ends : goal.returns-clause-ends
returns-clause-ends c =
    let l = c.loop-weight in
    sym (append-nil l.ends.items) ∙ (ap (λ xs. l.ends.items ++ xs) (sym (ap (ends_from l.end) c.in-None.ensures.steps.0 ∙ ends_from-nil l.end)) ∙ l.invariant.ends)
