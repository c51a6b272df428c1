-- A group that is not of the family before begins one.
use Rattle.std.proofs.Common.{◌≡◌, ◌≤◌, ◌+◌, ℕ, List, Bool, true, false, not, length, get_or, refl, sym, ap, ◌∙◌, subst, arith}
use Rattle.std.specs.Map.{keys_of}
use Rattle.std.proofs.lemmas.Bool.{false≢true}
use Rattle.std.proofs.lemmas.List.{length-map}
use Rattle.std.proofs.lemmas.Slice.Eq.{bytes_eq-Decides}
use Rattle.transport_core.specs.Groups.{GroupKey, row_view, rows_view}
use Rattle.transport_plan.proofs.Places.{HaveNames, name_at, names_more, are_families, keys-rows}
use Rattle.transport_plan.proofs.placing.families_of.Goals as goal
use Rattle.transport_plan.proofs.placing.families_of.Goals.{then-ne, else-ne}

is_true : (b : Bool) → false ≡ not b → b ≡ true
is_true true e = refl
is_true false e = absurd (false≢true e)

pub loop-place-preserved : goal.loop-place-preserved
loop-place-preserved c =
    let l = c.loop-place in
    let rows = c.args.groups.now in
    let keys : List GroupKey = keys_of (rows_view rows) in
    let first : ℕ = c.if-ne.first in
    let within : first ≤ l.place = elim c.if-ne.branch [
      | then-ne w ↦ omega (arith, w.first-is)
      | else-ne w ↦ omega (arith, w.first-is, l.invariant.first)
    ] in
    let here : (d : GroupKey) → (get_or keys first d).0 ≡ (get_or keys l.place d).0 = elim c.if-ne.branch [
      | then-ne w ↦ λ d. ap (λ k. (get_or keys k d).0) w.first-is
      | else-ne w ↦ λ d.
          ap (λ k. (get_or keys k d).0) w.first-is
          ∙ (name_at rows l.first d _ (omega (arith, l.invariant.first)) ∙ ((bytes_eq-Decides _ _).0 (is_true _ w.if-ne.ensures) ∙ sym (name_at rows l.place d _ (omega arith))))
    ] in
    record {
      many = omega (arith, c.in_ok-push.ensures.len, l.invariant.many);
      first = omega (arith, within);
      named = subst (λ xs. HaveNames keys xs (l.place + 1)) (sym c.in_ok-push.ensures.items) (names_more keys l.families.items l.place first l.invariant.named l.invariant.many here);
    }

pub returns-clause-families : goal.returns-clause-families
returns-clause-families c =
    are_families (keys_of (rows_view c.args.groups.now)) c.loop-place.families.items c.loop-place.place c.loop-place.invariant.named (omega (arith, ap length (keys-rows c.args.groups.now), length-map c.args.groups.now (λ r. (row_view r).0)))
