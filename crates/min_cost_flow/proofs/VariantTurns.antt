-- A turn over the old variants at a name: the span of one is narrowed, and its first and its last group enter the arcs.
use Rattle.std.proofs.Common.{◌≡◌, ℕ, ◌+◌, ◌-◌, ◌*◌, ◌<◌, ◌≤◌, ⊎_elim, ℤ, List, length, get_or, set, Option, None, sym, ap, ◌∙◌, subst, arith}
use Rattle.std.proofs.lemmas.Bool.{cases_lt}
use Rattle.min_cost_flow.specs.Problem.{AreGroups, cost_at, group_at, may_take}
use Rattle.min_cost_flow.specs.Residual.{TakesMovesOfBothIn}
use Rattle.min_cost_flow.specs.Spans.{AreSpans, IsIn, Narrows, span_at}
use Rattle.min_cost_flow.specs.declared.problem.Group.{Group}
use Rattle.min_cost_flow.specs.declared.span.Span.{Span}
use Rattle.min_cost_flow.proofs.SpanEnds.{EndsBelow, enters, skips}
use Rattle.min_cost_flow.proofs.Spans.{narrow}
use Rattle.min_cost_flow.specs.declared.arc.Arc.{Arc}

-- the groups of old variants below `a` are done
abbrev pub RowBelow : List Group → List (Option ℤ) → List ℕ → ℕ → ℕ → ℕ → List (Option Arc) → Type 0
RowBelow groups costs placed names v a row =
    EndsBelow (length groups) names (λ g. (group_at groups g).variant) (λ g. (group_at groups g).count) (may_take groups costs names) (cost_at groups costs names) (λ g. get_or placed (g * names + v) 0) v a (λ w. get_or row w None)

-- what a turn does
pub record IsTurn (groups : List Group) (costs : List (Option ℤ)) (placed : List ℕ) (names v a : ℕ) (spans : List Span) (span : Span) (row row' : List (Option Arc)) : Type 0 where
  pub narrows : Narrows groups placed names v a (span_at spans names v a) span
  pub some : span.first < span.end → TakesMovesOfBothIn groups costs names span.first (span.end - 1) v row row'
  pub none : span.end ≤ span.first → row' ≡ row

module _ (groups : List Group) (costs : List (Option ℤ)) (placed : List ℕ) (names v a : ℕ) (spans : List Span) (span : Span) (row row' : List (Option Arc)) (v_in : v < names) (a_in : a < names)
    (are : AreGroups names costs groups) (old : AreSpans groups names placed spans) (turn : IsTurn groups costs placed names v a spans span row row') where
  -- the groups of an old variant stand by count
  rises : (g h : ℕ) → g ≤ h → h < length groups → (group_at groups g).variant ≡ (group_at groups h).variant → (group_at groups g).count ≤ (group_at groups h).count
  rises g h before h_in same =
      ⊎_elim (λ (less : g < h). are.rising g h less h_in same) (λ (last : h ≤ g). let is : g ≡ h = omega (arith, before, last) in omega (arith, ap (λ x. (group_at groups x).count) is)) (cases_lt g h)

  -- a group of the old variant with points at the name stays in the span
  stays : (g : ℕ) → g < length groups → (group_at groups g).variant ≡ a → 0 < get_or placed (g * names + v) 0 → IsIn span g
  stays g g_in is some = turn.narrows.keeps g (subst (λ x. IsIn (span_at spans names v x) g) is (old.has g v g_in v_in some)) (record { variant = is; points = some })

  pub row_after : RowBelow groups costs placed names v a row → RowBelow groups costs placed names v (a + 1) row'
  row_after before =
      ⊎_elim
      (λ (some : span.first < span.end).
      let f = turn.narrows.first some in
      let l = turn.narrows.last some in
      enters (length groups) names (λ g. (group_at groups g).variant) (λ g. (group_at groups g).count) (may_take groups costs names) (cost_at groups costs names) (λ g. get_or placed (g * names + v) 0) v a (λ w. get_or row w None) (λ w. get_or row' w None) before
      span.first (span.end - 1) (omega (arith, some, turn.narrows.end)) (omega (arith, some, turn.narrows.end)) f.variant l.variant f.points l.points
      (λ g g_in is here.
      let within = stays g g_in is here in
      (rises span.first g within.from g_in (f.variant ∙ sym is), rises g (span.end - 1) (omega (arith, within.before)) (omega (arith, some, turn.narrows.end)) (is ∙ sym l.variant)))
      (turn.some some))
      (λ (none : span.end ≤ span.first).
      subst (λ xs. RowBelow groups costs placed names v (a + 1) xs) (sym (turn.none none))
      (skips (length groups) names (λ g. (group_at groups g).variant) (λ g. (group_at groups g).count) (may_take groups costs names) (cost_at groups costs names) (λ g. get_or placed (g * names + v) 0) v a (λ w. get_or row w None) (λ w. get_or row w None) before
      (λ g g_in is here.
      let within = stays g g_in is here in
      absurd (omega (arith, none, within.from, within.before)))))
      (cases_lt span.first span.end)

  pub spans_after : AreSpans groups names placed (set spans (v * names + a) span)
  spans_after = narrow groups names v a spans span old.size v_in a_in placed old are.variant turn.narrows.end turn.narrows.keeps
