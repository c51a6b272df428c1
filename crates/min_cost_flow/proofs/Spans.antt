-- Spans that are narrowed, and those that groups join.
use Rattle.std.proofs.Common.{◌≡◌, ℕ, ◌+◌, ◌*◌, ◌<◌, ◌≤◌, ◌⊎◌, ⊎_elim, List, length, get_or, set, sym, ap, ◌∙◌, subst, arith}
use Rattle.std.proofs.lemmas.Bool.{cases_eq}
use Rattle.std.proofs.lemmas.List.{get_or-set_same, get_or-set_other, length-set}
use Rattle.std.proofs.lemmas.Nat.{same_from_place}
use Rattle.min_cost_flow.specs.Problem.{group_at}
use Rattle.min_cost_flow.specs.Spans.{AreSpans, IsIn, IsThere, Joins, no_span, span_at}
use Rattle.min_cost_flow.specs.declared.problem.Group.{Group}
use Rattle.min_cost_flow.specs.declared.span.Span.{Span}
use Rattle.min_cost_flow.proofs.Cells.{cell_in}

module _ (groups : List Group) (names v a : ℕ) (spans : List Span) (span : Span) (size : length spans ≡ names * names) (v_in : v < names) (a_in : a < names) where
  written : List Span
  written = set spans (v * names + a) span

  this : (w b : ℕ) → w * names + b ≡ v * names + a → span_at (set spans (v * names + a) span) names w b ≡ span
  this w b is = ap (λ i. get_or (set spans (v * names + a) span) i no_span) is ∙ get_or-set_same spans (v * names + a) span no_span (omega (arith, size, cell_in names names v a v_in a_in))

  other : (w b : ℕ) → (w * names + b ≡ v * names + a → ⊥) → span_at (set spans (v * names + a) span) names w b ≡ span_at spans names w b
  other w b not = get_or-set_other spans (v * names + a) (w * names + b) span no_span not

  end_after : span.end ≤ length groups → (w b : ℕ) → (span_at spans names w b).end ≤ length groups → (span_at (set spans (v * names + a) span) names w b).end ≤ length groups
  end_after few w b was =
      ⊎_elim
      (λ (is : w * names + b ≡ v * names + a). subst (λ (s : Span). s.end ≤ length groups) (sym (this w b is)) few)
      (λ (not : w * names + b ≡ v * names + a → ⊥). subst (λ (s : Span). s.end ≤ length groups) (sym (other w b not)) was)
      (cases_eq (w * names + b) (v * names + a))

  -- the span of one old variant at a name keeps all groups with points there
  pub narrow : (placed : List ℕ) → AreSpans groups names placed spans → ((g : ℕ) → g < length groups → (group_at groups g).variant < names) → span.end ≤ length groups
      → ((g : ℕ) → IsIn (span_at spans names v a) g → IsThere groups placed names v a g → IsIn span g) → AreSpans groups names placed (set spans (v * names + a) span)
  narrow placed are variants few keeps = record {
    size = length-set spans (v * names + a) span ∙ size;
    end = λ w b w_in b_in. end_after few w b (are.end w b w_in b_in);
    has = λ g w g_in w_in some.
        let b = (group_at groups g).variant in
        ⊎_elim
        (λ (is : w * names + b ≡ v * names + a).
        let same = same_from_place w b v a names (variants g g_in) a_in is in
        subst (λ s. IsIn s g) (sym (this w b is))
        (keeps g (subst (λ i. IsIn (get_or spans i no_span) g) is (are.has g w g_in w_in some)) (record { variant = same.1; points = subst (λ x. 0 < get_or placed (g * names + x) 0) same.0 some })))
        (λ (not : w * names + b ≡ v * names + a → ⊥). subst (λ s. IsIn s g) (sym (other w b not)) (are.has g w g_in w_in some))
        (cases_eq (w * names + b) (v * names + a));
  }

  -- it takes in one more group
  pub join : (g : ℕ) → (group_at groups g).variant ≡ a → span.end ≤ length groups ⊎ (length groups < (span_at spans names v a).end) → IsIn span g → ((h : ℕ) → IsIn (span_at spans names v a) h → IsIn span h) → Joins groups names g v spans (set spans (v * names + a) span)
  join g variant_is few has keeps = record {
    size = length-set spans (v * names + a) span;
    joins = subst (λ s. IsIn s g) (sym (this v (group_at groups g).variant (ap (λ x. v * names + x) variant_is))) has;
    keeps = λ w b h w_in b_in was.
        ⊎_elim
        (λ (is : w * names + b ≡ v * names + a). subst (λ s. IsIn s h) (sym (this w b is)) (keeps h (subst (λ i. IsIn (get_or spans i no_span) h) is was)))
        (λ (not : w * names + b ≡ v * names + a → ⊥). subst (λ s. IsIn s h) (sym (other w b not)) was)
        (cases_eq (w * names + b) (v * names + a));
    end = λ w b w_in b_in was.
        ⊎_elim
        (λ (is : w * names + b ≡ v * names + a).
        ⊎_elim
        (λ (small : span.end ≤ length groups). subst (λ (s : Span). s.end ≤ length groups) (sym (this w b is)) small)
        (λ (large : length groups < (span_at spans names v a).end). absurd (omega (arith, large, was, ap (λ i. (get_or spans i no_span).end) is)))
        few)
        (λ (not : w * names + b ≡ v * names + a → ⊥). subst (λ (s : Span). s.end ≤ length groups) (sym (other w b not)) was)
        (cases_eq (w * names + b) (v * names + a));
  }

-- points of a group came to the name, and elsewhere only left
pub came : (groups : List Group) (names : ℕ) (placed placed' : List ℕ) (spans spans' : List Span) (group v : ℕ) → AreSpans groups names placed spans → Joins groups names group v spans spans'
    → ((g : ℕ) → g < length groups → (group_at groups g).variant < names)
    → ((g w : ℕ) → g < length groups → w < names → 0 < get_or placed' (g * names + w) 0 → (0 < get_or placed (g * names + w) 0) ⊎ ((g ≡ group) × (w ≡ v))) → AreSpans groups names placed' spans'
came groups names placed placed' spans spans' group v are joins variants from = record {
  size = joins.size ∙ are.size;
  end = λ w a w_in a_in. joins.end w a w_in a_in (are.end w a w_in a_in);
  has = λ g w g_in w_in some.
      ⊎_elim
      (λ (was : 0 < get_or placed (g * names + w) 0). joins.keeps w (group_at groups g).variant g w_in (variants g g_in) (are.has g w g_in w_in was))
      (λ (new : (g ≡ group) × (w ≡ v)).
      subst (λ h. IsIn (span_at spans' names w (group_at groups h).variant) h) (sym new.0) (subst (λ x. IsIn (span_at spans' names x (group_at groups group).variant) group) (sym new.1) joins.joins))
      (from g w g_in w_in some);
}
