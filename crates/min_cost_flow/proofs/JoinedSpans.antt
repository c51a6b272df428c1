-- Each group joins the span of its old variant there, one group after the other.
use Rattle.std.proofs.Common.{◌≡◌, ℕ, ◌+◌, ◌*◌, ◌<◌, ◌≤◌, ⊎_elim, List, length, get_or, replicate, sym, ap, ◌∙◌, subst, arith}
use Rattle.std.proofs.lemmas.Bool.{cases_eq, cases_lt}
use Rattle.std.proofs.lemmas.List.{get_or-replicate, get_or_past, length-replicate}
use Rattle.min_cost_flow.specs.Problem.{group_at}
use Rattle.min_cost_flow.specs.Spans.{IsIn, Joins, no_span, span_at}
use Rattle.min_cost_flow.specs.declared.problem.Group.{Group}
use Rattle.min_cost_flow.specs.declared.span.Span.{Span}

-- the groups below `g` joined
pub record JoinedBelow (groups : List Group) (names g : ℕ) (spans : List Span) : Type 0 where
  pub size : length spans ≡ names * names
  pub end : (v a : ℕ) → v < names → a < names → (span_at spans names v a).end ≤ length groups
  pub home : (h : ℕ) → h < g → h < length groups → IsIn (span_at spans names (group_at groups h).variant (group_at groups h).variant) h

pub one_more : (groups : List Group) (names g : ℕ) (spans spans' : List Span) → g < length groups → ((h : ℕ) → h < length groups → (group_at groups h).variant < names) → JoinedBelow groups names g spans
    → Joins groups names g (group_at groups g).variant spans spans' → JoinedBelow groups names (g + 1) spans'
one_more groups names g spans spans' g_in variants before joins = record {
  size = joins.size ∙ before.size;
  end = λ v a v_in a_in. joins.end v a v_in a_in (before.end v a v_in a_in);
  home = λ h below h_in.
      ⊎_elim
      (λ (is : h ≡ g). subst (λ x. IsIn (span_at spans' names (group_at groups x).variant (group_at groups x).variant) x) (sym is) joins.joins)
      (λ (not : h ≡ g → ⊥). joins.keeps (group_at groups h).variant (group_at groups h).variant h (variants h h_in) (variants h h_in) (before.home h (omega (arith, below, not)) h_in))
      (cases_eq h g);
}

-- a table of one value has it everywhere, and past its end
pub get_or-filled : {A : Type 0} (n i : ℕ) (x : A) → get_or (replicate n x) i x ≡ x
get_or-filled n i x =
    ⊎_elim
    (λ (below : i < n). get_or-replicate n i x x below)
    (λ (past : n ≤ i). get_or_past (replicate n x) i x (omega (arith, past, length-replicate n x)))
    (cases_lt i n)

-- no group is in any span of a table of empty ones
pub none_yet : (n i : ℕ) (span : Span) → span.end ≡ 0 → (get_or (replicate n span) i no_span).end ≡ 0
none_yet n i span none =
    ⊎_elim
    (λ (below : i < n). ap (λ (s : Span). s.end) (get_or-replicate n i span no_span below) ∙ none)
    (λ (past : n ≤ i). ap (λ (s : Span). s.end) (get_or_past (replicate n span) i no_span (omega (arith, past, length-replicate n span))))
    (cases_lt i n)
