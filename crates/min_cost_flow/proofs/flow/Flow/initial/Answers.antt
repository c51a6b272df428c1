-- New tables are blank.
use Rattle.std.proofs.Common.{◌+◌, ◌*◌, ◌∙◌, None, ap, get_or, refl, rules}
use Rattle.min_cost_flow.specs.Spans.{no_span}
use Rattle.min_cost_flow.proofs.JoinedSpans.{get_or-filled, none_yet}
use Rattle.min_cost_flow.proofs.flow.Flow.initial.Goals as goal

pub begin-requires-clause-blank : goal.begin-requires-clause-blank
begin-requires-clause-blank c = record {
  points = record {
    placed = search rules;
    totals = search rules;
    none_placed = λ i. ap (λ xs. get_or xs i 0) (c.deref_mut.ensures.value ∙ c.in_ok-placed.ensures.items_if_clones_equal (λ y same. same)) ∙ get_or-filled _ i 0;
    no_totals = λ v. ap (λ xs. get_or xs v 0) (c.deref_mut-2.ensures.value ∙ c.in_ok-totals.ensures.items_if_clones_equal (λ y same. same)) ∙ get_or-filled _ v 0;
  };
  arcs = record { size = search rules; none = λ i. ap (λ xs. get_or xs i None) (c.deref_mut-3.ensures.value ∙ c.in_ok-arcs.ensures.items_if_clones_equal (search rules)) ∙ get_or-filled _ i None };
  spans = record { size = search rules; none = λ i. ap (λ xs. (get_or xs i no_span).end) (c.deref_mut-4.ensures.value ∙ c.in_ok-spans.ensures.items_if_clones_equal (λ y same. same)) ∙ none_yet _ i _ refl };
}
