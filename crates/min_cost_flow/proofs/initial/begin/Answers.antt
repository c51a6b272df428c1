-- Groups at their old variants are a flow, and an optimal one.
use Rattle.std.proofs.Common.{◌≡◌, ◌<◌, ◌≤◌, ℕ, length, get_or, ◌∙◌, subst}
use Rattle.min_cost_flow.specs.Problem.{group_at, names_of, sum_to}
use Rattle.min_cost_flow.specs.Spans.{IsIn, span_at}
use Rattle.min_cost_flow.specs.Flow.{cell_at, groups_of}
use Rattle.min_cost_flow.specs.Initial.{at_home}
use Rattle.min_cost_flow.proofs.InitialFlow.{stays_flow, stays_may, stays_optimal, stays_spans}
use Rattle.min_cost_flow.proofs.initial.begin.Goals as goal

pub begin_arcs-requires-clause-points : goal.begin_arcs-requires-clause-points
begin_arcs-requires-clause-points c =
    let p = c.args.problem.now in
    let homes : (g v : ℕ) → g < groups_of p → v < names_of p → cell_at c.stay.new.placed (names_of p) g v ≡ at_home p.groups.items g v =
    subst (λ n. (g v : ℕ) → g < groups_of p → v < n → cell_at c.stay.new.placed n g v ≡ at_home p.groups.items g v) c.requires.blank.points.totals
    (subst (λ x. (g v : ℕ) → g < length x → v < length c.args.totals.now → cell_at c.stay.new.placed (length c.args.totals.now) g v ≡ at_home x g v) c.deref.ensures.value c.stay.ensures.placed) in
    record {
      placed = c.stay.auto.placed ∙ c.requires.blank.points.placed;
      totals = c.stay.auto.totals ∙ c.requires.blank.points.totals;
      free = λ v v_in g g_in some. stays_may p c.requires.problem c.stay.new.placed c.stay.new.totals homes g v g_in v_in some;
    }

pub begin_arcs-requires-clause-spans : goal.begin_arcs-requires-clause-spans
begin_arcs-requires-clause-spans c =
    let p = c.args.problem.now in
    let homes : (g v : ℕ) → g < groups_of p → v < names_of p → cell_at c.stay.new.placed (names_of p) g v ≡ at_home p.groups.items g v =
    subst (λ n. (g v : ℕ) → g < groups_of p → v < n → cell_at c.stay.new.placed n g v ≡ at_home p.groups.items g v) c.requires.blank.points.totals
    (subst (λ x. (g v : ℕ) → g < length x → v < length c.args.totals.now → cell_at c.stay.new.placed (length c.args.totals.now) g v ≡ at_home x g v) c.deref.ensures.value c.stay.ensures.placed) in
    let k_is : c.len.result ≡ names_of p = c.len.ensures ∙ p.high.ok.0 in
    let spans = c.begin_spans.new.spans in
    let joined = c.begin_spans.ensures in
    stays_spans p c.requires.problem c.stay.new.placed c.stay.new.totals homes spans (c.begin_spans.auto.spans ∙ c.requires.blank.spans.size)
    (subst (λ n. (v a : ℕ) → v < n → a < n → (span_at spans n v a).end ≤ groups_of p) k_is (subst (λ x. (v a : ℕ) → v < c.len.result → a < c.len.result → (span_at spans c.len.result v a).end ≤ length x) c.deref-2.ensures.value joined.end))
    (subst (λ n. (g : ℕ) → g < groups_of p → IsIn (span_at spans n (group_at p.groups.items g).variant (group_at p.groups.items g).variant) g) k_is
    (subst (λ x. (g : ℕ) → g < length x → IsIn (span_at spans c.len.result (group_at x g).variant (group_at x g).variant) g) c.deref-2.ensures.value joined.home))

pub returns-clause-optimal : goal.returns-clause-optimal
returns-clause-optimal c =
    let p = c.args.problem.now in
    let homes : (g v : ℕ) → g < groups_of p → v < names_of p → cell_at c.stay.new.placed (names_of p) g v ≡ at_home p.groups.items g v =
    subst (λ n. (g v : ℕ) → g < groups_of p → v < n → cell_at c.stay.new.placed n g v ≡ at_home p.groups.items g v) c.requires.blank.points.totals
    (subst (λ x. (g v : ℕ) → g < length x → v < length c.args.totals.now → cell_at c.stay.new.placed (length c.args.totals.now) g v ≡ at_home x g v) c.deref.ensures.value c.stay.ensures.placed) in
    stays_optimal p c.requires.problem c.stay.new.placed c.stay.new.totals homes

pub returns-clause-flow : goal.returns-clause-flow
returns-clause-flow c =
    let p = c.args.problem.now in
    let homes : (g v : ℕ) → g < groups_of p → v < names_of p → cell_at c.stay.new.placed (names_of p) g v ≡ at_home p.groups.items g v =
    subst (λ n. (g v : ℕ) → g < groups_of p → v < n → cell_at c.stay.new.placed n g v ≡ at_home p.groups.items g v) c.requires.blank.points.totals
    (subst (λ x. (g v : ℕ) → g < length x → v < length c.args.totals.now → cell_at c.stay.new.placed (length c.args.totals.now) g v ≡ at_home x g v) c.deref.ensures.value c.stay.ensures.placed) in
    let sums : (v : ℕ) → v < names_of p → get_or c.stay.new.totals v 0 ≡ sum_to (groups_of p) (λ g. at_home p.groups.items g v) =
    subst (λ n. (v : ℕ) → v < n → get_or c.stay.new.totals v 0 ≡ sum_to (groups_of p) (λ g. at_home p.groups.items g v)) c.requires.blank.points.totals
    (subst (λ x. (v : ℕ) → v < length c.args.totals.now → get_or c.stay.new.totals v 0 ≡ sum_to (length x) (λ g. at_home x g v)) c.deref.ensures.value c.stay.ensures.totals) in
    record {
      tables = stays_flow p c.requires.problem c.stay.new.placed c.stay.new.totals homes c.begin_arcs.new.arcs (c.stay.auto.placed ∙ c.requires.blank.points.placed) (c.stay.auto.totals ∙ c.requires.blank.points.totals) (c.begin_arcs.auto.arcs ∙ c.requires.blank.arcs.size) sums
          c.begin_arcs.ensures.arcs;
      spans = c.begin_arcs.ensures.spans;
    }
