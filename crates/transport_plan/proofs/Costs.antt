-- What a flow costs, by number and by its arcs.
use Rattle.std.proofs.Common.{◌≡◌, ℕ, zero, suc, ◌+◌, ◌*◌, ◌<◌, ◌≤◌, ⊎_elim, pos, List, [], ◌∷◌, length, take, drop, get_or, sum_by, Option, Some, None, true, false, refl, sym, ap, ◌∙◌, arith}
use Rattle.std.proofs.Math.Nat.{mul-le-mul_left, add-mul}
use Rattle.std.proofs.lemmas.Bool.{cases_lt, false≢true}
use Rattle.std.proofs.lemmas.List.{get_or-take, length-take-le}
use Rattle.std.proofs.lemmas.List.Sums.{sum_by-cons}
use Rattle.std.proofs.lemmas.Map.Entries.{length-keys_of}
use Rattle.std.specs.Map.{keys_of}
use Rattle.std.specs.Prelude.{if◌then◌else◌, Bool}
use Rattle.price_core.specs.Pricing.{Pricing, is_forbidden, price_of}
use Rattle.min_cost_flow.specs.Problem.{names_of, group_at, is_allowed, switch_cost_at, sum_to}
use Rattle.min_cost_flow.specs.declared.problem.FlowProblem.{FlowProblem}
use Rattle.min_cost_flow.specs.Flow.{IsFlowAt, cell_at, groups_of}
use Rattle.min_cost_flow.proofs.Sums.{sum_same}
use Rattle.min_cost_flow.specs.declared.arc.Arc as arcs
use Rattle.transport_core.specs.Assignment.{Arc, arc_flows, flow_cost, flows_of, row_flows, spends_all}
use Rattle.transport_core.specs.Groups.{GroupKey}
use Rattle.transport_core.specs.Instance.{TransportProblem}
use Rattle.transport_core.proofs.Arcs.{spends, sum_step}
use Rattle.transport_plan.specs.Network.{switch_price}
use Rattle.transport_plan.specs.Numbered.{IsNumbered, name_at, row_at}
use Rattle.transport_plan.specs.Costs.{all_cost, unit_of}
use Rattle.transport_plan.proofs.ListedFlow.{later, sum_front}

-- a sum of products, where one factor is bounded
pub sum_scaled : (n m : ℕ) (f u : ℕ → ℕ) → ((i : ℕ) → i < n → u i ≤ m) → sum_to n (λ i. f i * u i) ≤ sum_to n f * m
sum_scaled zero m f u small = omega arith
sum_scaled (suc n) m f u small =
    let here : f n * u n ≤ f n * m = mul-le-mul_left (f n) (small n (omega arith)) in
    omega (arith, here, sum_scaled n m f u (λ i below. small i (omega (arith, below))), add-mul (sum_to n f) (f n) m)

-- what an arc's points pay
abbrev pub paid : Pricing → Arc × ℕ → ℕ
paid pricing f = f.1 * (f.0.0.1 * price_of pricing f.0.0.0 f.0.1)

row_paid : (pricing : Pricing) (g : GroupKey) (names : List (List ℕ)) (row : List ℕ) → length row ≡ length names → sum_by (paid pricing) (row_flows g names row) ≡ sum_to (length names) (λ v. get_or row v 0 * (g.1 * price_of pricing g.0 (get_or names v [])))
row_paid pricing g [] row wide = refl
row_paid pricing g (n ∷ names) [] wide = absurd (omega (arith, wide))
row_paid pricing g (n ∷ names) (k ∷ row) wide =
    omega (arith, sum_by-cons (paid pricing) ((g, n), k) (row_flows g names row), row_paid pricing g names row (omega (arith, wide)), sum_front (length names) (λ v. get_or (k ∷ row) v 0 * (g.1 * price_of pricing g.0 (get_or (n ∷ names) v []))))

all_paid : (pricing : Pricing) (gs : List (GroupKey × ℕ)) (d : GroupKey × ℕ) (names : List (List ℕ)) (numbers : List ℕ) → spends_all gs (length names) numbers ≡ true
    → sum_by (paid pricing) (arc_flows (keys_of gs) names numbers) ≡ sum_to (length gs) (λ g. sum_to (length names) (λ v. get_or numbers (g * length names + v) 0 * ((get_or gs g d).0.1 * price_of pricing (get_or gs g d).0.0 (get_or names v []))))
all_paid pricing [] d names numbers spent = refl
all_paid pricing (g ∷ gs) d names numbers spent =
    let k = length names in
    let parts = spends g gs k numbers spent in
    let step = sum_step (paid pricing) g gs names k numbers (take k numbers) (drop k numbers) refl refl refl in
    let here = row_paid pricing g.0 names (take k numbers) (length-take-le k numbers parts.long) in
    let first = sum_same k (λ v. get_or (take k numbers) v 0 * (g.0.1 * price_of pricing g.0.0 (get_or names v []))) (λ v. get_or numbers (0 * k + v) 0 * (g.0.1 * price_of pricing g.0.0 (get_or names v [])))
    (λ v v_in. ap (λ x. x * (g.0.1 * price_of pricing g.0.0 (get_or names v []))) (get_or-take k numbers v 0 v_in ∙ ap (λ i. get_or numbers i 0) (front k v))) in
    let rest = all_paid pricing gs d names (drop k numbers) parts.rest in
    let push = sum_same (length gs) (λ h. sum_to k (λ v. get_or (drop k numbers) (h * k + v) 0 * ((get_or gs h d).0.1 * price_of pricing (get_or gs h d).0.0 (get_or names v []))))
    (λ h. sum_to k (λ v. get_or numbers (suc h * k + v) 0 * ((get_or gs h d).0.1 * price_of pricing (get_or gs h d).0.0 (get_or names v []))))
    (λ h h_in. sum_same k (λ v. get_or (drop k numbers) (h * k + v) 0 * ((get_or gs h d).0.1 * price_of pricing (get_or gs h d).0.0 (get_or names v [])))
    (λ v. get_or numbers (suc h * k + v) 0 * ((get_or gs h d).0.1 * price_of pricing (get_or gs h d).0.0 (get_or names v [])))
    (λ v v_in. ap (λ x. x * ((get_or gs h d).0.1 * price_of pricing (get_or gs h d).0.0 (get_or names v []))) (later k h v numbers 0))) in
    omega (arith, step, here, first, rest, push, sum_front (length gs) (λ h. sum_to k (λ v. get_or numbers (h * k + v) 0 * ((get_or (g ∷ gs) h d).0.1 * price_of pricing (get_or (g ∷ gs) h d).0.0 (get_or names v [])))))
  where
    front : (k v : ℕ) → v ≡ 0 * k + v
    front k v = omega arith

unit_by : (forbidden : Bool) (count c : ℕ) → is_allowed (if forbidden then None else Some (pos c)) ≡ true → unit_of count (if forbidden then None else Some (pos c)) ≡ count * c
unit_by true count c is = absurd (false≢true is)
unit_by false count c is = refl

nothing_paid : (k a b : ℕ) → k ≡ 0 → k * a ≡ k * b
nothing_paid k a b none = ap (λ x. x * a) none ∙ (zeros a b ∙ ap (λ x. x * b) (sym none))
  where
    zeros : (a b : ℕ) → 0 * a ≡ 0 * b
    zeros a b = omega arith

-- the cost of a flow by number is that of its arcs
pub cost_listed : (p : TransportProblem) (q : FlowProblem) (placed totals : List ℕ) (cells : List (Option arcs.Arc)) → IsNumbered p q → IsFlowAt q placed totals cells → spends_all p.groups (length p.limits) placed ≡ true
    → flow_cost p.pricing (flows_of p placed) ≡ all_cost q.groups.items q.costs.items placed (names_of q) (groups_of q)
cost_listed p q placed totals cells are flow spent =
    let wide = length-keys_of p.limits in
    let listed = all_paid p.pricing p.groups (([], 0), 0) (keys_of p.limits) placed (ap (λ k. spends_all p.groups k placed) wide ∙ spent) in
    let by_cell : (g v : ℕ) → g < length p.groups → v < length p.limits → get_or placed (g * length p.limits + v) 0 * ((row_at p g).0.1 * price_of p.pricing (row_at p g).0.0 (name_at p v))
    ≡ cell_at placed (names_of q) g v * unit_of (group_at q.groups.items g).count (switch_cost_at q.costs.items (names_of q) (group_at q.groups.items g).variant v) =
    λ g v g_in v_in.
    let cell : get_or placed (g * length p.limits + v) 0 ≡ cell_at placed (names_of q) g v = ap (λ k. get_or placed (g * k + v) 0) (sym are.names) in
    let price = price_of p.pricing (row_at p g).0.0 (name_at p v) in
    let switch : switch_cost_at q.costs.items (names_of q) (group_at q.groups.items g).variant v ≡ switch_price p.pricing (row_at p g).0.0 (name_at p v) =
    are.costs (group_at q.groups.items g).variant v (are.variant_in g g_in) v_in ∙ ap (λ n. switch_price p.pricing n (name_at p v)) (are.variant g g_in) in
    ap (λ x. x * ((row_at p g).0.1 * price)) cell
    ∙ ⊎_elim
    (λ (some : 0 < cell_at placed (names_of q) g v).
    let may = flow.free g v (omega (arith, g_in, are.groups)) (omega (arith, v_in, are.names)) some in
    let unit : unit_of (group_at q.groups.items g).count (switch_cost_at q.costs.items (names_of q) (group_at q.groups.items g).variant v) ≡ (group_at q.groups.items g).count * price =
    ap (unit_of (group_at q.groups.items g).count) switch ∙ unit_by (is_forbidden p.pricing (row_at p g).0.0 (name_at p v)) (group_at q.groups.items g).count price (ap is_allowed (sym switch) ∙ may) in
    ap (λ u. cell_at placed (names_of q) g v * u) (ap (λ c. c * price) (sym (are.count g g_in)) ∙ sym unit))
    (λ (none : cell_at placed (names_of q) g v ≤ 0).
    nothing_paid (cell_at placed (names_of q) g v) ((row_at p g).0.1 * price) (unit_of (group_at q.groups.items g).count (switch_cost_at q.costs.items (names_of q) (group_at q.groups.items g).variant v)) (omega (arith, none)))
    (cases_lt 0 (cell_at placed (names_of q) g v)) in
    let by_width = ap (λ k. sum_to (length p.groups) (λ g. sum_to k (λ v. get_or placed (g * k + v) 0 * ((row_at p g).0.1 * price_of p.pricing (row_at p g).0.0 (name_at p v))))) wide in
    let by_rows = sum_same (length p.groups) (λ g. sum_to (length p.limits) (λ v. get_or placed (g * length p.limits + v) 0 * ((row_at p g).0.1 * price_of p.pricing (row_at p g).0.0 (name_at p v))))
    (λ g. sum_to (length p.limits) (λ v. cell_at placed (names_of q) g v * unit_of (group_at q.groups.items g).count (switch_cost_at q.costs.items (names_of q) (group_at q.groups.items g).variant v)))
    (λ g g_in. sum_same (length p.limits) (λ v. get_or placed (g * length p.limits + v) 0 * ((row_at p g).0.1 * price_of p.pricing (row_at p g).0.0 (name_at p v)))
    (λ v. cell_at placed (names_of q) g v * unit_of (group_at q.groups.items g).count (switch_cost_at q.costs.items (names_of q) (group_at q.groups.items g).variant v)) (λ v v_in. by_cell g v g_in v_in)) in
    listed
    ∙ (by_width
    ∙ (by_rows
    ∙ (ap (λ k. sum_to (length p.groups) (λ g. sum_to k (λ v. cell_at placed (names_of q) g v * unit_of (group_at q.groups.items g).count (switch_cost_at q.costs.items (names_of q) (group_at q.groups.items g).variant v)))) (sym are.names)
    ∙ ap (λ n. all_cost q.groups.items q.costs.items placed (names_of q) n) (sym are.groups))))
