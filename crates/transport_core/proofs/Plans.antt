-- What an assignment says of the rules that have it, and a placement of cuts.
use Rattle.std.proofs.Common.{◌≡◌, ◌==◌, ◌&&◌, ◌||◌, ⊎_elim, ℕ, zero, suc, ◌+◌, ◌*◌, ◌<◌, ◌≤◌, ℤ, pos, List, [], ◌∷◌, length, take, drop, Bool, true, false, not, cond, Option, Some, None, unwrap_or, find, sum_by, count_by, Bor, refl, sym, ap, ◌∙◌, subst, zero-add, arith}
use Rattle.std.specs.List.{All, range_with_len, slice_get, list_all, list_any, sum}
use Rattle.std.specs.Map.{keys_of, lookup}
use Rattle.std.specs.Prelude.{nat_le}
use Rattle.std.specs.Str.{bytes_eq}
use Rattle.std.proofs.lemmas.Bool.{cases_Bool, and_parts, and_from, or_cases, or_left, or_right, cond-true, cond-false, eqb-true, leb-true, not-true, false≢true}
use Rattle.std.proofs.lemmas.Int.{ints}
use Rattle.std.proofs.lemmas.List.{length-take-le}
use Rattle.std.proofs.lemmas.List.Elements.{All-head, All-tail}
use Rattle.std.proofs.lemmas.List.Folds.{list_all-append}
use Rattle.std.proofs.lemmas.Map.Entries.{length-keys_of}
use Rattle.std.proofs.lemmas.List.Sums.{sum_by-cons, sum_by-append}
use Rattle.std.proofs.lemmas.Slice.Eq.{bytes_eq-Decides}
use Rattle.bucket_core.specs.Rule.{Entries, total_weight, points, at, total_of}
use Rattle.price_core.specs.Cost.{cost_of}
use Rattle.price_core.specs.Limits.{Limits, AreLimits, low_of, high_of}
use Rattle.price_core.specs.Pricing.{Pricing, price_of, is_forbidden}
use Rattle.transport_core.specs.Assignment.{Arc, is_same_arc, row_flows, arc_flows, flows_of, arc_at, HasAssignment, spends_all, is_free_of, inflow, flow_cost, has_slack, IsPlaced, IsProved}
use Rattle.transport_core.specs.Certificate.{DualPrices, IsCertified}
use Rattle.transport_core.specs.Deficient.{may_become, is_among, IsOver}
use Rattle.transport_core.specs.Dual.{inputs_at}
use Rattle.transport_core.specs.Fits.{Fits, IsLeast}
use Rattle.transport_core.specs.Groups.{GroupKey, is_same_group, group_cmp, group_at, group_by, AreGroups, AreSizes, AreSizesBy, row_view, rows_view}
use Rattle.transport_core.specs.Instance.{TransportProblem}
use Rattle.transport_core.specs.Refusals.{is_broken, pairs_of}
use Rattle.transport_core.specs.Rows.{whole_amount}
use Rattle.transport_core.proofs.Arcs.{spends, sum_step}
use Rattle.transport_core.proofs.Assigned.{weigh, weighed, row_there}
use Rattle.transport_core.proofs.Certified.{certified, dual_sum-is, least_from}
use Rattle.transport_core.proofs.Cuts.{reached}
use Rattle.transport_core.proofs.Duality.{cost-by_points, price_at}
use Rattle.transport_core.proofs.DualSums.{place_in_range, groups_are}
use Rattle.transport_core.proofs.Joined.{lookup-amount}
use Rattle.transport_core.proofs.Members.{place_below}
use Rattle.transport_core.proofs.NameTotals.{times, bytes_eq-sym}
use Rattle.transport_core.proofs.Pairs.{row_fails}
use Rattle.transport_core.proofs.Placed.{same_group, is_same_itself, group_order}
use Rattle.transport_core.proofs.Points.{length-points, counted}
use Rattle.transport_core.proofs.Ranges.{count-all}
use Rattle.transport_core.proofs.Sums.{sum_z-pos}

-- ---- sums over points

sum-range : {X : Type 0} (f : ℕ → ℕ) (g : X → ℕ) (a : ℕ) (xs : List X) → ((k : ℕ) (x : X) → slice_get xs k ≡ Some x → f (a + k) ≡ g x) → sum_by f (range_with_len a (length xs)) ≡ sum_by g xs
sum-range f g a [] same = refl
sum-range f g a (x ∷ xs) same =
    let here : f a ≡ g x = ap f (omega arith) ∙ same 0 x refl in
    let rest = sum-range f g (a + 1) xs (λ k y is. ap f (omega arith) ∙ same (suc k) y is) in
    omega (arith, here, rest, sum_by-cons f a (range_with_len (a + 1) (length xs)), sum_by-cons g x xs)

-- of a rule, by the name at each point
sum-points : (r : Entries) (n : ℕ) (g : List ℕ → ℕ) → total_weight r ≡ n → sum_by (λ p. g (unwrap_or (at r p) [])) (range_with_len 0 n) ≡ sum_by g (points r)
sum-points r n g many =
    ap (λ m. sum_by (λ p. g (unwrap_or (at r p) [])) (range_with_len 0 m)) (sym (length-points r ∙ many))
    ∙ sum-range (λ p. g (unwrap_or (at r p) [])) g 0 (points r) (λ k x is. ap (λ m. g (unwrap_or (at r m) [])) (zero-add k) ∙ ap (λ o. g (unwrap_or o [])) is)

-- ---- groups

module _ (old : Entries) (load : ℕ → ℕ) (groups : List (GroupKey × ℕ)) (sizes : AreSizesBy old load groups) where
  weigh_groups : (f : GroupKey → ℕ) → sum_by (λ p. f (group_by old load p)) (range_with_len 0 (total_weight old)) ≡ weigh f groups
  weigh_groups f = weighed is_same_group same_group is_same_itself (group_by old load) f (range_with_len 0 (total_weight old)) groups
      (λ g. sym (sizes.sizes g) ∙ lookup-amount is_same_group same_group group_cmp group_order g groups sizes.rise)

  one_each : (gs : List (GroupKey × ℕ)) → weigh (λ (g : GroupKey). 1) gs ≡ whole_amount gs
  one_each [] = refl
  one_each (g ∷ gs) = omega (arith, sum_by-cons (λ (r : GroupKey × ℕ). r.1 * 1) g gs, sum_by-cons (λ (r : GroupKey × ℕ). r.1) g gs, one_each gs)

  -- the groups hold all points
  pub whole-sizes : whole_amount groups ≡ total_weight old
  whole-sizes = sym (one_each groups) ∙ (sym (weigh_groups (λ g. 1)) ∙ count-all 0 (total_weight old))

module _ (old : Entries) (inputs : List (List ℕ)) (groups : List (GroupKey × ℕ)) (sizes : AreSizes old inputs groups) where
  by_groups : (f : GroupKey → ℕ) → sum_by (λ p. f (group_at old inputs p)) (range_with_len 0 (total_weight old)) ≡ weigh f groups
  by_groups f = weigh_groups old (inputs_at (total_weight old) inputs) groups sizes f

  pub whole-groups : whole_amount groups ≡ total_weight old
  whole-groups = whole-sizes old (inputs_at (total_weight old) inputs) groups sizes

  passing : (test : List ℕ → Bool) (gs : List (GroupKey × ℕ)) → weigh (λ (g : GroupKey). cond (test g.0) 1 0) gs ≡ sum_by (λ g. cond (test g.0.0) g.1 0) gs
  passing test [] = refl
  passing test (g ∷ gs) = omega (arith, sum_by-cons (λ (r : GroupKey × ℕ). r.1 * cond (test r.0.0) 1 0) g gs, sum_by-cons (λ (r : GroupKey × ℕ). cond (test r.0.0) r.1 0) g gs, times (test g.0.0) g.1, passing test gs)

  -- the points whose name passes a test are those of the groups whose name does
  pub groups-test : (test : List ℕ → Bool) → sum_by (λ g. cond (test g.0.0) g.1 0) groups ≡ count_by test (points old)
  groups-test test = sym (passing test groups) ∙ (sym (by_groups (λ g. cond (test g.0) 1 0)) ∙ sum-points old (total_weight old) (λ n. cond (test n) 1 0) refl)

-- ---- arcs

same_arc : (a b : Arc) → is_same_arc a b ≡ true → a ≡ b
same_arc a b h =
    let parts = and_parts (is_same_group a.0 b.0) (bytes_eq a.1 b.1) h in
    ap (λ (g : GroupKey). (g, a.1)) (same_group a.0 b.0 parts.0) ∙ ap (λ (n : List ℕ). (b.0, n)) ((bytes_eq-Decides a.1 b.1).0 parts.1)

arc_itself : (a : Arc) → is_same_arc a a ≡ true
arc_itself a = and_from (is_same_group a.0 a.0) (bytes_eq a.1 a.1) (is_same_itself a.0) ((bytes_eq-Decides a.1 a.1).1 refl)

passes_at : {X : Type 0} (test : X → Bool) (xs : List X) (i : ℕ) (x : X) → list_all test xs ≡ true → slice_get xs i ≡ Some x → test x ≡ true
passes_at test [] i x all is = cc
passes_at test (y ∷ ys) zero x all is = let here : y ≡ x = cc in ap test (sym here) ∙ (and_parts (test y) (list_all test ys) all).0
passes_at test (y ∷ ys) (suc i) x all is = passes_at test ys i x (and_parts (test y) (list_all test ys) all).1 is

weigh-inflow : (flows : List (Arc × ℕ)) (name : List ℕ) → weigh (λ (a : Arc). cond (bytes_eq a.1 name) 1 0) flows ≡ inflow flows name
weigh-inflow [] name = refl
weigh-inflow (f ∷ fs) name =
    let turned : cond (bytes_eq f.0.1 name) f.1 0 ≡ cond (bytes_eq name f.0.1) f.1 0 = ap (λ (b : Bool). let k : ℕ = cond b f.1 0 in k) (bytes_eq-sym f.0.1 name) in
    omega (arith, sum_by-cons (λ (r : Arc × ℕ). r.1 * cond (bytes_eq r.0.1 name) 1 0) f fs, sum_by-cons (λ (r : Arc × ℕ). cond (bytes_eq name r.0.1) r.1 0) f fs, times (bytes_eq f.0.1 name) f.1, turned, weigh-inflow fs name)

module _ (old new : Entries) (inputs : List (List ℕ)) (flows : List (Arc × ℕ)) (has : HasAssignment old new inputs flows) where
  by_arcs : (f : Arc → ℕ) → sum_by (λ p. f (arc_at old new inputs p)) (range_with_len 0 (total_weight old)) ≡ weigh f flows
  by_arcs f = weighed is_same_arc same_arc arc_itself (arc_at old new inputs) f (range_with_len 0 (total_weight old)) flows has.points

  -- a name's total is what flows to it
  pub total-inflow : (name : List ℕ) → total_of new name ≡ inflow flows name
  total-inflow name = sym (sum-points new (total_weight old) (λ n. cond (bytes_eq n name) 1 0) has.weight) ∙ (by_arcs (λ a. cond (bytes_eq a.1 name) 1 0) ∙ weigh-inflow flows name)

  -- what the inputs pay is what the arcs cost
  pub cost-flow : (pricing : Pricing) → 0 < total_weight old → cost_of old new inputs pricing ≡ flow_cost pricing flows
  cost-flow pricing some =
      let by_points = cost-by_points old new inputs pricing some has.weight in
      let summed = sum_z-pos (λ p. inputs_at (total_weight old) inputs p * price_at old new pricing p) (range_with_len 0 (total_weight old)) in
      let arcs : sum_by (λ p. inputs_at (total_weight old) inputs p * price_at old new pricing p) (range_with_len 0 (total_weight old)) ≡ flow_cost pricing flows = by_arcs (λ a. a.0.1 * price_of pricing a.0.0 a.1) in
      let all : pos (cost_of old new inputs pricing) ≡ pos (flow_cost pricing flows) = by_points ∙ (summed ∙ ap (λ n. pos n) arcs) in
      omega (arith, ints, all)

  pub allowed_by : (pricing : Pricing) → is_free_of pricing flows ≡ true → (p : ℕ) (from to : List ℕ) → at old p ≡ Some from → at new p ≡ Some to → is_forbidden pricing from to ≡ false
  allowed_by pricing free p from to was is =
      let below : p < total_weight old = omega (arith, place_below (points old) p from was, length-points old) in
      let s = place_in_range 0 (total_weight old) p (omega arith) (omega arith) in
      let a = arc_at old new inputs p in
      let some = counted (λ q. is_same_arc a (arc_at old new inputs q)) (range_with_len 0 (total_weight old)) s.0 p s.1 (arc_itself a) in
      let row = row_there is_same_arc same_arc arc_itself flows a (omega (arith, some, has.points a)) in
      let r = row.1 in
      let test = passes_at (λ (f : Arc × ℕ). (f.1 == 0) || not (is_forbidden pricing f.0.0.0 f.0.1)) flows row.0 r free row.2 in
      let from_is : r.0.0.0 ≡ from = ap (λ (b : Arc). b.0.0) row.3 ∙ ap (λ o. unwrap_or o []) was in
      let to_is : r.0.1 ≡ to = ap (λ (b : Arc). b.1) row.3 ∙ ap (λ o. unwrap_or o []) is in
      ⊎_elim
      (λ (none : (r.1 == 0) ≡ true). absurd (omega (arith, eqb-true r.1 0 none, row.4)))
      (λ (h : not (is_forbidden pricing r.0.0.0 r.0.1) ≡ true). ap (is_forbidden pricing from) (sym to_is) ∙ (ap (λ n. is_forbidden pricing n r.0.1) (sym from_is) ∙ not-true (is_forbidden pricing r.0.0.0 r.0.1) h))
      (or_cases (r.1 == 0) (not (is_forbidden pricing r.0.0.0 r.0.1)) test)

pub same_problem : (p : TransportProblem) (groups : List (GroupKey × ℕ)) (limits : Limits) (pricing : Pricing) → groups ≡ p.groups → limits ≡ p.limits → pricing ≡ p.pricing → record { groups = groups; limits = limits; pricing = pricing } ≡ p
same_problem p groups limits pricing groups_are limits_are pricing_is =
    ap (λ (gs : List (GroupKey × ℕ)). let q : TransportProblem = record { groups = gs; limits = limits; pricing = pricing } in q) groups_are
    ∙ (ap (λ (ls : Limits). let q : TransportProblem = record { groups = p.groups; limits = ls; pricing = pricing } in q) limits_are
    ∙ ap (λ (pr : Pricing). let q : TransportProblem = record { groups = p.groups; limits = p.limits; pricing = pr } in q) pricing_is)

-- ---- limits

lows_from : (limits : Limits) (bound : List ℕ → ℕ) (name : List ℕ) → list_all (λ l. nat_le l.1.0 (bound l.0)) limits ≡ true → low_of limits name ≤ bound name
lows_from [] bound name all = omega arith
lows_from (l ∷ ls) bound name all =
    let parts = and_parts (nat_le l.1.0 (bound l.0)) (list_all (λ (x : List ℕ × (ℕ × ℕ)). nat_le x.1.0 (bound x.0)) ls) all in
    let found : Option (ℕ × ℕ) = lookup (bytes_eq name) ls in
    ⊎_elim
    (λ (ties : bytes_eq name l.0 ≡ true).
    omega (arith, ap (λ (o : Option (ℕ × ℕ)). (unwrap_or o (0, 0)).0) (cond-true (bytes_eq name l.0) (Some l.1) found ties), leb-true l.1.0 (bound l.0) parts.0, ap bound ((bytes_eq-Decides name l.0).0 ties)))
    (λ (apart : bytes_eq name l.0 ≡ false).
    omega (arith, ap (λ (o : Option (ℕ × ℕ)). (unwrap_or o (0, 0)).0) (cond-false (bytes_eq name l.0) (Some l.1) found apart), lows_from ls bound name parts.1))
    (cases_Bool (bytes_eq name l.0))

highs_listed : (limits : Limits) (bound : List ℕ → ℕ) (name : List ℕ) → list_all (λ l. nat_le (bound l.0) l.1.1) limits ≡ true → list_any (bytes_eq name) (keys_of limits) ≡ true → bound name ≤ high_of limits name
highs_listed [] bound name all some = cc
highs_listed (l ∷ ls) bound name all some =
    let parts = and_parts (nat_le (bound l.0) l.1.1) (list_all (λ (x : List ℕ × (ℕ × ℕ)). nat_le (bound x.0) x.1.1) ls) all in
    let found : Option (ℕ × ℕ) = lookup (bytes_eq name) ls in
    ⊎_elim
    (λ (ties : bytes_eq name l.0 ≡ true).
    omega (arith, ap (λ (o : Option (ℕ × ℕ)). (unwrap_or o (0, 0)).1) (cond-true (bytes_eq name l.0) (Some l.1) found ties), leb-true (bound l.0) l.1.1 parts.0, ap bound ((bytes_eq-Decides name l.0).0 ties)))
    (λ (apart : bytes_eq name l.0 ≡ false).
    let later : list_any (bytes_eq name) (keys_of ls) ≡ true = ap (λ b. b || list_any (bytes_eq name) (keys_of ls)) (sym apart) ∙ some in
    omega (arith, ap (λ (o : Option (ℕ × ℕ)). (unwrap_or o (0, 0)).1) (cond-false (bytes_eq name l.0) (Some l.1) found apart), highs_listed ls bound name parts.1 later))
    (cases_Bool (bytes_eq name l.0))

row-unlisted : (g : GroupKey) (names : List (List ℕ)) (numbers : List ℕ) (name : List ℕ) → list_any (bytes_eq name) names ≡ false → inflow (row_flows g names numbers) name ≡ 0
row-unlisted g [] numbers name none = refl
row-unlisted g (n ∷ names) [] name none = refl
row-unlisted g (n ∷ names) (k ∷ numbers) name none =
    ⊎_elim
    (λ (ties : bytes_eq name n ≡ true). absurd (false≢true (sym none ∙ or_left (bytes_eq name n) (list_any (bytes_eq name) names) ties)))
    (λ (apart : bytes_eq name n ≡ false).
    let later : list_any (bytes_eq name) names ≡ false = ap (λ b. b || list_any (bytes_eq name) names) (sym apart) ∙ none in
    omega (arith, sum_by-cons (λ (f : Arc × ℕ). cond (bytes_eq name f.0.1) f.1 0) ((g, n), k) (row_flows g names numbers), cond-false {A = ℕ} (bytes_eq name n) k 0 apart, row-unlisted g names numbers name later))
    (cases_Bool (bytes_eq name n))

inflow-unlisted : (groups : List GroupKey) (names : List (List ℕ)) (numbers : List ℕ) (name : List ℕ) → list_any (bytes_eq name) names ≡ false → inflow (arc_flows groups names numbers) name ≡ 0
inflow-unlisted [] names numbers name none = refl
inflow-unlisted (g ∷ gs) names numbers name none =
    omega (arith, sum_by-append (λ (f : Arc × ℕ). cond (bytes_eq name f.0.1) f.1 0) (row_flows g names numbers) (arc_flows gs names (drop (length names) numbers)), row-unlisted g names numbers name none, inflow-unlisted gs names (drop (length names) numbers) name none)

-- ---- slack

slack_row : (pricing : Pricing) (a : GroupKey × ℤ) (beta : List (List ℕ × ℤ)) → list_all (λ b. not (is_broken pricing (a, b))) beta ≡ true → find (λ b. is_broken pricing (a, b)) beta ≡ None
slack_row pricing a [] all = refl
slack_row pricing a (b ∷ beta) all =
    let parts = and_parts (not (is_broken pricing (a, b))) (list_all (λ (x : List ℕ × ℤ). not (is_broken pricing (a, x))) beta) all in
    cond-false (is_broken pricing (a, b)) (Some b) (find (λ x. is_broken pricing (a, x)) beta) (not-true (is_broken pricing (a, b)) parts.0) ∙ slack_row pricing a beta parts.1

slack_parts : (pricing : Pricing) (a : GroupKey × ℤ) (alpha : List (GroupKey × ℤ)) (beta : List (List ℕ × ℤ)) → has_slack pricing (a ∷ alpha) beta ≡ true → (list_all (λ b. not (is_broken pricing (a, b))) beta ≡ true) × (has_slack pricing alpha beta ≡ true)
slack_parts pricing a alpha [] all = (refl, refl)
slack_parts pricing a alpha (b ∷ beta) all =
    let here : Bool = not (is_broken pricing (a, b)) in
    let column : Bool = list_all (λ (x : GroupKey × ℤ). not (is_broken pricing (x, b))) alpha in
    let outer = and_parts (here && column) (has_slack pricing (a ∷ alpha) beta) all in
    let inner = and_parts here column outer.0 in
    let rest = slack_parts pricing a alpha beta outer.1 in
    (and_from here (list_all (λ (y : List ℕ × ℤ). not (is_broken pricing (a, y))) beta) inner.0 rest.0, and_from column (has_slack pricing alpha beta) inner.1 rest.1)

pub none_broken : (pricing : Pricing) (alpha : List (GroupKey × ℤ)) (beta : List (List ℕ × ℤ)) → has_slack pricing alpha beta ≡ true → find (is_broken pricing) (pairs_of alpha beta) ≡ None
none_broken pricing [] beta all = refl
none_broken pricing (a ∷ alpha) beta all =
    let parts = slack_parts pricing a alpha beta all in
    row_fails (is_broken pricing) a (pairs_of alpha beta) beta (slack_row pricing a beta parts.0) ∙ none_broken pricing alpha beta parts.1

-- ---- the plan

module _ (p : TransportProblem) (numbers : List ℕ) (c : DualPrices) (lawful : AreLimits p.limits) (proved : IsProved p numbers c) (old new : Entries) (inputs : List (List ℕ)) (sizes : AreSizes old inputs p.groups) (has : HasAssignment old new inputs (flows_of p numbers)) (some : 0 < total_weight old) where
  pub fits_by : Fits old new p.limits p.pricing
  fits_by = record {
    weight = has.weight;
    low = λ name. omega (arith, total-inflow old new inputs (flows_of p numbers) has name, lows_from p.limits (inflow (flows_of p numbers)) name proved.low);
    high = λ name.
        ⊎_elim
        (λ (h : list_any (bytes_eq name) (keys_of p.limits) ≡ true). omega (arith, total-inflow old new inputs (flows_of p numbers) has name, highs_listed p.limits (inflow (flows_of p numbers)) name proved.placed.high h))
        (λ (h : list_any (bytes_eq name) (keys_of p.limits) ≡ false). omega (arith, total-inflow old new inputs (flows_of p numbers) has name, inflow-unlisted (keys_of p.groups) (keys_of p.limits) numbers name h))
        (cases_Bool (list_any (bytes_eq name) (keys_of p.limits)));
    allowed = allowed_by old new inputs (flows_of p numbers) has p.pricing proved.placed.allowed;
  }

  pub certified_by : IsCertified old new p.limits p.pricing inputs c
  certified_by =
      certified old inputs p.limits p.pricing c (subst (λ (ks : List GroupKey). AreGroups old inputs ks) (sym proved.duals.groups) (groups_are old inputs p.groups sizes)) lawful proved.duals.names new fits_by
      (none_broken p.pricing c.alpha c.beta proved.duals.slack)
      (dual_sum-is old inputs p.limits c p.groups lawful sizes proved.duals.groups proved.duals.names ∙ proved.duals.sum)
      (cost-flow old new inputs (flows_of p numbers) has p.pricing some ∙ proved.cost)

  pub least_by : IsLeast old new p.limits p.pricing inputs
  least_by = least_from old new p.limits p.pricing inputs c some lawful certified_by

-- ---- no set is over the high limits where each point has its place

nothing_of : (b : Bool) (n : ℕ) → n ≡ 0 → cond b n 0 ≡ n
nothing_of true n none = refl
nothing_of false n none = sym none

pub added : (b : Bool) (k n : ℕ) → cond b (k + n) 0 ≡ cond b k 0 + cond b n 0
added true k n = refl
added false k n = refl

none_le : (a b : Bool) (n : ℕ) → n ≡ 0 → cond a n 0 ≤ cond b n 0
none_le true b n none = omega (arith, none)
none_le false b n none = omega arith

cond_le : (a b : Bool) (n : ℕ) → (a ≡ true → b ≡ true) → cond a n 0 ≤ cond b n 0
cond_le true b n next = omega (arith, cond-true {A = ℕ} b n 0 (next refl))
cond_le false b n next = omega arith

cond_grows : (b : Bool) (m n : ℕ) → m ≤ n → cond b m 0 ≤ cond b n 0
cond_grows true m n le = le
cond_grows false m n le = omega arith

row-sum : (g : GroupKey) (test : GroupKey → Bool) (names : List (List ℕ)) (row : List ℕ) → length row ≡ length names → sum_by (λ (f : Arc × ℕ). cond (test f.0.0) f.1 0) (row_flows g names row) ≡ cond (test g) (sum row) 0
row-sum g test [] [] same = sym (nothing_of (test g) 0 refl)
row-sum g test [] (k ∷ row) same = absurd (omega arith)
row-sum g test (n ∷ names) [] same = absurd (omega arith)
row-sum g test (n ∷ names) (k ∷ row) same =
    let size = ap (λ (m : ℕ). let r : ℕ = cond (test g) m 0 in r) (sum_by-cons (λ (m : ℕ). m) k row) in
    omega (arith, sum_by-cons (λ (f : Arc × ℕ). cond (test f.0.0) f.1 0) ((g, n), k) (row_flows g names row), size, added (test g) k (sum row), row-sum g test names row (omega arith))

pub groups-sum : (test : GroupKey → Bool) (groups : List (GroupKey × ℕ)) (names : List (List ℕ)) (numbers : List ℕ) → spends_all groups (length names) numbers ≡ true → sum_by (λ g. cond (test g.0) g.1 0) groups ≡ sum_by (λ (f : Arc × ℕ). cond (test f.0.0) f.1 0) (arc_flows (keys_of groups) names numbers)
groups-sum test [] names numbers spent = refl
groups-sum test (g ∷ gs) names numbers spent =
    let parts = spends g gs (length names) numbers spent in
    let row = take (length names) numbers in
    let more = drop (length names) numbers in
    let step = sum_step (λ (f : Arc × ℕ). cond (test f.0.0) f.1 0) g gs names (length names) numbers row more refl refl refl in
    let here = row-sum g.0 test names row (length-take-le (length names) numbers parts.long) in
    let size = ap (λ (n : ℕ). let k : ℕ = cond (test g.0) n 0 in k) parts.row in
    omega (arith, step, here, size, sum_by-cons (λ (r : GroupKey × ℕ). cond (test r.0) r.1 0) g gs, groups-sum test gs names more parts.rest)

moved-le : (pricing : Pricing) (set : List (List ℕ)) (flows : List (Arc × ℕ)) → is_free_of pricing flows ≡ true
    → sum_by (λ (f : Arc × ℕ). cond (is_among set f.0.0.0) f.1 0) flows ≤ sum_by (λ (f : Arc × ℕ). cond (list_any (λ a. may_become pricing a f.0.1) set) f.1 0) flows
moved-le pricing set [] free = omega arith
moved-le pricing set (f ∷ fs) free =
    let parts = and_parts ((f.1 == 0) || not (is_forbidden pricing f.0.0.0 f.0.1)) (is_free_of pricing fs) free in
    let among = is_among set f.0.0.0 in
    let reach = list_any (λ a. may_become pricing a f.0.1) set in
    let here : cond among f.1 0 ≤ cond reach f.1 0 =
    ⊎_elim
    (λ (none : (f.1 == 0) ≡ true). none_le among reach f.1 (eqb-true f.1 0 none))
    (λ (h : not (is_forbidden pricing f.0.0.0 f.0.1) ≡ true). cond_le among reach f.1 (λ in_set. reached pricing set f.0.0.0 f.0.1 (not-true (is_forbidden pricing f.0.0.0 f.0.1) h) in_set))
    (or_cases (f.1 == 0) (not (is_forbidden pricing f.0.0.0 f.0.1)) parts.0) in
    omega (arith, here, sum_by-cons (λ (x : Arc × ℕ). cond (is_among set x.0.0.0) x.1 0) f fs, sum_by-cons (λ (x : Arc × ℕ). cond (list_any (λ a. may_become pricing a x.0.1) set) x.1 0) f fs, moved-le pricing set fs parts.1)

-- each arc's name is among the names
row-listed : (g : GroupKey) (names all : List (List ℕ)) (numbers : List ℕ) → ((n : List ℕ) → list_any (bytes_eq n) names ≡ true → list_any (bytes_eq n) all ≡ true) → list_all (λ (f : Arc × ℕ). list_any (bytes_eq f.0.1) all) (row_flows g names numbers) ≡ true
row-listed g [] all numbers within = refl
row-listed g (n ∷ names) all [] within = refl
row-listed g (n ∷ names) all (k ∷ numbers) within =
    and_from (list_any (bytes_eq n) all) (list_all (λ (f : Arc × ℕ). list_any (bytes_eq f.0.1) all) (row_flows g names numbers)) (within n (or_left (bytes_eq n n) (list_any (bytes_eq n) names) ((bytes_eq-Decides n n).1 refl)))
    (row-listed g names all numbers (λ m h. within m (or_right (bytes_eq m n) (list_any (bytes_eq m) names) h)))

pub arcs-listed : (groups : List GroupKey) (names : List (List ℕ)) (numbers : List ℕ) → list_all (λ (f : Arc × ℕ). list_any (bytes_eq f.0.1) names) (arc_flows groups names numbers) ≡ true
arcs-listed [] names numbers = refl
arcs-listed (g ∷ gs) names numbers =
    let test : Arc × ℕ → Bool = λ f. list_any (bytes_eq f.0.1) names in
    list_all-append test (row_flows g names numbers) (arc_flows gs names (drop (length names) numbers))
    ∙ and_from (list_all test (row_flows g names numbers)) (list_all test (arc_flows gs names (drop (length names) numbers))) (row-listed g names names numbers (λ n h. h)) (arcs-listed gs names (drop (length names) numbers))

pub same_sums : {X : Type 0} (f g : X → ℕ) (xs : List X) → ((x : X) → f x ≡ g x) → sum_by f xs ≡ sum_by g xs
same_sums f g [] same = refl
same_sums f g (x ∷ xs) same = omega (arith, sum_by-cons f x xs, sum_by-cons g x xs, same x, same_sums f g xs same)

arcs-more : (u : List ℕ → Bool) (name : List ℕ) (k : ℕ) (limits : Limits) (bound : List ℕ → ℕ) → sum_by (λ l. cond (u l.0) (bound l.0) 0) limits ≤ sum_by (λ l. cond (u l.0) (cond (bytes_eq l.0 name) k 0 + bound l.0) 0) limits
arcs-more u name k [] bound = omega arith
arcs-more u name k (l ∷ ls) bound =
    omega (arith, sum_by-cons (λ (x : List ℕ × (ℕ × ℕ)). cond (u x.0) (bound x.0) 0) l ls, sum_by-cons (λ (x : List ℕ × (ℕ × ℕ)). cond (u x.0) (cond (bytes_eq x.0 name) k 0 + bound x.0) 0) l ls, cond_grows (u l.0) (bound l.0) (cond (bytes_eq l.0 name) k 0 + bound l.0) (omega arith), arcs-more u name k ls bound)

-- one arc's points are among those to its name
arc-counted : (u : List ℕ → Bool) (name : List ℕ) (k : ℕ) (limits : Limits) (bound : List ℕ → ℕ) → list_any (bytes_eq name) (keys_of limits) ≡ true
    → cond (u name) k 0 + sum_by (λ l. cond (u l.0) (bound l.0) 0) limits ≤ sum_by (λ l. cond (u l.0) (cond (bytes_eq l.0 name) k 0 + bound l.0) 0) limits
arc-counted u name k [] bound some = cc
arc-counted u name k (l ∷ ls) bound some =
    let whole = sum_by-cons (λ (x : List ℕ × (ℕ × ℕ)). cond (u x.0) (bound x.0) 0) l ls in
    let more = sum_by-cons (λ (x : List ℕ × (ℕ × ℕ)). cond (u x.0) (cond (bytes_eq x.0 name) k 0 + bound x.0) 0) l ls in
    let split = added (u l.0) (cond (bytes_eq l.0 name) k 0) (bound l.0) in
    ⊎_elim
    (λ (ties : bytes_eq name l.0 ≡ true).
    let is : name ≡ l.0 = (bytes_eq-Decides name l.0).0 ties in
    let here : cond (u name) k 0 ≡ cond (u l.0) k 0 = ap (λ n. cond (u n) k 0) is in
    let turned : cond (u l.0) (cond (bytes_eq l.0 name) k 0) 0 ≡ cond (u l.0) k 0 = ap (λ (m : ℕ). let r : ℕ = cond (u l.0) m 0 in r) (cond-true {A = ℕ} (bytes_eq l.0 name) k 0 (bytes_eq-sym l.0 name ∙ ties)) in
    omega (arith, whole, more, split, here, turned, arcs-more u name k ls bound))
    (λ (apart : bytes_eq name l.0 ≡ false).
    let later : list_any (bytes_eq name) (keys_of ls) ≡ true = ap (λ b. b || list_any (bytes_eq name) (keys_of ls)) (sym apart) ∙ some in
    omega (arith, whole, more, split, arc-counted u name k ls bound later))
    (cases_Bool (bytes_eq name l.0))

pub arrived-le : (u : List ℕ → Bool) (limits : Limits) (flows : List (Arc × ℕ)) → list_all (λ (f : Arc × ℕ). list_any (bytes_eq f.0.1) (keys_of limits)) flows ≡ true
    → sum_by (λ (f : Arc × ℕ). cond (u f.0.1) f.1 0) flows ≤ sum_by (λ l. cond (u l.0) (inflow flows l.0) 0) limits
arrived-le u limits [] listed = omega arith
arrived-le u limits (f ∷ fs) listed =
    let parts = and_parts (list_any (bytes_eq f.0.1) (keys_of limits)) (list_all (λ (x : Arc × ℕ). list_any (bytes_eq x.0.1) (keys_of limits)) fs) listed in
    let here = arc-counted u f.0.1 f.1 limits (inflow fs) parts.0 in
    let each = same_sums (λ (l : List ℕ × (ℕ × ℕ)). cond (u l.0) (inflow (f ∷ fs) l.0) 0) (λ l. cond (u l.0) (cond (bytes_eq l.0 f.0.1) f.1 0 + inflow fs l.0) 0) limits
    (λ l. ap (λ (n : ℕ). let k : ℕ = cond (u l.0) n 0 in k) (sum_by-cons (λ (x : Arc × ℕ). cond (bytes_eq l.0 x.0.1) x.1 0) f fs)) in
    omega (arith, here, each, sum_by-cons (λ (x : Arc × ℕ). cond (u x.0.1) x.1 0) f fs, arrived-le u limits fs parts.1)

kept-le : (u : List ℕ → Bool) (limits : Limits) (bound : List ℕ → ℕ) → list_all (λ l. nat_le (bound l.0) l.1.1) limits ≡ true → sum_by (λ l. cond (u l.0) (bound l.0) 0) limits ≤ sum_by (λ l. cond (u l.0) l.1.1 0) limits
kept-le u [] bound all = omega arith
kept-le u (l ∷ ls) bound all =
    let parts = and_parts (nat_le (bound l.0) l.1.1) (list_all (λ (x : List ℕ × (ℕ × ℕ)). nat_le (bound x.0) x.1.1) ls) all in
    omega (arith, cond_grows (u l.0) (bound l.0) l.1.1 (leb-true (bound l.0) l.1.1 parts.0), sum_by-cons (λ (x : List ℕ × (ℕ × ℕ)). cond (u x.0) (bound x.0) 0) l ls, sum_by-cons (λ (x : List ℕ × (ℕ × ℕ)). cond (u x.0) x.1.1 0) l ls, kept-le u ls bound parts.1)

pub none_over : (p : TransportProblem) (numbers : List ℕ) (old : Entries) (inputs : List (List ℕ)) (set : List (List ℕ)) → IsPlaced p numbers → AreSizes old inputs p.groups → IsOver old p.limits p.pricing set → ⊥
none_over p numbers old inputs set placed sizes over =
    let flows = flows_of p numbers in
    let reach : List ℕ → Bool = λ v. list_any (λ a. may_become p.pricing a v) set in
    let spent : spends_all p.groups (length (keys_of p.limits)) numbers ≡ true = ap (λ w. spends_all p.groups w numbers) (length-keys_of p.limits) ∙ placed.whole in
    let counted = groups-test old inputs p.groups sizes (is_among set) in
    let spread = groups-sum (λ g. is_among set g.0) p.groups (keys_of p.limits) numbers spent in
    let moved = moved-le p.pricing set flows placed.allowed in
    let arrived = arrived-le reach p.limits flows (arcs-listed (keys_of p.groups) (keys_of p.limits) numbers) in
    let kept = kept-le reach p.limits (inflow flows) placed.high in
    absurd (omega (arith, counted, spread, moved, arrived, kept, over.more))

-- no more groups than points
pub few_groups : (rows : List ((Bor (List ℕ) × ℕ) × ℕ)) → All (λ (g : GroupKey × ℕ). 0 < g.1) (rows_view rows) → length rows ≤ whole_amount (rows_view rows)
few_groups [] all = omega arith
few_groups (r ∷ rows) all =
    omega (arith, sum_by-cons (λ (x : GroupKey × ℕ). x.1) (row_view r) (rows_view rows), All-head (λ (g : GroupKey × ℕ). 0 < g.1) (row_view r) (rows_view rows) all, few_groups rows (All-tail (λ (g : GroupKey × ℕ). 0 < g.1) (row_view r) (rows_view rows) all))
