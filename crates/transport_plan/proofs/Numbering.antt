-- What is kept by number is the problem.
use Rattle.std.proofs.Common.{◌≡◌, ℕ, zero, suc, ◌+◌, ◌*◌, ◌<◌, ◌≤◌, ℤ, pos, List, [], ◌∷◌, length, take, get_or, map, sum_by, true, Option, Some, None, Ordering, refl, sym, ap, ◌∙◌, arith}
use Rattle.std.specs.Cmp.Lexicographic.{slice_cmp}
use Rattle.std.specs.List.{All, flat_map}
use Rattle.std.specs.Map.{keys_of}
use Rattle.std.specs.Ordering.{nat_cmp, ordering_then, ordering_reverse}
use Rattle.std.specs.Str.{bytes_eq}
use Rattle.std.specs.declared.cmp.Ordering.TheVariants.{Less, Equal, Greater}
use Rattle.std.proofs.Math.ListN.{get_or-map}
use Rattle.std.proofs.lemmas.Cmp.{nat_list_cmp_total, ranked}
use Rattle.std.proofs.Common.{length-append}
use Rattle.std.proofs.lemmas.List.{length-map, get_or_default}
use Rattle.std.proofs.lemmas.List.{get_or-map as read_map}
use Rattle.std.proofs.lemmas.List.Elements.{All-head, All-tail}
use Rattle.std.proofs.lemmas.List.Concat.{get_or-flat_map}
use Rattle.std.proofs.lemmas.List.Sums.{sum_by-cons}
use Rattle.std.proofs.lemmas.Map.Entries.{length-keys_of}
use Rattle.std.proofs.lemmas.Map.Keys.{Less-from_sorted}
use Rattle.std.proofs.lemmas.Option.{slice_get-get_or, slice_get_within, get_or_from_slice_get}
use Rattle.std.proofs.lemmas.Slice.Eq.{bytes_eq-Decides}
use Rattle.price_core.specs.Pricing.{Pricing}
use Rattle.min_cost_flow.specs.Problem.{IsFlowProblem, sum_to, group_at, inputs_of, names_of, no_group, switch_cost_at}
use Rattle.min_cost_flow.specs.declared.problem.FlowProblem.{FlowProblem}
use Rattle.transport_core.specs.Groups.{GroupKey, group_cmp}
use Rattle.transport_core.specs.Instance.{TransportProblem, IsProblem}
use Rattle.transport_core.specs.Rows.{whole_amount}
use Rattle.transport_plan.specs.Network.{AreGroups, IsGroup, price_row, switch_price}
use Rattle.transport_plan.specs.Numbered.{IsNumbered, IsPriced, limit_at, name_at, row_at}

-- ---- sums by places

sum_to-first : (n : ℕ) (f : ℕ → ℕ) → sum_to (suc n) f ≡ f 0 + sum_to n (λ i. f (suc i))
sum_to-first zero f = omega arith
sum_to-first (suc n) f = omega (arith, sum_to-first n f)

pub sum_to-list : {X : Type 0} (f : X → ℕ) (xs : List X) (s : ℕ → ℕ) → ((d : X) (i : ℕ) → i < length xs → s i ≡ f (get_or xs i d)) → sum_to (length xs) s ≡ sum_by f xs
sum_to-list f [] s same = refl
sum_to-list f (x ∷ xs) s same =
    omega (arith, sum_to-first (length xs) s, same x 0 (omega arith), sum_to-list f xs (λ i. s (suc i)) (λ d i below. same d (suc i) (omega (arith, below))), sum_by-cons f x xs)

-- ---- the table of prices

table_length : (names : List (List ℕ)) (row : List ℕ → List (Option ℤ)) (k : ℕ) → ((n : List ℕ) → length (row n) ≡ k) → length (flat_map row names) ≡ length names * k
table_length [] row k wide = omega arith
table_length (n ∷ names) row k wide = omega (arith, length-append (row n) (flat_map row names), wide n, table_length names row k wide)

take_length : (xs : List (List ℕ)) (i : ℕ) → i ≤ length xs → length (take i xs) ≡ i
take_length xs zero within = refl
take_length [] (suc i) within = absurd (omega arith)
take_length (x ∷ xs) (suc i) within = omega (arith, take_length xs i (omega arith))

-- staying is free
stays : (pricing : Pricing) (name : List ℕ) → switch_price pricing name name ≡ Some (pos 0)
stays pricing name =
    let same : bytes_eq name name ≡ true = (bytes_eq-Decides name name).1 refl in
    rw (same) refl

-- ---- groups of one name

then_count : (o : Ordering) (a b : ℕ) → o ≡ Equal → ordering_then o (nat_cmp a b) ≡ Less → nat_cmp a b ≡ Less
then_count o a b same less = sym (ap (λ x. ordering_then x (nat_cmp a b)) same) ∙ less

itself : (o : Ordering) → o ≡ ordering_reverse o → o ≡ Equal
itself Less same = absurd (clash same)
  where
    clash : Less ≡ ordering_reverse Less → ⊥
    clash h = cc
itself Equal same = refl
itself Greater same = absurd (clash same)
  where
    clash : Greater ≡ ordering_reverse Greater → ⊥
    clash h = cc

count_rises : (x y : GroupKey) → x.0 ≡ y.0 → group_cmp x y ≡ Less → x.1 ≤ y.1
count_rises x y same less =
    let tie : slice_cmp nat_cmp x.0 y.0 ≡ Equal = ap (λ n. slice_cmp nat_cmp x.0 n) (sym same) ∙ itself (slice_cmp nat_cmp x.0 x.0) (nat_list_cmp_total.antisymm x.0 x.0) in
    let rank = ranked x.1 y.1 Less (sym (then_count (slice_cmp nat_cmp x.0 y.0) x.1 y.1 tie less)) in
    omega (arith, rank)

abbrev pub no_row : GroupKey × ℕ
no_row = (([], 0), 0)

-- what the switch of a group's point to a name costs
pub switch_at : (p : TransportProblem) (q : FlowProblem) → IsNumbered p q → (g w : ℕ) → g < length p.groups → w < length p.limits → switch_cost_at q.costs.items (names_of q) (group_at q.groups.items g).variant w ≡ switch_price p.pricing (row_at p g).0.0 (name_at p w)
switch_at p q are g w g_in w_in = are.costs (group_at q.groups.items g).variant w (are.variant_in g g_in) w_in ∙ ap (λ n. switch_price p.pricing n (name_at p w)) (are.variant g g_in)

module _ (t : TransportProblem) (problem : IsProblem t) (q : FlowProblem) (are : AreGroups (keys_of t.limits) t.groups q.groups.items) (table : q.costs.items ≡ flat_map (price_row t.pricing (keys_of t.limits)) (keys_of t.limits))
    (priced : All IsPriced q.costs.items) (low : q.low.items ≡ map (λ l. l.1.0) t.limits) (high : q.high.items ≡ map (λ l. l.1.1) t.limits) where
  names_many : names_of q ≡ length t.limits
  names_many = ap length high ∙ length-map t.limits (λ (l : List ℕ × (ℕ × ℕ)). l.1.1)

  keys_many : length (keys_of t.limits) ≡ length t.limits
  keys_many = length-keys_of t.limits

  group_here : (g : ℕ) → g < length t.groups → IsGroup (keys_of t.limits) (row_at t g) (group_at q.groups.items g)
  group_here g below = are.each g (row_at t g) (group_at q.groups.items g) (slice_get-get_or t.groups g no_row below) (slice_get-get_or q.groups.items g no_group (omega (arith, below, are.many)))

  variant_within : (g : ℕ) → g < length t.groups → (group_at q.groups.items g).variant < length t.limits
  variant_within g below = omega (arith, slice_get_within (keys_of t.limits) (group_at q.groups.items g).variant (row_at t g).0.0 (group_here g below).variant, keys_many)

  variant_named : (g : ℕ) → g < length t.groups → name_at t (group_at q.groups.items g).variant ≡ (row_at t g).0.0
  variant_named g below = get_or_from_slice_get (keys_of t.limits) (group_at q.groups.items g).variant (row_at t g).0.0 [] (group_here g below).variant

  low_at : (v : ℕ) → get_or q.low.items v 0 ≡ (limit_at t v).1.0
  low_at v = ap (λ xs. get_or xs v 0) low ∙ get_or-map (λ (l : List ℕ × (ℕ × ℕ)). l.1.0) t.limits v ([], (0, 0))

  high_at : (v : ℕ) → get_or q.high.items v 0 ≡ (limit_at t v).1.1
  high_at v = ap (λ xs. get_or xs v 0) high ∙ get_or-map (λ (l : List ℕ × (ℕ × ℕ)). l.1.1) t.limits v ([], (0, 0))

  row_wide : (n : List ℕ) → length (price_row t.pricing (keys_of t.limits) n) ≡ length t.limits
  row_wide n = length-map (keys_of t.limits) (switch_price t.pricing n) ∙ keys_many

  price_here : (v w : ℕ) → v < length t.limits → w < length t.limits → switch_cost_at q.costs.items (names_of q) v w ≡ switch_price t.pricing (name_at t v) (name_at t w)
  price_here v w v_in w_in =
      let names = keys_of t.limits in
      let row = price_row t.pricing names in
      let place : v * length t.limits + w ≡ length (flat_map row (take v names)) + w =
      omega (arith, table_length (take v names) row (length t.limits) row_wide, ap (λ n. n * length t.limits) (take_length names v (omega (arith, v_in, keys_many)))) in
      ap (λ n. get_or q.costs.items (v * n + w) None) names_many
      ∙ (ap (λ xs. get_or xs (v * length t.limits + w) None) table
      ∙ (ap (λ i. get_or (flat_map row names) i None) place
      ∙ (get_or-flat_map row names v w [] None (omega (arith, v_in, keys_many)) (omega (arith, w_in, row_wide (get_or names v [])))
      ∙ read_map (switch_price t.pricing (name_at t v)) names w [] None (omega (arith, w_in, keys_many)))))

  pub numbered : IsNumbered t q
  numbered = record {
    names = names_many;
    groups = are.many;
    low = λ v below. low_at v;
    high = λ v below. high_at v;
    variant_in = variant_within;
    variant = variant_named;
    count = λ g below. (group_here g below).count;
    points = λ g below. (group_here g below).points;
    costs = price_here;
  }

  points_sum : sum_to (length q.groups.items) (λ g. (group_at q.groups.items g).points) ≡ whole_amount t.groups
  points_sum =
      ap (λ n. sum_to n (λ g. (group_at q.groups.items g).points)) are.many
      ∙ sum_to-list (λ (e : GroupKey × ℕ). e.1) t.groups (λ g. (group_at q.groups.items g).points) (λ d g below. (group_here g below).points ∙ ap (λ (e : GroupKey × ℕ). e.1) (get_or_default t.groups g no_row d below))

  inputs_sum : sum_to (length q.groups.items) (inputs_of q.groups.items) ≡ sum_by (λ g. g.0.1 * g.1) t.groups
  inputs_sum =
      ap (λ n. sum_to n (inputs_of q.groups.items)) are.many
      ∙ sum_to-list (λ (e : GroupKey × ℕ). e.0.1 * e.1) t.groups (inputs_of q.groups.items)
      (λ d g below.
      ap (λ n. n * (group_at q.groups.items g).points) (group_here g below).count
      ∙ (ap (λ n. (row_at t g).0.1 * n) (group_here g below).points ∙ ap (λ (e : GroupKey × ℕ). e.0.1 * e.1) (get_or_default t.groups g no_row d below)))

  lows_sum : sum_to (names_of q) (λ v. get_or q.low.items v 0) ≡ sum_by (λ l. l.1.0) t.limits
  lows_sum =
      ap (λ n. sum_to n (λ v. get_or q.low.items v 0)) names_many
      ∙ sum_to-list (λ (l : List ℕ × (ℕ × ℕ)). l.1.0) t.limits (λ v. get_or q.low.items v 0) (λ d v below. low_at v ∙ ap (λ (l : List ℕ × (ℕ × ℕ)). l.1.0) (get_or_default t.limits v ([], (0, 0)) d below))

  table_size : length q.costs.items ≡ names_of q * names_of q
  table_size = ap length table ∙ (table_length (keys_of t.limits) (price_row t.pricing (keys_of t.limits)) (length t.limits) row_wide ∙ (ap (λ n. n * length t.limits) keys_many ∙ ap (λ n. n * n) (sym names_many)))

  few_rows : (rows : List (GroupKey × ℕ)) → All (λ (e : GroupKey × ℕ). 0 < e.1) rows → length rows ≤ whole_amount rows
  few_rows [] some = omega arith
  few_rows (e ∷ rows) some = omega (arith, sum_by-cons (λ (x : GroupKey × ℕ). x.1) e rows, All-head (λ (x : GroupKey × ℕ). 0 < x.1) e rows some, few_rows rows (All-tail (λ (x : GroupKey × ℕ). 0 < x.1) e rows some))

  rises : (g h : ℕ) → g < h → h < length t.groups → (group_at q.groups.items g).variant ≡ (group_at q.groups.items h).variant → (group_at q.groups.items g).count ≤ (group_at q.groups.items h).count
  rises g h later below same =
      let g_in : g < length t.groups = omega (arith, later, below) in
      let less = Less-from_sorted group_cmp (keys_of t.groups) g h ([], 0) problem.rise later (omega (arith, below, length-keys_of t.groups)) in
      let key : (i : ℕ) → get_or (keys_of t.groups) i ([], 0) ≡ (row_at t i).0 = λ i. get_or-map (λ (e : GroupKey × ℕ). e.0) t.groups i no_row in
      let less_rows : group_cmp (row_at t g).0 (row_at t h).0 ≡ Less = ap (λ k. group_cmp k (row_at t h).0) (sym (key g)) ∙ (ap (group_cmp (get_or (keys_of t.groups) g ([], 0))) (sym (key h)) ∙ less) in
      let name : (row_at t g).0.0 ≡ (row_at t h).0.0 = sym (variant_named g g_in) ∙ (ap (name_at t) same ∙ variant_named h below) in
      omega (arith, (group_here g g_in).count, (group_here h below).count, count_rises (row_at t g).0 (row_at t h).0 name less_rows)

  pub lawful : IsFlowProblem q
  lawful = record {
    names = omega (arith, names_many, problem.names);
    lows = ap length low ∙ (length-map t.limits (λ (l : List ℕ × (ℕ × ℕ)). l.1.0) ∙ sym names_many);
    ordered = λ v below. omega (arith, low_at v, high_at v, problem.limits.ordered v ([], (0, 0)) (omega (arith, below, names_many)));
    asked = omega (arith, lows_sum, points_sum, problem.lows);
    costs = record { size = table_size; each = λ i price below is. priced i None (omega (arith, below, table_size)) price is };
    groups = record {
      variant = λ g below. omega (arith, variant_within g (omega (arith, below, are.many)), names_many);
      stay = λ g below.
          let g_in : g < length t.groups = omega (arith, below, are.many) in
          let v = (group_at q.groups.items g).variant in
          price_here v v (variant_within g g_in) (variant_within g g_in) ∙ stays t.pricing (name_at t v);
      count = λ g below.
          let g_in : g < length t.groups = omega (arith, below, are.many) in
          omega (arith, (group_here g g_in).count, problem.counts g no_row g_in);
      rising = λ g h later below same. rises g h later (omega (arith, below, are.many)) same;
      few = omega (arith, are.many, few_rows t.groups problem.sizes, problem.small);
      weight = omega (arith, points_sum, problem.small);
      inputs = omega (arith, inputs_sum, problem.inputs);
    };
  }
