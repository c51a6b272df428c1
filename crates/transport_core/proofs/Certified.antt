-- What an accepted certificate shows, and that a refused plan is not certified.
use Rattle.std.proofs.Common.{◌≡◌, ◌≢◌, ◌⊎◌, inl, inr, ⊎_elim, ℕ, zero, suc, ◌*◌, ◌<◌, ◌≤◌, ℤ, pos, ◌+ℤ◌, ◌≤ℤ◌, List, [], ◌∷◌, ◌++◌, length, map, get_or, Bool, true, false, not, ◌&&◌, cond, Option, Some, None, Result, Ok, Err, MatchResult, IsErrAnd, unwrap_or, find, position, option_map, string_bytes, int_lt, sum_by, count_by, nat_lt, refl, sym, ap, ◌∙◌, subst, arith}
use Rattle.std.proofs.lemmas.Bool.{cases_Bool, cond-true, cond-false, and_parts, ltb-true, ltb-false, false≢true, not_from_false, not-true}
use Rattle.std.proofs.lemmas.Int.{ints}
use Rattle.std.proofs.lemmas.List.Sums.{sum_by-cons, fails_before_first, passes_at_first}
use Rattle.std.proofs.lemmas.Option.{slice_get-get_or, get_or_from_slice_get}
use Rattle.std.specs.List.{Contains, range_with_len, slice_get, zip, position_or_len}
use Rattle.std.specs.Cmp.Lexicographic.{slice_cmp}
use Rattle.std.specs.List.Sorted.{IsStrictlySortedBy}
use Rattle.std.specs.Ordering.{nat_cmp}
use Rattle.std.specs.Map.{keys_of, lookup}
use Rattle.std.specs.Str.{bytes_eq}
use Rattle.bucket_core.specs.Rule.{Entries, total_weight, points, at, total_of}
use Rattle.price_core.specs.Cost.{cost_of, changes_at, first_forbidden_of}
use Rattle.price_core.specs.Limits.{Limits, AreLimits, low_of, high_of}
use Rattle.price_core.specs.Pricing.{Pair, Pricing, price_of, is_forbidden}
use Rattle.transport_core.specs.Certificate.{DualPrices, alpha_at, beta_of, group_sum, gains, losses, IsCertified}
use Rattle.transport_core.specs.Dual.{inputs_at, least_value}
use Rattle.transport_core.specs.Fits.{Fits, IsLeast}
use Rattle.transport_core.specs.Groups.{GroupKey, is_same_group, group_cmp, group_at, AreGroups, AreSizes}
use Rattle.transport_core.specs.Refusals.{KeepsLimits, IsArcCost, pairs_of, is_broken, first_broken, dual_sum, Refuses, RefusesRule, RefusesDuals, ReportsBroken, AreDuals}
use Rattle.transport_core.proofs.DualSums.{range_place, size-some, groups_are, groups_only, group_sum-is, beta-place, names_sum-is}
use Rattle.transport_core.proofs.Duality.{values-le, weak_duality}
use Rattle.transport_core.specs.Sum.{sum_z}
use Rattle.price_core.specs.Limits.{limit_view, limits_view}
use Rattle.price_core.specs.declared.totals.Limit.{Limit}
use Rattle.std.specs.Cmp.Lexicographic.{pointwise}
use Rattle.std.specs.Bool.{Decides}
use Rattle.std.proofs.lemmas.Slice.Eq.{slice_eq-Decides, bytes_eq-Decides}
use Rattle.transport_core.proofs.Members.{Stands, place_below, contains_from_place, place_from_contains, lookup_place, entry_place}
use Rattle.transport_core.proofs.Placed.{same_group, is_same_itself, group_order}
use Rattle.transport_core.proofs.Keys.{get-map}
use Rattle.transport_core.proofs.Points.{length-points, at_below}
use Rattle.transport_core.specs.declared.fault.CheckFault.{CheckFault}
use Rattle.transport_core.specs.declared.fault.CheckFault.TheVariants.{WantOfMemory, Weight, Totals, Forbidden, Slack, Sum, Cost, NotDeficient, Groups}

-- ---- the first that passes

find_at : {X : Type 0} (test : X → Bool) (xs : List X) (x : X) → find test xs ≡ Some x → (test x ≡ true) × Stands xs x
find_at test [] x found = cc
find_at {X} test (y ∷ ys) x found =
    ⊎_elim
    (λ (h : test y ≡ true).
    let same : Some y ≡ Some x = sym (cond-true (test y) (Some y) (find test ys) h) ∙ found in
    let here : y ≡ x = cc in
    (ap test (sym here) ∙ h, (0, same)))
    (λ (h : test y ≡ false). let rest = find_at test ys x (sym (cond-false (test y) (Some y) (find test ys) h) ∙ found) in (rest.0, (suc (rest.1.0), rest.1.1)))
    (cases_Bool (test y))

find_none_by : {X : Type 0} (test : X → Bool) (y : X) (ys : List X) (i : ℕ) (x : X) → test y ≡ false → ((j : ℕ) → slice_get ys j ≡ Some x → test x ≡ false) → slice_get (y ∷ ys) i ≡ Some x → test x ≡ false
find_none_by test y ys zero x h rest is = let here : y ≡ x = cc in ap test (sym here) ∙ h
find_none_by test y ys (suc i) x h rest is = rest i is

find_none : {X : Type 0} (test : X → Bool) (xs : List X) (i : ℕ) (x : X) → find test xs ≡ None → slice_get xs i ≡ Some x → test x ≡ false
find_none test [] i x none is = cc
find_none {X} test (y ∷ ys) i x none is =
    ⊎_elim
    (λ (h : test y ≡ true). let clash : Some y ≡ None = sym (cond-true (test y) (Some y) (find test ys) h) ∙ none in cc)
    (λ (h : test y ≡ false). find_none_by test y ys i x h (λ j at. find_none test ys j x (sym (cond-false (test y) (Some y) (find test ys) h) ∙ none) at) is)
    (cases_Bool (test y))

-- ---- pairs by their places

place-append_left : {X : Type 0} (xs ys : List X) (i : ℕ) (x : X) → slice_get xs i ≡ Some x → slice_get (xs ++ ys) i ≡ Some x
place-append_left [] ys i x is = cc
place-append_left (z ∷ xs) ys zero x is = is
place-append_left (z ∷ xs) ys (suc i) x is = place-append_left xs ys i x is

place-append_right : {X : Type 0} (xs ys : List X) (x : X) → Stands ys x → Stands (xs ++ ys) x
place-append_right [] ys x s = s
place-append_right (z ∷ xs) ys x s = let rest = place-append_right xs ys x s in (suc (rest.0), rest.1)

append_places : {X : Type 0} (xs ys : List X) (i : ℕ) (x : X) → slice_get (xs ++ ys) i ≡ Some x → Stands xs x ⊎ Stands ys x
append_places [] ys i x is = inr (i, is)
append_places (z ∷ xs) ys zero x is = inl (0, is)
append_places (z ∷ xs) ys (suc i) x is = ⊎_elim (λ (s : Stands xs x). inl (suc (s.0), s.1)) (λ (s : Stands ys x). inr s) (append_places xs ys i x is)

map_place : {X Y : Type 0} (f : X → Y) (xs : List X) (i : ℕ) (y : Y) → slice_get (map f xs) i ≡ Some y → (x : X) × (slice_get xs i ≡ Some x) × (f x ≡ y)
map_place f [] i y is = cc
map_place f (x ∷ xs) zero y is = (x, refl, cc)
map_place f (x ∷ xs) (suc i) y is = map_place f xs i y is

place_map : {X Y : Type 0} (f : X → Y) (xs : List X) (i : ℕ) (x : X) → slice_get xs i ≡ Some x → slice_get (map f xs) i ≡ Some (f x)
place_map f [] i x is = cc
place_map f (y ∷ ys) zero x is = let here : y ≡ x = cc in ap (λ z. Some (f z)) here
place_map f (y ∷ ys) (suc i) x is = place_map f ys i x is

pair_stands : (alpha : List (GroupKey × ℤ)) (beta : List (List ℕ × ℤ)) (i j : ℕ) (a : GroupKey × ℤ) (b : List ℕ × ℤ) → slice_get alpha i ≡ Some a → slice_get beta j ≡ Some b → Stands (pairs_of alpha beta) (a, b)
pair_stands [] beta i j a b a_is b_is = cc
pair_stands (x ∷ xs) beta zero j a b a_is b_is =
    let here : x ≡ a = cc in
    let row = place-append_left (map (λ y. (x, y)) beta) (pairs_of xs beta) j (x, b) (place_map (λ y. (x, y)) beta j b b_is) in
    (j, row ∙ ap (λ (k : GroupKey × ℤ). Some (k, b)) here)
pair_stands (x ∷ xs) beta (suc i) j a b a_is b_is = place-append_right (map (λ y. (x, y)) beta) (pairs_of xs beta) (a, b) (pair_stands xs beta i j a b a_is b_is)

pair_parts : (alpha : List (GroupKey × ℤ)) (beta : List (List ℕ × ℤ)) (i : ℕ) (p : (GroupKey × ℤ) × (List ℕ × ℤ)) → slice_get (pairs_of alpha beta) i ≡ Some p → Stands alpha p.0 × Stands beta p.1
pair_parts [] beta i p is = cc
pair_parts (x ∷ xs) beta i p is =
    ⊎_elim
    (λ (s : Stands (map (λ y. (x, y)) beta) p).
    let b = map_place (λ y. (x, y)) beta s.0 p s.1 in
    ((0, ap (λ (q : (GroupKey × ℤ) × (List ℕ × ℤ)). Some q.0) b.2), (s.0, b.1 ∙ ap (λ (q : (GroupKey × ℤ) × (List ℕ × ℤ)). Some q.1) b.2)))
    (λ (s : Stands (pairs_of xs beta) p). let rest = pair_parts xs beta s.0 p s.1 in ((suc (rest.0.0), rest.0.1), rest.1))
    (append_places (map (λ y. (x, y)) beta) (pairs_of xs beta) i p is)

-- ---- changes by points

zip_place : (xs ys : List (List ℕ)) (p : ℕ) (from to : List ℕ) → slice_get xs p ≡ Some from → slice_get ys p ≡ Some to → slice_get (zip xs ys) p ≡ Some (from, to)
zip_place [] ys p from to x_is y_is = cc
zip_place (x ∷ xs) [] p from to x_is y_is = cc
zip_place (x ∷ xs) (y ∷ ys) zero from to x_is y_is =
    let first : x ≡ from = cc in
    let second : y ≡ to = cc in
    ap (λ (n : List ℕ). Some (n, y)) first ∙ ap (λ (n : List ℕ). Some (from, n)) second
zip_place (x ∷ xs) (y ∷ ys) (suc p) from to x_is y_is = zip_place xs ys p from to x_is y_is

zip_parts : (xs ys : List (List ℕ)) (p : ℕ) (z : Pair) → slice_get (zip xs ys) p ≡ Some z → (slice_get xs p ≡ Some z.0) × (slice_get ys p ≡ Some z.1)
zip_parts [] ys p z is = cc
zip_parts (x ∷ xs) [] p z is = cc
zip_parts (x ∷ xs) (y ∷ ys) zero z is = (ap (λ (o : Option Pair). option_map (λ q. q.0) o) is, ap (λ (o : Option Pair). option_map (λ q. q.1) o) is)
zip_parts (x ∷ xs) (y ∷ ys) (suc p) z is = zip_parts xs ys p z is

position_cases : {X : Type 0} (test : X → Bool) (xs : List X) → ((position test xs ≡ None) × (length xs ≤ position_or_len test xs)) ⊎ ((position test xs ≡ Some (position_or_len test xs)) × (position_or_len test xs < length xs))
position_cases test xs =
    let first = position_or_len test xs in
    ⊎_elim
    (λ (h : nat_lt first (length xs) ≡ true). inr (cond-true (nat_lt first (length xs)) (Some first) None h, ltb-true first (length xs) h))
    (λ (h : nat_lt first (length xs) ≡ false). inl (cond-false (nat_lt first (length xs)) (Some first) None h, ltb-false first (length xs) h))
    (cases_Bool (nat_lt first (length xs)))

pub allowed_from : (old new : Entries) (pricing : Pricing) → first_forbidden_of old new pricing ≡ None → (p : ℕ) (from to : List ℕ) → at old p ≡ Some from → at new p ≡ Some to → is_forbidden pricing from to ≡ false
allowed_from old new pricing none p from to was is =
    let test : Pair → Bool = λ c. is_forbidden pricing c.0 c.1 in
    let changes = changes_at old new in
    let here = zip_place (points old) (points new) p from to was is in
    ⊎_elim
    (λ (h : (position test changes ≡ None) × (length changes ≤ position_or_len test changes)).
    let fails = fails_before_first test changes p (from, to) (omega (arith, h.1, place_below changes p (from, to) here)) in
    ap test (sym (get_or_from_slice_get changes p (from, to) (from, to) here)) ∙ fails)
    (λ (h : (position test changes ≡ Some (position_or_len test changes)) × (position_or_len test changes < length changes)).
    let clash : Some (position_or_len test changes) ≡ None = sym h.0 ∙ none in cc)
    (position_cases test changes)

pub forbidden_at : (old new : Entries) (pricing : Pricing) (p : ℕ) → first_forbidden_of old new pricing ≡ Some p → ((q : ℕ) (from to : List ℕ) → at old q ≡ Some from → at new q ≡ Some to → is_forbidden pricing from to ≡ false) → ⊥
forbidden_at old new pricing p found allowed =
    let test : Pair → Bool = λ c. is_forbidden pricing c.0 c.1 in
    let changes = changes_at old new in
    let none : Pair = ([], []) in
    ⊎_elim
    (λ (h : (position test changes ≡ None) × (length changes ≤ position_or_len test changes)). let clash : Some p ≡ None = sym found ∙ h.0 in cc)
    (λ (h : (position test changes ≡ Some (position_or_len test changes)) × (position_or_len test changes < length changes)).
    let first = position_or_len test changes in
    let pair = get_or changes first none in
    let parts = zip_parts (points old) (points new) first pair (slice_get-get_or changes first none h.1) in
    false≢true (sym (allowed first pair.0 pair.1 parts.0 parts.1) ∙ passes_at_first test changes none h.1))
    (position_cases test changes)

-- ---- slack

count_some : {X : Type 0} (test : X → Bool) (xs : List X) → 0 < count_by test xs → (i : ℕ) × (x : X) × (slice_get xs i ≡ Some x) × (test x ≡ true)
count_some test [] some = absurd (omega arith)
count_some {X} test (x ∷ xs) some =
    ⊎_elim
    (λ (h : test x ≡ true). (0, x, refl, h))
    (λ (h : test x ≡ false).
    let rest = count_some test xs (omega (arith, some, sum_by-cons (λ y. cond (test y) 1 0) x xs, cond-false {A = ℕ} (test x) 1 0 h)) in
    (suc (rest.0), rest.1, rest.2, rest.3))
    (cases_Bool (test x))

not_less : (x y : ℤ) → int_lt x y ≡ false → y ≤ℤ x
not_less x y h = grind (arith, ints)

less_not : (x y : ℤ) → int_lt x y ≡ true → y ≤ℤ x → ⊥
less_not x y h le = grind (arith, ints)

unbroken : (pricing : Pricing) (a : GroupKey × ℤ) (b : List ℕ × ℤ) → is_broken pricing (a, b) ≡ false → is_forbidden pricing a.0.0 b.0 ≡ false → (a.1 +ℤ b.1) ≤ℤ pos (a.0.1 * price_of pricing a.0.0 b.0)
unbroken pricing a b whole allowed =
    let less = int_lt (pos (a.0.1 * price_of pricing a.0.0 b.0)) (a.1 +ℤ b.1) in
    not_less (pos (a.0.1 * price_of pricing a.0.0 b.0)) (a.1 +ℤ b.1) (ap (λ t. t && less) (sym (not_from_false (is_forbidden pricing a.0.0 b.0) allowed)) ∙ whole)

-- a pair is broken where its arc is allowed, and its cost passed
pub broken_by_cost : (pricing : Pricing) (a : GroupKey × ℤ) (b : List ℕ × ℤ) (from : List ℕ) (forbidden : Bool) (price : ℕ) → from ≡ a.0.0 → IsArcCost pricing b.0 from forbidden price
    → is_broken pricing (a, b) ≡ (not forbidden && int_lt (pos (a.0.1 * price)) (a.1 +ℤ b.1))
broken_by_cost pricing a b from forbidden price is arc =
    ap (λ f. not f && int_lt (pos (a.0.1 * price_of pricing a.0.0 b.0)) (a.1 +ℤ b.1)) (ap (λ n. is_forbidden pricing n b.0) (sym is) ∙ sym arc.forbidden)
    ∙ ap (λ p. not forbidden && int_lt (pos (a.0.1 * p)) (a.1 +ℤ b.1)) (ap (λ n. price_of pricing n b.0) (sym is) ∙ sym arc.amount)

-- the number at a point and that of a name, by their rows
module _ (old : Entries) (inputs : List (List ℕ)) (limits : Limits) (pricing : Pricing) (c : DualPrices) (groups : AreGroups old inputs (keys_of c.alpha)) (lawful : AreLimits limits) (names : keys_of c.beta ≡ keys_of limits) where
  alpha-place : (p k : ℕ) (a : GroupKey × ℤ) → slice_get c.alpha k ≡ Some a → a.0 ≡ group_at old inputs p → alpha_at old inputs c.alpha p ≡ a.1
  alpha-place p k a is key = ap (λ (g : GroupKey). unwrap_or (lookup (is_same_group g) c.alpha) (pos 0)) (sym key) ∙ ap (λ o. unwrap_or o (pos 0)) (lookup_place is_same_group same_group is_same_itself group_cmp group_order c.alpha k a groups.rise is)

  beta-at : (k : ℕ) (b : List ℕ × ℤ) → slice_get c.beta k ≡ Some b → beta_of c.beta b.0 ≡ b.1
  beta-at k b is = beta-place c.beta k b (subst (λ ks. IsStrictlySortedBy (slice_cmp nat_cmp) ks) (sym names) lawful.rise) is

  pub slack_from : first_broken pricing c ≡ None → (p : ℕ) (from to : List ℕ) → at old p ≡ Some from → Contains (keys_of limits) to → is_forbidden pricing from to ≡ false
      → (alpha_at old inputs c.alpha p +ℤ beta_of c.beta to) ≤ℤ pos (inputs_at (total_weight old) inputs p * price_of pricing from to)
  slack_from none p from to was listed allowed =
      let g = group_at old inputs p in
      let below : p < total_weight old = omega (arith, place_below (points old) p from was, length-points old) in
      let a_at = place_from_contains (keys_of c.alpha) g ((groups.occur g).1 (size-some old (inputs_at (total_weight old) inputs) p below)) in
      let a = entry_place c.alpha a_at.0 g a_at.1 in
      let listed_at = place_from_contains (keys_of limits) to listed in
      let b = entry_place c.beta listed_at.0 to (ap (λ ks. slice_get ks listed_at.0) names ∙ listed_at.1) in
      let pair = pair_stands c.alpha c.beta a_at.0 listed_at.0 a.0 b.0 a.1 b.1 in
      let fails = find_none (is_broken pricing) (pairs_of c.alpha c.beta) pair.0 (a.0, b.0) none pair.1 in
      let name_is : a.0.0.0 ≡ from = ap (λ (k : GroupKey). k.0) a.2 ∙ ap (λ o. unwrap_or o []) was in
      let count_is : a.0.0.1 ≡ inputs_at (total_weight old) inputs p = ap (λ (k : GroupKey). k.1) a.2 in
      let free : is_forbidden pricing a.0.0.0 b.0.0 ≡ false = ap (λ n. is_forbidden pricing n b.0.0) name_is ∙ (ap (is_forbidden pricing from) b.2 ∙ allowed) in
      let le = unbroken pricing a.0 b.0 fails free in
      let price : a.0.0.1 * price_of pricing a.0.0.0 b.0.0 ≡ inputs_at (total_weight old) inputs p * price_of pricing from to =
      ap (λ k. k * price_of pricing a.0.0.0 b.0.0) count_is ∙ (ap (λ n. inputs_at (total_weight old) inputs p * price_of pricing n b.0.0) name_is ∙ ap (λ n. inputs_at (total_weight old) inputs p * price_of pricing from n) b.2) in
      omega (arith, ints, le, price, alpha-place p a_at.0 a.0 a.1 a.2, ap (beta_of c.beta) (sym b.2), beta-at listed_at.0 b.0 b.1)

  -- a broken pair contradicts the slack of the points
  pub broken_contradicts : (pair : (GroupKey × ℤ) × (List ℕ × ℤ)) → first_broken pricing c ≡ Some pair
      → ((p : ℕ) (from to : List ℕ) → at old p ≡ Some from → Contains (keys_of limits) to → is_forbidden pricing from to ≡ false → (alpha_at old inputs c.alpha p +ℤ beta_of c.beta to) ≤ℤ pos (inputs_at (total_weight old) inputs p * price_of pricing from to))
      → ⊥
  broken_contradicts pair found slack =
      let a = pair.0 in
      let b = pair.1 in
      let at_pair = find_at (is_broken pricing) (pairs_of c.alpha c.beta) pair found in
      let parts = pair_parts c.alpha c.beta at_pair.1.0 pair at_pair.1.1 in
      let tests = and_parts (not (is_forbidden pricing a.0.0 b.0)) (int_lt (pos (a.0.1 * price_of pricing a.0.0 b.0)) (a.1 +ℤ b.1)) at_pair.0 in
      let key_at = get-map (λ (e : GroupKey × ℤ). e.0) c.alpha parts.0.0 a parts.0.1 in
      let some = (groups.occur a.0).0 (contains_from_place (keys_of c.alpha) a.0 (parts.0.0, key_at)) in
      let point = count_some (λ q. is_same_group a.0 (group_at old inputs q)) (range_with_len 0 (total_weight old)) some in
      let p = point.1 in
      let key : a.0 ≡ group_at old inputs p = same_group a.0 (group_at old inputs p) point.3 in
      let below : p < total_weight old = omega (arith, range_place 0 (total_weight old) point.0 p point.2) in
      let from = at_below old p below in
      let name_is : a.0.0 ≡ from.0 = ap (λ (k : GroupKey). k.0) key ∙ ap (λ o. unwrap_or o []) from.1 in
      let count_is : a.0.1 ≡ inputs_at (total_weight old) inputs p = ap (λ (k : GroupKey). k.1) key in
      let name_at = get-map (λ (e : List ℕ × ℤ). e.0) c.beta parts.1.0 b parts.1.1 in
      let listed = contains_from_place (keys_of limits) b.0 (parts.1.0, ap (λ ks. slice_get ks parts.1.0) (sym names) ∙ name_at) in
      let free : is_forbidden pricing from.0 b.0 ≡ false = ap (λ n. is_forbidden pricing n b.0) (sym name_is) ∙ not-true (is_forbidden pricing a.0.0 b.0) tests.0 in
      let le = slack p from.0 b.0 from.1 listed free in
      let price : a.0.1 * price_of pricing a.0.0 b.0 ≡ inputs_at (total_weight old) inputs p * price_of pricing from.0 b.0 =
      ap (λ k. k * price_of pricing a.0.0 b.0) count_is ∙ ap (λ n. inputs_at (total_weight old) inputs p * price_of pricing n b.0) name_is in
      less_not (pos (a.0.1 * price_of pricing a.0.0 b.0)) (a.1 +ℤ b.1) tests.1 (omega (arith, ints, le, price, alpha-place p parts.0.0 a parts.0.1 key, beta-at parts.1.0 b parts.1.1))

  pub certified : (new : Entries) → Fits old new limits pricing → first_broken pricing c ≡ None → dual_sum old inputs limits c ≡ pos c.cost → cost_of old new inputs pricing ≡ c.cost → IsCertified old new limits pricing inputs c
  certified new fits none sum cost = record {
    fits = fits;
    groups = groups;
    names = names;
    dual = record {
      even = λ p q p_in q_in same_name same_count. ap (λ (o : Option (List ℕ)). unwrap_or (lookup (is_same_group (unwrap_or o [], inputs_at (total_weight old) inputs p)) c.alpha) (pos 0)) same_name
          ∙ ap (λ (n : ℕ). unwrap_or (lookup (is_same_group (unwrap_or (at old q) [], n)) c.alpha) (pos 0)) same_count;
      slack = slack_from none;
      sum = sum;
    };
    cost = cost;
  }

-- ---- a certified plan is least, and none is refused

pub least_from : (old new : Entries) (limits : Limits) (pricing : Pricing) (inputs : List (List ℕ)) (c : DualPrices) → 0 < total_weight old → AreLimits limits → IsCertified old new limits pricing inputs c → IsLeast old new limits pricing inputs
least_from old new limits pricing inputs c some lawful is = record {
  fits = is.fits;
  least = λ other fits. omega (arith, is.cost, weak_duality old other limits pricing inputs (alpha_at old inputs c.alpha) (beta_of c.beta) c.cost some lawful fits is.dual);
}

pub refused_not : (old new : Entries) (limits : Limits) (pricing : Pricing) (inputs : List (List ℕ)) (c : DualPrices) (fault : CheckFault) → AreLimits limits → fault ≢ WantOfMemory → Refuses old new limits pricing inputs c fault → IsCertified old new limits pricing inputs c → ⊥
refused_not old new limits pricing inputs c WantOfMemory lawful want refuses is = want refl
refused_not old new limits pricing inputs c Weight lawful want refuses is = refuses is.fits.weight
refused_not old new limits pricing inputs c Totals lawful want refuses is =
    ⊎_elim (λ (h : total_of new refuses.1.0 < low_of limits refuses.1.0). omega (arith, h, is.fits.low refuses.1.0)) (λ (h : high_of limits refuses.1.0 < total_of new refuses.1.0). omega (arith, h, is.fits.high refuses.1.0)) refuses.1.1
refused_not old new limits pricing inputs c (Forbidden p) lawful want refuses is = forbidden_at old new pricing p refuses.2 is.fits.allowed
refused_not old new limits pricing inputs c (Slack name count variant) lawful want refuses is =
    broken_contradicts old inputs limits pricing c is.groups lawful is.names (((string_bytes name, count), refuses.1.0), (string_bytes variant, refuses.1.1)) refuses.1.2 is.dual.slack
refused_not old new limits pricing inputs c Sum lawful want refuses is = refuses.2 is.dual.sum
refused_not old new limits pricing inputs c Cost lawful want refuses is = refuses.3 is.cost
refused_not old new limits pricing inputs c NotDeficient lawful want refuses is = refuses
refused_not old new limits pricing inputs c Groups lawful want refuses is = refuses.1 (is.groups, is.names)

-- ---- the sums, by the rows

pub dual_sum-is : (old : Entries) (inputs : List (List ℕ)) (limits : Limits) (c : DualPrices) (groups : List (GroupKey × ℕ)) → AreLimits limits → AreSizes old inputs groups → keys_of c.alpha ≡ keys_of groups → keys_of c.beta ≡ keys_of limits
    → dual_sum old inputs limits c ≡ (group_sum groups c.alpha +ℤ gains limits c.beta) +ℤ losses limits c.beta
dual_sum-is old inputs limits c groups lawful sizes keys names = omega (arith, ints, group_sum-is old inputs groups c.alpha sizes keys, names_sum-is limits c.beta lawful.rise names)

low-values : (limits : Limits) → sum_z (λ l. least_value l.1 (pos 1)) limits ≡ pos (sum_by (λ l. l.1.0) limits)
low-values [] = refl
low-values (l ∷ ls) = omega (arith, ints, low-values ls, sum_by-cons (λ (x : List ℕ × (ℕ × ℕ)). x.1.0) l ls)

ones : (xs : List (List ℕ)) → sum_z (λ (x : List ℕ). pos 1) xs ≡ pos (length xs)
ones [] = refl
ones (x ∷ xs) = omega (arith, ints, ones xs)

-- the low limits that a rule meets sum to at most its total
pub lows-fit : (old new : Entries) (limits : Limits) (pricing : Pricing) → AreLimits limits → Fits old new limits pricing → sum_by (λ l. l.1.0) limits ≤ total_weight old
lows-fit old new limits pricing lawful fits =
    let values = values-le limits new (λ n. pos 1) lawful.rise fits.low fits.high in
    let all : pos (sum_by (λ l. l.1.0) limits) ≤ℤ pos (length (points new)) = omega (arith, ints, values, low-values limits, ones (points new)) in
    omega (arith, ints, all, length-points new, fits.weight)

pub lows-view : (limits : List Limit) → sum_by (λ l. l.1.0) (limits_view limits) ≡ sum_by (λ l. l.low) limits
lows-view [] = refl
lows-view (l ∷ ls) = omega (arith, sum_by-cons (λ (x : List ℕ × (ℕ × ℕ)). x.1.0) (limit_view l) (limits_view ls), sum_by-cons (λ (x : Limit). x.low) l ls, lows-view ls)

pub same_lists : {A : Type 0} (same : A → A → Bool) (decides : (a b : A) → Decides (same a b) (a ≡ b)) (xs ys : List A) → pointwise same xs ys ≡ true → xs ≡ ys
same_lists same decides xs ys h = (slice_eq-Decides decides xs ys (pointwise same xs ys) refl).0 h

pub other_lists : {A : Type 0} (same : A → A → Bool) (decides : (a b : A) → Decides (same a b) (a ≡ b)) (xs ys : List A) → pointwise same xs ys ≡ false → xs ≡ ys → ⊥
other_lists same decides xs ys h is = false≢true (sym h ∙ (slice_eq-Decides decides xs ys (pointwise same xs ys) refl).1 is)

pub group_decides : (a b : GroupKey) → Decides (is_same_group a b) (a ≡ b)
group_decides a b = (same_group a b, λ is. ap (is_same_group a) (sym is) ∙ is_same_itself a)

pub fits_from : (old new : Entries) (limits : Limits) (pricing : Pricing) → total_weight new ≡ total_weight old → KeepsLimits new limits → first_forbidden_of old new pricing ≡ None → Fits old new limits pricing
fits_from old new limits pricing weight kept none = record { weight = weight; low = kept.low; high = kept.high; allowed = allowed_from old new pricing none }

-- ---- the same, over what was read

module _ (old : Entries) (inputs : List (List ℕ)) (limits read : Limits) (pricing : Pricing) (c : DualPrices) (alpha : List (GroupKey × ℤ)) (beta : List (List ℕ × ℤ)) (groups seen : List (GroupKey × ℕ))
    (limits_are : read ≡ limits) (alpha_is : alpha ≡ c.alpha) (beta_is : beta ≡ c.beta) (seen_is : seen ≡ groups) (sizes : AreSizes old inputs groups) (lawful : AreLimits limits) where
  groups_tested : pointwise is_same_group (keys_of alpha) (keys_of seen) ≡ pointwise is_same_group (keys_of c.alpha) (keys_of groups)
  groups_tested = ap (λ (rs : List (GroupKey × ℤ)). pointwise is_same_group (keys_of rs) (keys_of seen)) alpha_is ∙ ap (λ (gs : List (GroupKey × ℕ)). pointwise is_same_group (keys_of c.alpha) (keys_of gs)) seen_is

  names_tested : pointwise bytes_eq (keys_of beta) (keys_of read) ≡ pointwise bytes_eq (keys_of c.beta) (keys_of limits)
  names_tested = ap (λ (bs : List (List ℕ × ℤ)). pointwise bytes_eq (keys_of bs) (keys_of read)) beta_is ∙ ap (λ (ls : Limits). pointwise bytes_eq (keys_of c.beta) (keys_of ls)) limits_are

  pub refuse_groups : false ≡ pointwise is_same_group (keys_of alpha) (keys_of seen) → AreGroups old inputs (keys_of c.alpha) × (keys_of c.beta ≡ keys_of limits) → ⊥
  refuse_groups fails are = other_lists is_same_group group_decides (keys_of c.alpha) (keys_of groups) (sym (fails ∙ groups_tested)) (groups_only old inputs groups sizes (keys_of c.alpha) are.0)

  pub refuse_names : false ≡ pointwise bytes_eq (keys_of beta) (keys_of read) → AreGroups old inputs (keys_of c.alpha) × (keys_of c.beta ≡ keys_of limits) → ⊥
  refuse_names fails are = other_lists bytes_eq bytes_eq-Decides (keys_of c.beta) (keys_of limits) (sym (fails ∙ names_tested)) are.1

  keys_are : true ≡ pointwise is_same_group (keys_of alpha) (keys_of seen) → keys_of c.alpha ≡ keys_of groups
  keys_are passes = same_lists is_same_group group_decides (keys_of c.alpha) (keys_of groups) (sym (passes ∙ groups_tested))

  pub groups_exact : true ≡ pointwise is_same_group (keys_of alpha) (keys_of seen) → AreGroups old inputs (keys_of c.alpha)
  groups_exact passes = subst (λ (ks : List GroupKey). AreGroups old inputs ks) (sym (keys_are passes)) (groups_are old inputs groups sizes)

  pub names_exact : true ≡ pointwise bytes_eq (keys_of beta) (keys_of read) → keys_of c.beta ≡ keys_of limits
  names_exact passes = same_lists bytes_eq bytes_eq-Decides (keys_of c.beta) (keys_of limits) (sym (passes ∙ names_tested))

  pub first_is : find (is_broken pricing) (pairs_of alpha beta) ≡ first_broken pricing c
  first_is = ap (λ (rs : List (GroupKey × ℤ)). find (is_broken pricing) (pairs_of rs beta)) alpha_is ∙ ap (λ (bs : List (List ℕ × ℤ)). find (is_broken pricing) (pairs_of c.alpha bs)) beta_is

  pub sum_is : true ≡ pointwise is_same_group (keys_of alpha) (keys_of seen) → true ≡ pointwise bytes_eq (keys_of beta) (keys_of read)
      → ((group_sum seen alpha +ℤ gains read beta) +ℤ losses read beta) ≡ dual_sum old inputs limits c
  sum_is same_groups same_names =
      ap (λ (gs : List (GroupKey × ℕ)). (group_sum gs alpha +ℤ gains read beta) +ℤ losses read beta) seen_is
      ∙ (ap (λ (rs : List (GroupKey × ℤ)). (group_sum groups rs +ℤ gains read beta) +ℤ losses read beta) alpha_is
      ∙ (ap (λ (bs : List (List ℕ × ℤ)). (group_sum groups c.alpha +ℤ gains read bs) +ℤ losses read bs) beta_is
      ∙ (ap (λ (ls : Limits). (group_sum groups c.alpha +ℤ gains ls c.beta) +ℤ losses ls c.beta) limits_are
      ∙ sym (dual_sum-is old inputs limits c groups lawful sizes (keys_are same_groups) (names_exact same_names)))))

-- ---- from the parts to the whole

pub refuses_rule : (old new : Entries) (limits : Limits) (pricing : Pricing) (inputs : List (List ℕ)) (c : DualPrices) (fault : CheckFault) → RefusesRule old new limits pricing fault → Refuses old new limits pricing inputs c fault
refuses_rule old new limits pricing inputs c WantOfMemory h = tt
refuses_rule old new limits pricing inputs c Weight h = h
refuses_rule old new limits pricing inputs c Totals h = h
refuses_rule old new limits pricing inputs c (Forbidden p) h = h
refuses_rule old new limits pricing inputs c (Slack name count variant) h = absurd h
refuses_rule old new limits pricing inputs c Sum h = absurd h
refuses_rule old new limits pricing inputs c Cost h = absurd h
refuses_rule old new limits pricing inputs c NotDeficient h = absurd h
refuses_rule old new limits pricing inputs c Groups h = absurd h

pub refuses_duals : (old new : Entries) (limits : Limits) (pricing : Pricing) (inputs : List (List ℕ)) (c : DualPrices) (fault : CheckFault) → Fits old new limits pricing → RefusesDuals old limits pricing inputs c fault → Refuses old new limits pricing inputs c fault
refuses_duals old new limits pricing inputs c WantOfMemory fits h = tt
refuses_duals old new limits pricing inputs c Weight fits h = absurd h
refuses_duals old new limits pricing inputs c Totals fits h = absurd h
refuses_duals old new limits pricing inputs c (Forbidden p) fits h = absurd h
refuses_duals old new limits pricing inputs c (Slack name count variant) fits h = (record { fits = fits; groups = h.0; names = h.1 }, h.2)
refuses_duals old new limits pricing inputs c Sum fits h = (record { fits = fits; groups = h.0; names = h.1 }, h.2, h.3)
refuses_duals old new limits pricing inputs c Cost fits h = absurd h
refuses_duals old new limits pricing inputs c NotDeficient fits h = absurd h
refuses_duals old new limits pricing inputs c Groups fits h = (fits, h)

pub certified_duals : (old new : Entries) (limits : Limits) (pricing : Pricing) (inputs : List (List ℕ)) (c : DualPrices) → AreLimits limits → Fits old new limits pricing → AreDuals old limits pricing inputs c → cost_of old new inputs pricing ≡ c.cost → IsCertified old new limits pricing inputs c
certified_duals old new limits pricing inputs c lawful fits duals cost = certified old inputs limits pricing c duals.groups lawful duals.names new fits duals.unbroken duals.sum cost

-- a reported pair, with the groups and names exact
pub reported : (old : Entries) (limits : Limits) (pricing : Pricing) (inputs : List (List ℕ)) (c : DualPrices) (fault : CheckFault) → AreGroups old inputs (keys_of c.alpha) → keys_of c.beta ≡ keys_of limits → ReportsBroken (first_broken pricing c) fault → RefusesDuals old limits pricing inputs c fault
reported old limits pricing inputs c WantOfMemory groups names h = tt
reported old limits pricing inputs c Weight groups names h = absurd h
reported old limits pricing inputs c Totals groups names h = absurd h
reported old limits pricing inputs c (Forbidden p) groups names h = absurd h
reported old limits pricing inputs c (Slack name count variant) groups names h = (groups, names, h)
reported old limits pricing inputs c Sum groups names h = absurd h
reported old limits pricing inputs c Cost groups names h = absurd h
reported old limits pricing inputs c NotDeficient groups names h = absurd h
reported old limits pricing inputs c Groups groups names h = absurd h

-- what holds of a fault holds of the result that hands it on
pub err_exit : {T E : Type 0} (r : Result T E) (x : E) (A : T → Type 0) (P : E → Type 0) → IsErrAnd r (λ e. e ≡ x) → P x → MatchResult r A P
err_exit (Ok v) x A P is h = absurd is
err_exit (Err e) x A P is h = subst P (sym is) h
