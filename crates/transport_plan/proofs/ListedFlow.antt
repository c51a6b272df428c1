-- Facts of a flow by number, as facts of its list of numbers by rows and columns.
use Rattle.std.proofs.Common.{◌≡◌, ◌==◌, ◌&&◌, ℕ, zero, suc, ◌+◌, ◌*◌, ◌<◌, ◌≤◌, ℤ, pos, ◌+ℤ◌, ◌≤ℤ◌, List, [], ◌∷◌, length, length-drop, take, drop, get_or, replicate, true, false, refl, ap, ◌∙◌, arith}
use Rattle.std.specs.Prelude.{nat_le, sum}
use Rattle.std.proofs.lemmas.Bool.{and_from, eq-eqb, le-leb}
use Rattle.std.proofs.lemmas.List.{get_or-take, get_or-drop, length-take-le}
use Rattle.std.proofs.lemmas.List.Sums.{sum_by-cons}
use Rattle.price_core.specs.Limits.{Limits}
use Rattle.price_core.specs.Pricing.{Pricing, is_forbidden}
use Rattle.transport_core.specs.Assignment.{spends_all}
use Rattle.transport_core.specs.Groups.{GroupKey}
use Rattle.transport_core.proofs.Arcs.{spends}
use Rattle.transport_plan.specs.Slackness.{AreBalanced, AreOptimalRows, charge, columns, plus}
use Rattle.transport_plan.proofs.Slackness.{length-columns}
use Rattle.min_cost_flow.specs.Problem.{sum_to}

pub sum_front : (n : ℕ) (f : ℕ → ℕ) → sum_to (suc n) f ≡ f 0 + sum_to n (λ i. f (suc i))
sum_front zero f = omega arith
sum_front (suc n) f = omega (arith, sum_front n f)

sum_cons : (x : ℕ) (xs : List ℕ) → sum (x ∷ xs) ≡ x + sum xs
sum_cons x xs = sum_by-cons (λ (y : ℕ). y) x xs

-- the first numbers of a list sum to what they do by number
sum_take : (k : ℕ) (xs : List ℕ) → k ≤ length xs → sum (take k xs) ≡ sum_to k (λ v. get_or xs v 0)
sum_take zero xs few = refl
sum_take (suc k) [] few = absurd (omega (arith, few))
sum_take (suc k) (x ∷ xs) few = omega (arith, sum_cons x (take k xs), sum_take k xs (omega (arith, few)), sum_front k (λ v. get_or (x ∷ xs) v 0))

-- the numbers of the groups after the first
pub later : {X : Type 0} (k g v : ℕ) (numbers : List X) (d : X) → get_or (drop k numbers) (g * k + v) d ≡ get_or numbers (suc g * k + v) d
later k g v numbers d = get_or-drop k numbers (g * k + v) d ∙ ap (λ i. get_or numbers i d) (same k g v)
  where
    same : (k g v : ℕ) → k + (g * k + v) ≡ suc g * k + v
    same k g v = omega arith

sum_by_number : (n : ℕ) (f g : ℕ → ℕ) → ((i : ℕ) → i < n → f i ≡ g i) → sum_to n f ≡ sum_to n g
sum_by_number zero f g same = refl
sum_by_number (suc n) f g same = omega (arith, sum_by_number n f g (λ i below. same i (omega (arith, below))), same n (omega arith))

wide_enough : {X : Type 0} {Y : Type 0} (k : ℕ) (numbers : List X) (g : Y) (gs : List Y) → length numbers ≡ length (g ∷ gs) * k → (k ≤ length numbers) × (length (drop k numbers) ≡ length gs * k)
wide_enough k numbers g gs size = (omega (arith, size), omega (arith, size, length-drop k numbers))

-- each group's numbers sum to its points
pub spent_all : (gs : List (GroupKey × ℕ)) (d : GroupKey × ℕ) (k : ℕ) (numbers : List ℕ) → length numbers ≡ length gs * k → ((g : ℕ) → g < length gs → sum_to k (λ v. get_or numbers (g * k + v) 0) ≡ (get_or gs g d).1) → spends_all gs k numbers ≡ true
spent_all [] d k numbers size each = eq-eqb (length numbers) 0 (omega (arith, size))
spent_all (g ∷ gs) d k numbers size each =
    let w = wide_enough k numbers g gs size in
    let first : sum (take k numbers) ≡ g.1 = sum_take k numbers w.0 ∙ (sum_by_number k (λ v. get_or numbers v 0) (λ v. get_or numbers (0 * k + v) 0) (λ v _. ap (λ i. get_or numbers i 0) (front k v)) ∙ each 0 (omega arith)) in
    let rest = spent_all gs d k (drop k numbers) w.1 (λ h h_in. sum_by_number k (λ v. get_or (drop k numbers) (h * k + v) 0) (λ v. get_or numbers (suc h * k + v) 0) (λ v _. later k h v numbers 0) ∙ each (suc h) (omega (arith, h_in))) in
    and_from (nat_le k (length numbers)) ((sum (take k numbers) == g.1) && spends_all gs k (drop k numbers)) (le-leb k (length numbers) w.0)
    (and_from (sum (take k numbers) == g.1) (spends_all gs k (drop k numbers)) (eq-eqb (sum (take k numbers)) g.1 first) rest)
  where
    front : (k v : ℕ) → v ≡ 0 * k + v
    front k v = omega arith

get-plus : (xs ys : List ℕ) (v : ℕ) → length ys ≡ length xs → get_or (plus xs ys) v 0 ≡ get_or xs v 0 + get_or ys v 0
get-plus [] [] v same = refl
get-plus [] (y ∷ ys) v same = absurd (omega (arith, same))
get-plus (x ∷ xs) [] v same = absurd (omega (arith, same))
get-plus (x ∷ xs) (y ∷ ys) zero same = refl
get-plus (x ∷ xs) (y ∷ ys) (suc v) same = get-plus xs ys v (omega (arith, same))

get-none : (n v : ℕ) → get_or {A = ℕ} (replicate n 0) v 0 ≡ 0
get-none zero v = refl
get-none (suc n) zero = refl
get-none (suc n) (suc v) = get-none n v

-- the sums of the columns, by number
pub column_is : (gs : List (GroupKey × ℕ)) (k : ℕ) (numbers : List ℕ) (v : ℕ) → v < k → length numbers ≡ length gs * k → spends_all gs k numbers ≡ true → get_or (columns gs k numbers) v 0 ≡ sum_to (length gs) (λ g. get_or numbers (g * k + v) 0)
column_is [] k numbers v v_in size spent = get-none k v
column_is (g ∷ gs) k numbers v v_in size spent =
    let w = wide_enough k numbers g gs size in
    let parts = spends g gs k numbers spent in
    let wide : length (take k numbers) ≡ k = length-take-le k numbers w.0 in
    let split = get-plus (take k numbers) (columns gs k (drop k numbers)) v (omega (arith, wide, length-columns gs k (drop k numbers) parts.rest)) in
    let rest = column_is gs k (drop k numbers) v v_in w.1 parts.rest in
    let here : get_or (take k numbers) v 0 ≡ get_or numbers (0 * k + v) 0 = get_or-take k numbers v 0 v_in ∙ ap (λ i. get_or numbers i 0) (front k v) in
    omega (
      arith,
      split,
      here,
      rest,
      sum_by_number (length gs) (λ h. get_or (drop k numbers) (h * k + v) 0) (λ h. get_or numbers (suc h * k + v) 0) (λ h _. later k h v numbers 0),
      sum_front (length gs) (λ h. get_or numbers (h * k + v) 0),
    )
  where
    front : (k v : ℕ) → v ≡ 0 * k + v
    front k v = omega arith

-- no point has changed against a prohibition, and none has a cheaper place, by number
pub record IsOptimalAt (pricing : Pricing) (gs : List (GroupKey × ℕ)) (d : GroupKey × ℕ) (names : List (List ℕ)) (k : ℕ) (numbers : List ℕ) (beta : List ℤ) : Type 0 where
  pub free : (g v : ℕ) → g < length gs → v < length names → 0 < get_or numbers (g * k + v) 0 → is_forbidden pricing (get_or gs g d).0.0 (get_or names v []) ≡ false
  pub cheapest : (g v w : ℕ) → g < length gs → v < length names → w < length names → 0 < get_or numbers (g * k + v) 0 → is_forbidden pricing (get_or gs g d).0.0 (get_or names w []) ≡ false
      → (charge pricing (get_or gs g d).0 names v +ℤ get_or beta w (pos 0)) ≤ℤ (charge pricing (get_or gs g d).0 names w +ℤ get_or beta v (pos 0))

pub optimal_rows : (pricing : Pricing) (gs : List (GroupKey × ℕ)) (d : GroupKey × ℕ) (names : List (List ℕ)) (k : ℕ) (numbers : List ℕ) (beta : List ℤ) → length names ≡ k → IsOptimalAt pricing gs d names k numbers beta → AreOptimalRows pricing gs names k numbers beta
optimal_rows pricing [] d names k numbers beta wide are = tt
optimal_rows pricing (g ∷ gs) d names k numbers beta wide are =
    let here : (v : ℕ) → v < length names → get_or (take k numbers) v 0 ≡ get_or numbers (0 * k + v) 0 = λ v v_in. get_or-take k numbers v 0 (omega (arith, v_in, wide)) ∙ ap (λ i. get_or numbers i 0) (front k v) in (
      record {
        free = λ v v_in some. are.free 0 v (omega arith) v_in (omega (arith, some, here v v_in));
        cheapest = λ v w v_in w_in some allowed. are.cheapest 0 v w (omega arith) v_in w_in (omega (arith, some, here v v_in)) allowed;
      },
      optimal_rows pricing gs d names k (drop k numbers) beta wide
          (record {
            free = λ h v h_in v_in some. are.free (suc h) v (omega (arith, h_in)) v_in (omega (arith, some, later k h v numbers 0));
            cheapest = λ h v w h_in v_in w_in some allowed. are.cheapest (suc h) v w (omega (arith, h_in)) v_in w_in (omega (arith, some, later k h v numbers 0)) allowed;
          }),
    )
  where
    front : (k v : ℕ) → v ≡ 0 * k + v
    front k v = omega arith

-- totals and dual prices on the side of their limits, by number
pub balanced : (ls : Limits) (d : List ℕ × (ℕ × ℕ)) (totals : List ℕ) (beta : List ℤ) → length totals ≡ length ls → length beta ≡ length ls
    → ((v : ℕ) → v < length ls → ((get_or ls v d).1.0 ≤ get_or totals v 0) × (get_or totals v 0 ≤ (get_or ls v d).1.1) × (get_or totals v 0 < (get_or ls v d).1.1 → pos 0 ≤ℤ get_or beta v (pos 0)) × ((get_or ls v d).1.0 < get_or totals v 0 → get_or beta v (pos 0) ≤ℤ pos 0))
    → AreBalanced ls totals beta
balanced [] d totals beta same each at = tt
balanced (l ∷ ls) d [] beta same each at = absurd (omega (arith, same))
balanced (l ∷ ls) d (t ∷ totals) [] same each at = absurd (omega (arith, each))
balanced (l ∷ ls) d (t ∷ totals) (b ∷ beta) same each at =
    let h = at 0 (omega arith) in
    (h.0, h.1, h.2, h.3, balanced ls d totals beta (omega (arith, same)) (omega (arith, each)) (λ v v_in. at (suc v) (omega (arith, v_in))))
