-- Complementary slackness: a flow that uses tight arcs alone, with dual prices of names that are on the side of their limits, costs
-- what the dual prices prove (Ahuja, Magnanti, Orlin, Network Flows, section 9.4).
use Rattle.std.proofs.Common.{◌≡◌, ⊎_elim, ℕ, zero, suc, ◌+◌, ◌*◌, ◌<◌, ◌≤◌, ℤ, pos, negsuc, neg_ℤ, ◌+ℤ◌, ◌*ℤ◌, ◌≤ℤ◌, List, [], ◌∷◌, map, length, take, drop, replicate, true, refl, ap, ◌∙◌, arith}
use Rattle.std.proofs.Math.IntN.{*ℤ-zero}
use Rattle.std.proofs.lemmas.Bool.{cases_lt}
use Rattle.std.proofs.lemmas.Int.{ints, clamps}
use Rattle.std.specs.Int.{int_max, int_min}
use Rattle.std.specs.List.{sum}
use Rattle.std.specs.Map.{keys_of}
use Rattle.std.proofs.lemmas.List.{length-take-le, length-replicate}
use Rattle.std.proofs.lemmas.List.Sums.{sum_by-cons}
use Rattle.price_core.specs.Limits.{Limits}
use Rattle.price_core.specs.Pricing.{Pricing, price_of}
use Rattle.transport_core.specs.Assignment.{Arc, row_flows, arc_flows, spends_all, flow_cost}
use Rattle.transport_core.specs.Certificate.{weighted, gains, losses}
use Rattle.transport_core.specs.Groups.{GroupKey}
use Rattle.transport_core.proofs.Arcs.{spends, sum_step}
use Rattle.transport_plan.specs.Slackness.{IsTightRow, AreTightRows, columns, plus, AreBalanced}

-- ---- products

pub add-times : (m n : ℕ) (z : ℤ) → (pos (m + n) *ℤ z) ≡ (pos m *ℤ z) +ℤ (pos n *ℤ z)
add-times m n (pos b) = omega (arith, ints)
add-times m n (negsuc b) = omega (arith, ints)

pub times-add : (n : ℕ) (x y : ℤ) → (pos n *ℤ (x +ℤ y)) ≡ (pos n *ℤ x) +ℤ (pos n *ℤ y)
times-add zero x y = omega (arith, ints)
times-add (suc n) x y = omega (arith, ints, add-times 1 n x, add-times 1 n y, add-times 1 n (x +ℤ y), times-add n x y)

-- ---- one row

-- the dual price of a group at all its points, with those of the names at the points that they get, is what the points cost
pub row-pays : (pricing : Pricing) (g : GroupKey) (a : ℤ) (names : List (List ℕ)) (row : List ℕ) (beta : List ℤ) → length row ≡ length names → length beta ≡ length names → IsTightRow pricing g a names row beta
    → ((pos (sum row) *ℤ a) +ℤ weighted row beta) ≡ pos (flow_cost pricing (row_flows g names row))
row-pays pricing g a [] [] beta wide priced tight = omega (arith, ints)
row-pays pricing g a [] (k ∷ row) beta wide priced tight = absurd (omega (arith, wide))
row-pays pricing g a (n ∷ names) [] beta wide priced tight = absurd (omega (arith, wide))
row-pays pricing g a (n ∷ names) (k ∷ row) [] wide priced tight = absurd (omega (arith, priced))
row-pays pricing g a (n ∷ names) (zero ∷ row) (b ∷ beta) wide priced tight =
    omega (arith, ints, row-pays pricing g a names row beta (omega (arith, wide)) (omega (arith, priced)) tight.1, sum_by-cons (λ (m : ℕ). m) 0 row, sum_by-cons (λ (f : Arc × ℕ). f.1 * (f.0.0.1 * price_of pricing f.0.0.0 f.0.1)) ((g, n), 0) (row_flows g names row))
row-pays pricing g a (n ∷ names) (suc k ∷ row) (b ∷ beta) wide priced tight =
    let c = g.1 * price_of pricing g.0 n in
    let is : (a +ℤ b) ≡ pos c = tight.0 (omega arith) in
    let product : (pos (suc k) *ℤ (a +ℤ b)) ≡ pos (suc k * c) = ap (λ z. pos (suc k) *ℤ z) is in
    let whole : (pos (sum (suc k ∷ row)) *ℤ a) ≡ (pos (suc k + sum row) *ℤ a) = ap (λ m. pos m *ℤ a) (sum_by-cons (λ (m : ℕ). m) (suc k) row) in
    omega (
      arith,
      ints,
      product,
      whole,
      times-add (suc k) a b,
      add-times (suc k) (sum row) a,
      row-pays pricing g a names row beta (omega (arith, wide)) (omega (arith, priced)) tight.1,
      sum_by-cons (λ (m : ℕ). m) (suc k) row,
      sum_by-cons (λ (f : Arc × ℕ). f.1 * (f.0.0.1 * price_of pricing f.0.0.0 f.0.1)) ((g, n), suc k) (row_flows g names row),
    )

-- ---- all rows

pub length-plus : (xs ys : List ℕ) → length ys ≡ length xs → length (plus xs ys) ≡ length xs
length-plus [] ys same = refl
length-plus (x ∷ xs) [] same = absurd (omega (arith, same))
length-plus (x ∷ xs) (y ∷ ys) same = omega (arith, length-plus xs ys (omega (arith, same)))

pub length-columns : (groups : List (GroupKey × ℕ)) (width : ℕ) (numbers : List ℕ) → spends_all groups width numbers ≡ true → length (columns groups width numbers) ≡ width
length-columns [] width numbers spent = length-replicate width 0
length-columns (g ∷ gs) width numbers spent =
    let parts = spends g gs width numbers spent in
    let front = length-take-le width numbers parts.long in
    let rest = length-columns gs width (drop width numbers) parts.rest in
    omega (arith, length-plus (take width numbers) (columns gs width (drop width numbers)) (omega (arith, front, rest)), front)

pub weighted-plus : (xs ys : List ℕ) (zs : List ℤ) → length ys ≡ length xs → weighted (plus xs ys) zs ≡ weighted xs zs +ℤ weighted ys zs
weighted-plus [] [] zs same = omega (arith, ints)
weighted-plus [] (y ∷ ys) zs same = absurd (omega (arith, same))
weighted-plus (x ∷ xs) [] zs same = absurd (omega (arith, same))
weighted-plus (x ∷ xs) (y ∷ ys) [] same = omega (arith, ints)
weighted-plus (x ∷ xs) (y ∷ ys) (z ∷ zs) same = omega (arith, ints, add-times x y z, weighted-plus xs ys zs (omega (arith, same)))

pub weighted-none : (n : ℕ) (zs : List ℤ) → weighted (replicate n 0) zs ≡ pos 0
weighted-none zero zs = refl
weighted-none (suc n) [] = refl
weighted-none (suc n) (z ∷ zs) = omega (arith, ints, weighted-none n zs)

-- the dual prices of the groups at their points, with those of the names at their totals, are what all points cost
pub rows-pay : (pricing : Pricing) (groups : List (GroupKey × ℕ)) (alpha : List ℤ) (names : List (List ℕ)) (numbers : List ℕ) (beta : List ℤ) → length alpha ≡ length groups → length beta ≡ length names
    → spends_all groups (length names) numbers ≡ true → AreTightRows pricing groups alpha names (length names) numbers beta
    → (weighted (map (λ g. g.1) groups) alpha +ℤ weighted (columns groups (length names) numbers) beta) ≡ pos (flow_cost pricing (arc_flows (keys_of groups) names numbers))
rows-pay pricing [] alpha names numbers beta each priced spent tight = omega (arith, ints, weighted-none (length names) beta)
rows-pay pricing (g ∷ gs) [] names numbers beta each priced spent tight = absurd (omega (arith, each))
rows-pay pricing (g ∷ gs) (a ∷ alpha) names numbers beta each priced spent tight =
    let width = length names in
    let row = take width numbers in
    let more = drop width numbers in
    let parts = spends g gs width numbers spent in
    let wide : length row ≡ width = length-take-le width numbers parts.long in
    let cost : Arc × ℕ → ℕ = λ f. f.1 * (f.0.0.1 * price_of pricing f.0.0.0 f.0.1) in
    let step = sum_step cost g gs names width numbers row more refl refl refl in
    let here = row-pays pricing g.0 a names row beta wide priced tight.0 in
    let size : (pos (sum row) *ℤ a) ≡ (pos g.1 *ℤ a) = ap (λ m. pos m *ℤ a) parts.row in
    let rest = rows-pay pricing gs alpha names more beta (omega (arith, each)) priced parts.rest tight.1 in
    let split = weighted-plus row (columns gs width more) beta (omega (arith, wide, length-columns gs width more parts.rest)) in
    omega (arith, ints, step, here, size, rest, split)

-- ---- the names at their limits

pub at-limit : (low high total : ℕ) (b : ℤ) → low ≤ total → total ≤ high → (total < high → pos 0 ≤ℤ b) → (low < total → b ≤ℤ pos 0)
    → (pos total *ℤ b) ≡ (pos low *ℤ int_max b (pos 0)) +ℤ (pos high *ℤ int_min b (pos 0))
at-limit low high total (pos zero) from to room spare = omega (arith, ints)
at-limit low high total (pos (suc b)) from to room spare =
    let same : total ≡ low = ⊎_elim (λ (h : low < total). absurd (omega (arith, ints, spare h))) (λ (h : total ≤ low). omega arith) (cases_lt low total) in
    let more : int_max (pos (suc b)) (pos 0) ≡ pos (suc b) = omega (arith, ints, clamps) in
    let less : int_min (pos (suc b)) (pos 0) ≡ pos 0 = omega (arith, ints, clamps) in
    let left : (pos low *ℤ int_max (pos (suc b)) (pos 0)) ≡ pos (low * suc b) = ap (λ z. pos low *ℤ z) more in
    let right : (pos high *ℤ int_min (pos (suc b)) (pos 0)) ≡ pos 0 = ap (λ z. pos high *ℤ z) less ∙ *ℤ-zero (pos high) in
    let here : (pos total *ℤ pos (suc b)) ≡ pos (low * suc b) = ap (λ n. pos n *ℤ pos (suc b)) same in
    omega (arith, ints, left, right, here)
at-limit low high total (negsuc b) from to room spare =
    let same : total ≡ high = ⊎_elim (λ (h : total < high). absurd (omega (arith, ints, room h))) (λ (h : high ≤ total). omega arith) (cases_lt total high) in
    let left : (pos low *ℤ int_max (negsuc b) (pos 0)) ≡ pos 0 = *ℤ-zero (pos low) in
    let right : (pos high *ℤ int_min (negsuc b) (pos 0)) ≡ neg_ℤ (pos (high * suc b)) = refl in
    let here : (pos total *ℤ negsuc b) ≡ neg_ℤ (pos (high * suc b)) = ap (λ n. pos n *ℤ negsuc b) same in
    omega (arith, ints, left, right, here)

pub names-balance : (limits : Limits) (totals : List ℕ) (beta : List (List ℕ × ℤ)) → length totals ≡ length limits → length beta ≡ length limits → AreBalanced limits totals (map (λ b. b.1) beta)
    → weighted totals (map (λ b. b.1) beta) ≡ gains limits beta +ℤ losses limits beta
names-balance [] [] beta same each balanced = omega (arith, ints)
names-balance [] (t ∷ totals) beta same each balanced = absurd (omega (arith, same))
names-balance (l ∷ ls) [] beta same each balanced = absurd (omega (arith, same))
names-balance (l ∷ ls) (t ∷ totals) [] same each balanced = absurd (omega (arith, each))
names-balance (l ∷ ls) (t ∷ totals) (b ∷ beta) same each balanced =
    omega (arith, ints, at-limit l.1.0 l.1.1 t b.1 balanced.0 balanced.1 balanced.2 balanced.3, names-balance ls totals beta (omega (arith, same)) (omega (arith, each)) balanced.4)
