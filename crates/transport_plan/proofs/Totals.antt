-- The totals of the names are the sums of the columns.
use Rattle.std.proofs.Common.{◌≡◌, ℕ, zero, suc, ◌+◌, ◌<◌, ℤ, List, [], ◌∷◌, length, take, drop, get_or, replicate, true, refl, sym, arith}
use Rattle.std.specs.Cmp.Lexicographic.{slice_cmp}
use Rattle.std.specs.List.{list_all}
use Rattle.std.specs.List.Sorted.{IsStrictlySortedBy}
use Rattle.std.specs.Map.{keys_of}
use Rattle.std.specs.Ordering.{nat_cmp}
use Rattle.std.specs.Prelude.{nat_le, cond}
use Rattle.std.specs.Str.{bytes_eq}
use Rattle.std.proofs.lemmas.Bool.{and_from, le-leb}
use Rattle.std.proofs.lemmas.List.{length-take-le}
use Rattle.price_core.specs.Limits.{Limits}
use Rattle.transport_core.specs.Assignment.{Arc, arc_flows, spends_all, inflow}
use Rattle.transport_core.specs.Groups.{GroupKey}
use Rattle.transport_core.proofs.Arcs.{spends, sum_step, row_inflow}
use Rattle.transport_plan.specs.Slackness.{columns, plus, AreBalanced}
use Rattle.transport_plan.proofs.Slackness.{length-columns}

get-plus : (xs ys : List ℕ) (v : ℕ) → length ys ≡ length xs → get_or (plus xs ys) v 0 ≡ get_or xs v 0 + get_or ys v 0
get-plus [] [] v same = refl
get-plus [] (y ∷ ys) v same = absurd (omega (arith, same))
get-plus (x ∷ xs) [] v same = absurd (omega (arith, same))
get-plus (x ∷ xs) (y ∷ ys) zero same = refl
get-plus (x ∷ xs) (y ∷ ys) (suc v) same = get-plus xs ys v (omega (arith, same))

get-none : (n v : ℕ) → get_or {A = ℕ} (replicate n 0) v 0 ≡ 0
get-none zero v = refl
get-none (suc n) zero = refl
get-none (suc n) (suc v) = get-none n v

-- what flows to a name is the sum of its column
pub inflow-column : (groups : List (GroupKey × ℕ)) (names : List (List ℕ)) (numbers : List ℕ) (v : ℕ) → IsStrictlySortedBy (slice_cmp nat_cmp) names → v < length names → spends_all groups (length names) numbers ≡ true
    → inflow (arc_flows (keys_of groups) names numbers) (get_or names v []) ≡ get_or (columns groups (length names) numbers) v 0
inflow-column [] names numbers v rise below spent = sym (get-none (length names) v)
inflow-column (g ∷ gs) names numbers v rise below spent =
    let width = length names in
    let row = take width numbers in
    let more = drop width numbers in
    let name = get_or names v [] in
    let parts = spends g gs width numbers spent in
    let wide : length row ≡ width = length-take-le width numbers parts.long in
    let step = sum_step (λ (f : Arc × ℕ). cond (bytes_eq name f.0.1) f.1 0) g gs names width numbers row more refl refl refl in
    let here = row_inflow g.0 names row v rise below wide in
    let rest = inflow-column gs names more v rise below parts.rest in
    let split = get-plus row (columns gs width more) v (omega (arith, wide, length-columns gs width more parts.rest)) in
    omega (arith, step, here, rest, split)

-- totals within the limits
pub highs-kept : (limits : Limits) (totals : List ℕ) (beta : List ℤ) (bound : List ℕ → ℕ) → length totals ≡ length limits → length beta ≡ length limits → AreBalanced limits totals beta
    → ((v : ℕ) → v < length limits → bound (get_or (keys_of limits) v []) ≡ get_or totals v 0) → list_all (λ l. nat_le (bound l.0) l.1.1) limits ≡ true
highs-kept [] totals beta bound same each balanced are = refl
highs-kept (l ∷ ls) [] beta bound same each balanced are = absurd (omega (arith, same))
highs-kept (l ∷ ls) (t ∷ totals) [] bound same each balanced are = absurd (omega (arith, each))
highs-kept (l ∷ ls) (t ∷ totals) (b ∷ beta) bound same each balanced are =
    and_from (nat_le (bound l.0) l.1.1) (list_all (λ (x : List ℕ × (ℕ × ℕ)). nat_le (bound x.0) x.1.1) ls) (le-leb (bound l.0) l.1.1 (omega (arith, are 0 (omega arith), balanced.1)))
    (highs-kept ls totals beta bound (omega (arith, same)) (omega (arith, each)) balanced.4 (λ v below. are (suc v) (omega (arith, below))))

pub lows-kept : (limits : Limits) (totals : List ℕ) (beta : List ℤ) (bound : List ℕ → ℕ) → length totals ≡ length limits → length beta ≡ length limits → AreBalanced limits totals beta
    → ((v : ℕ) → v < length limits → bound (get_or (keys_of limits) v []) ≡ get_or totals v 0) → list_all (λ l. nat_le l.1.0 (bound l.0)) limits ≡ true
lows-kept [] totals beta bound same each balanced are = refl
lows-kept (l ∷ ls) [] beta bound same each balanced are = absurd (omega (arith, same))
lows-kept (l ∷ ls) (t ∷ totals) [] bound same each balanced are = absurd (omega (arith, each))
lows-kept (l ∷ ls) (t ∷ totals) (b ∷ beta) bound same each balanced are =
    and_from (nat_le l.1.0 (bound l.0)) (list_all (λ (x : List ℕ × (ℕ × ℕ)). nat_le x.1.0 (bound x.0)) ls) (le-leb l.1.0 (bound l.0) (omega (arith, are 0 (omega arith), balanced.0)))
    (lows-kept ls totals beta bound (omega (arith, same)) (omega (arith, each)) balanced.4 (λ v below. are (suc v) (omega (arith, below))))
