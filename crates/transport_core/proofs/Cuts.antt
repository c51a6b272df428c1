-- Where a set of names is deficient, no rule fits.
use Rattle.std.proofs.Common.{◌≡◌, ⊎_elim, ℕ, ◌≤◌, ℤ, pos, ◌*ℤ◌, ◌≤ℤ◌, neg_ℤ, List, [], ◌∷◌, Bool, true, false, ◌||◌, cond, Some, unwrap_or, refl, sym, ap, ◌∙◌, zero-add, arith}
use Rattle.std.proofs.lemmas.Bool.{or_cases, or_left, or_right, not_from_false}
use Rattle.std.proofs.lemmas.Int.{ints}
use Rattle.std.proofs.lemmas.Slice.Eq.{bytes_eq-Decides}
use Rattle.std.specs.List.{range_with_len, list_any}
use Rattle.std.specs.Str.{bytes_eq}
use Rattle.bucket_core.specs.Rule.{Entries, total_weight, points, at, total_of}
use Rattle.price_core.specs.Limits.{Limits, AreLimits, limits_of}
use Rattle.price_core.specs.Pricing.{Pricing, is_forbidden}
use Rattle.transport_core.specs.Deficient.{may_become, is_among, IsOver, IsUnder}
use Rattle.transport_core.specs.Fits.{Fits}
use Rattle.transport_core.specs.Sum.{sum_z}
use Rattle.transport_core.proofs.Duality.{sum_z-by_names}
use Rattle.transport_core.proofs.Keys.{limits_of-at}
use Rattle.transport_core.proofs.Points.{length-points, at_below}
use Rattle.transport_core.proofs.Sums.{sum_z-neg, sum_z-pos, sum_z-range, sum_z-le, sum_z-le_range}

-- sums over the points of two rules of one total, point by point
points-le : (old other : Entries) (f g : List ℕ → ℤ) → total_weight other ≡ total_weight old → ((p : ℕ) (from to : List ℕ) → at old p ≡ Some from → at other p ≡ Some to → f from ≤ℤ g to)
    → sum_z f (points old) ≤ℤ sum_z g (points other)
points-le old other f g weight le =
    let w = total_weight old in
    let name : Entries → ℕ → List ℕ = λ r p. unwrap_or (at r p) [] in
    let by_old = sum_z-range (λ p. f (name old p)) f 0 (points old) (λ k x is. ap (λ m. f (name old m)) (zero-add k) ∙ ap (λ o. f (unwrap_or o [])) is) in
    let by_other = sum_z-range (λ p. g (name other p)) g 0 (points other) (λ k x is. ap (λ m. g (name other m)) (zero-add k) ∙ ap (λ o. g (unwrap_or o [])) is) in
    let each = sum_z-le_range (λ p. f (name old p)) (λ p. g (name other p)) 0 w
    (λ p from to.
    let a = at_below old p (omega arith) in
    let b = at_below other p (omega (arith, weight)) in
    omega (arith, ints, le p a.0 b.0 a.1 b.1, ap (λ o. f (unwrap_or o [])) a.1, ap (λ o. g (unwrap_or o [])) b.1)) in
    let old_many = ap (λ n. sum_z (λ p. f (name old p)) (range_with_len 0 n)) (length-points old) in
    let other_many = ap (λ n. sum_z (λ p. g (name other p)) (range_with_len 0 n)) (length-points other ∙ weight) in
    omega (arith, ints, by_old, by_other, each, old_many, other_many)

one_le : (a b : Bool) → (a ≡ true → b ≡ true) → pos (cond a 1 0) ≤ℤ pos (cond b 1 0)
one_le true b next = omega (arith, ints, ap (λ (t : Bool). let n : ℕ = cond t 1 0 in n) (next refl))
one_le false b next = omega (arith, ints)

-- a member of the set that may become the name
pub reached : (pricing : Pricing) (names : List (List ℕ)) (from to : List ℕ) → is_forbidden pricing from to ≡ false → is_among names from ≡ true → list_any (λ a. may_become pricing a to) names ≡ true
reached pricing [] from to allowed among = among
reached pricing (a ∷ names) from to allowed among =
    ⊎_elim
    (λ (h : bytes_eq from a ≡ true). or_left (may_become pricing a to) (list_any (λ b. may_become pricing b to) names) (ap (λ b. may_become pricing b to) (sym ((bytes_eq-Decides from a).0 h)) ∙ not_from_false (is_forbidden pricing from to) allowed))
    (λ (h : list_any (bytes_eq from) names ≡ true). or_right (may_become pricing a to) (list_any (λ b. may_become pricing b to) names) (reached pricing names from to allowed h))
    (or_cases (bytes_eq from a) (list_any (bytes_eq from) names) among)

-- the name may become a member of the set
reaches : (pricing : Pricing) (names : List (List ℕ)) (from to : List ℕ) → is_forbidden pricing from to ≡ false → is_among names to ≡ true → list_any (may_become pricing from) names ≡ true
reaches pricing [] from to allowed among = among
reaches pricing (b ∷ names) from to allowed among =
    ⊎_elim
    (λ (h : bytes_eq to b ≡ true). or_left (may_become pricing from b) (list_any (may_become pricing from) names) (ap (may_become pricing from) (sym ((bytes_eq-Decides to b).0 h)) ∙ not_from_false (is_forbidden pricing from to) allowed))
    (λ (h : list_any (bytes_eq to) names ≡ true). or_right (may_become pricing from b) (list_any (may_become pricing from) names) (reaches pricing names from to allowed h))
    (or_cases (bytes_eq to b) (list_any (bytes_eq to) names) among)

total_at_most : (b : Bool) (total high : ℕ) → total ≤ high → (pos total *ℤ pos (cond b 1 0)) ≤ℤ pos (cond b high 0)
total_at_most true total high le = omega (arith, ints, le)
total_at_most false total high le = omega (arith, ints)

total_at_least : (b : Bool) (total low : ℕ) → low ≤ total → pos (cond b low 0) ≤ℤ (pos total *ℤ pos (cond b 1 0))
total_at_least true total low le = omega (arith, ints, le)
total_at_least false total low le = omega (arith, ints)

abbrev one_if : (List ℕ → Bool) → List ℕ → ℤ
one_if test name = pos (cond (test name) 1 0)

pub over_fits_none : (old other : Entries) (limits : Limits) (pricing : Pricing) (names : List (List ℕ)) → AreLimits limits → IsOver old limits pricing names → Fits old other limits pricing → ⊥
over_fits_none old other limits pricing names lawful over fits =
    let reach : List ℕ → Bool = λ v. list_any (λ a. may_become pricing a v) names in
    let moved = points-le old other (one_if (is_among names)) (one_if reach) fits.weight
    (λ p from to was is. one_le (is_among names from) (reach to) (reached pricing names from to (fits.allowed p from to was is))) in
    let named = sum_z-by_names limits other (one_if reach) lawful.rise fits.high in
    let most = sum_z-le (λ l. pos (total_of other l.0) *ℤ one_if reach l.0) (λ l. pos (cond (reach l.0) l.1.1 0)) limits
    (λ k l is.
    let found : limits_of limits l.0 ≡ l.1 = ap (λ o. unwrap_or o (0, 0)) (limits_of-at limits k l lawful.rise is) in
    total_at_most (reach l.0) (total_of other l.0) l.1.1 (omega (arith, fits.high l.0, ap (λ m. m.1) found))) in
    let counted = sum_z-pos (λ n. cond (is_among names n) 1 0) (points old) in
    let summed = sum_z-pos (λ (l : List ℕ × (ℕ × ℕ)). cond (reach l.0) l.1.1 0) limits in
    absurd (omega (arith, ints, moved, named, most, counted, summed, over.more))

pub under_fits_none : (old other : Entries) (limits : Limits) (pricing : Pricing) (names : List (List ℕ)) → AreLimits limits → IsUnder old limits pricing names → Fits old other limits pricing → ⊥
under_fits_none old other limits pricing names lawful under fits =
    let from_here : List ℕ → Bool = λ a. is_among names a || list_any (may_become pricing a) names in
    let is_to : List ℕ → Bool = is_among names in
    let negative : List ℕ → ℤ = λ n. neg_ℤ (one_if from_here n) in
    let moved = points-le old other negative (λ n. neg_ℤ (one_if is_to n)) fits.weight
    (λ p from to was is.
    let le = one_le (is_to to) (from_here from) (λ h. or_right (is_among names from) (list_any (may_become pricing from) names) (reaches pricing names from to (fits.allowed p from to was is) h)) in
    omega (arith, ints, le)) in
    let old_turned = sum_z-neg (one_if from_here) (points old) in
    let new_turned = sum_z-neg (one_if is_to) (points other) in
    let named = sum_z-by_names limits other (one_if is_to) lawful.rise fits.high in
    let least = sum_z-le (λ l. pos (cond (is_to l.0) l.1.0 0)) (λ l. pos (total_of other l.0) *ℤ one_if is_to l.0) limits
    (λ k l is.
    let found : limits_of limits l.0 ≡ l.1 = ap (λ o. unwrap_or o (0, 0)) (limits_of-at limits k l lawful.rise is) in
    total_at_least (is_to l.0) (total_of other l.0) l.1.0 (omega (arith, fits.low l.0, ap (λ m. m.0) found))) in
    let counted = sum_z-pos (λ n. cond (from_here n) 1 0) (points old) in
    let summed = sum_z-pos (λ (l : List ℕ × (ℕ × ℕ)). cond (is_to l.0) l.1.0 0) limits in
    absurd (omega (arith, ints, moved, old_turned, new_turned, named, least, counted, summed, under.fewer))
