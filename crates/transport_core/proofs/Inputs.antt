-- The inputs of all groups' points are all inputs, since each falls on one point.
use Rattle.std.proofs.Common.{◌≡◌, ℕ, suc, ◌+◌, ◌*◌, ◌<◌, ℤ, pos, ◌*ℤ◌, List, [], ◌∷◌, length, sum, sum_by, true, Some, refl, sym, ap, ◌∙◌, arith}
use Rattle.std.proofs.lemmas.Int.{ints}
use Rattle.std.proofs.lemmas.List.Sums.{sum_by-cons}
use Rattle.std.proofs.lemmas.Map.Keys.{any_passes_from_place}
use Rattle.std.specs.List.{list_any, range_with_len, slice_get}
use Rattle.std.specs.Map.{keys_of}
use Rattle.std.specs.Prelude.{◌==◌}
use Rattle.bucket_core.specs.Point.{point_of}
use Rattle.bucket_core.specs.Rule.{Entries, total_weight}
use Rattle.transport_core.specs.Dual.{inputs_at}
use Rattle.transport_core.specs.Groups.{GroupKey, is_same_group, group_cmp, group_by, size_by, AreSizesBy}
use Rattle.transport_core.specs.Sum.{sum_z}
use Rattle.transport_core.proofs.DualSums.{group_stands, range_place, size-some, stands_group}
use Rattle.transport_core.proofs.Keys.{once_in_sorted}
use Rattle.transport_core.proofs.Placed.{same_group, is_same_itself, group_order}
use Rattle.transport_core.proofs.Points.{point_of-below}
use Rattle.transport_core.proofs.Regroup.{PicksOne, regroup, picks_one, once_in_range}
use Rattle.transport_core.proofs.Sums.{sum_z-pos, sum_z-same}

one_each : {X : Type 0} (xs : List X) → sum_z (λ (x : X). pos 1) xs ≡ pos (length xs)
one_each [] = refl
one_each (x ∷ xs) = omega (arith, ints, one_each xs)

pub sum_placed : {X : Type 0} (f g : X → ℤ) (xs : List X) → ((k : ℕ) (x : X) → slice_get xs k ≡ Some x → f x ≡ g x) → sum_z f xs ≡ sum_z g xs
sum_placed f g [] same = refl
sum_placed f g (x ∷ xs) same = omega (arith, ints, same 0 x refl, sum_placed f g xs (λ k. same (suc k)))

once : (z : ℤ) → z *ℤ pos 1 ≡ z
once z = omega (arith, ints)

turned : (a b : ℕ) → pos a *ℤ pos b ≡ pos (b * a)
turned a b = ap pos (swapped a b)
  where
    swapped : (a b : ℕ) → a * b ≡ b * a
    swapped a b = omega arith

-- the inputs at all points
pub points_inputs : (total : ℕ) (inputs : List (List ℕ)) → 0 < total → sum_z (λ p. pos (inputs_at total inputs p)) (range_with_len 0 total) ≡ pos (length inputs)
points_inputs total inputs some =
    let range = range_with_len 0 total in
    let picks : (i : ℕ) (k : List ℕ) → slice_get inputs i ≡ Some k → PicksOne (λ p. point_of total k == p) range (λ (p : ℕ). pos 1) (pos 1) =
    λ i k is. picks_one (λ p. point_of total k == p) (λ (p : ℕ). pos 1) (pos 1) range (once_in_range (point_of total k) 0 total (omega arith) (omega (arith, point_of-below total k some))) (λ p h. refl) in
    sum_z-same (λ p. pos (inputs_at total inputs p)) (λ p. pos (inputs_at total inputs p) *ℤ pos 1) range (λ p. sym (once (pos (inputs_at total inputs p))))
    ∙ (sym (regroup (λ k p. point_of total k == p) (λ (p : ℕ). pos 1) (λ (k : List ℕ). pos 1) range inputs picks) ∙ one_each inputs)

-- the inputs of all groups' points, of which so many fall on each point
pub group_inputs : (old : Entries) (load : ℕ → ℕ) (groups : List (GroupKey × ℕ)) → AreSizesBy old load groups → sum_by (λ g. g.0.1 * g.1) groups ≡ sum_by load (range_with_len 0 (total_weight old))
group_inputs old load groups sizes =
    let Row : Type 0 = GroupKey × ℕ in
    let total = total_weight old in
    let range = range_with_len 0 total in
    let at_point : ℕ → GroupKey = group_by old load in
    let picks : (i p : ℕ) → slice_get range i ≡ Some p → PicksOne (λ (e : Row). is_same_group e.0 (at_point p)) groups (λ e. pos e.0.1) (pos (load p)) =
    λ i p is.
    let stands = group_stands old load groups sizes (at_point p) (size-some old load p (omega (arith, range_place 0 total i p is))) in
    let found : list_any (λ k. is_same_group k (at_point p)) (keys_of groups) ≡ true =
    any_passes_from_place (λ k. is_same_group k (at_point p)) (keys_of groups) stands.0 (at_point p) stands.1 (is_same_itself (at_point p)) in
    let one = once_in_sorted group_cmp group_order (λ (e : Row). e.0) (λ k. is_same_group k (at_point p)) (at_point p) (λ k h. same_group k (at_point p) h) groups sizes.rise found in
    picks_one (λ (e : Row). is_same_group e.0 (at_point p)) (λ e. pos e.0.1) (pos (load p)) groups one (λ e h. ap (λ (k : GroupKey). pos k.1) (same_group e.0 (at_point p) h)) in
    let all = regroup (λ p (e : Row). is_same_group e.0 (at_point p)) (λ e. pos e.0.1) (λ p. pos (load p)) groups range picks in
    let each = sum_placed (λ (e : Row). pos (size_by old load e.0) *ℤ pos e.0.1) (λ e. pos (e.0.1 * e.1)) groups
    (λ k e is. ap (λ n. pos n *ℤ pos e.0.1) (stands_group old load groups sizes k e is) ∙ turned e.1 e.0.1) in
    whole (sym (sum_z-pos (λ (e : Row). e.0.1 * e.1) groups) ∙ (sym each ∙ (sym all ∙ sum_z-pos load range)))
  where
    whole : {a b : ℕ} → pos a ≡ pos b → a ≡ b
    whole same = cc

-- what falls on each point, in a list, and at all
pub sum_places : (a : ℕ) (counts : List ℕ) (load : ℕ → ℕ) → ((k count : ℕ) → slice_get counts k ≡ Some count → load (a + k) ≡ count) → sum_by load (range_with_len a (length counts)) ≡ sum counts
sum_places a [] load same = refl
sum_places a (count ∷ counts) load same =
    let here : load a ≡ count = ap load (omega arith) ∙ same 0 count refl in
    let rest = sum_places (a + 1) counts load (λ k n is. ap load (omega arith) ∙ same (suc k) n is) in
    omega (arith, here, rest, sum_by-cons load a (range_with_len (a + 1) (length counts)), sum_by-cons (λ n. n) count counts)
