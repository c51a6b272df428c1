-- The sum of dual prices over the points and names, by the rows of a certificate.
use Rattle.std.proofs.Common.{◌≡◌, ⊎_elim, ℕ, zero, suc, ◌+◌, ◌<◌, ◌≤◌, ℤ, pos, ◌+ℤ◌, ◌*ℤ◌, List, [], ◌∷◌, get_or, true, Option, Some, None, unwrap_or, refl, sym, ap, ◌∙◌, subst, arith}
use Rattle.std.proofs.lemmas.Int.{ints}
use Rattle.std.proofs.lemmas.Bool.{cases_eq}
use Rattle.std.proofs.lemmas.Option.{get_or_from_slice_get}
use Rattle.std.proofs.lemmas.Map.Keys.{any_passes_from_place}
use Rattle.std.specs.Cmp.Lexicographic.{slice_cmp}
use Rattle.std.specs.List.{All, range_with_len, list_any, slice_get}
use Rattle.std.specs.List.Sorted.{IsStrictlySortedBy}
use Rattle.std.specs.Map.{keys_of, lookup}
use Rattle.std.specs.Ordering.{nat_cmp}
use Rattle.std.specs.Str.{bytes_eq}
use Rattle.std.proofs.lemmas.Cmp.{nat_list_cmp_total}
use Rattle.std.proofs.lemmas.Slice.Eq.{bytes_eq-Decides}
use Rattle.bucket_core.specs.Rule.{Entries, total_weight}
use Rattle.price_core.specs.Limits.{Limits}
use Rattle.transport_core.specs.Certificate.{alpha_at, beta_of, gains, losses, group_sum}
use Rattle.transport_core.specs.Dual.{inputs_at, least_value}
use Rattle.transport_core.specs.Groups.{GroupKey, is_same_group, group_cmp, group_at, group_by, size_by, size_of, AreGroups, AreSizes, AreSizesBy}
use Rattle.transport_core.specs.Sum.{sum_z}
use Rattle.transport_core.proofs.Keys.{once_in_sorted}
use Rattle.transport_core.proofs.Members.{Stands, place_below, contains_from_place, place_from_contains, found_place, lookup_place, entry_place, sorted_unique}
use Rattle.transport_core.proofs.Placed.{same_group, is_same_itself, group_order}
use Rattle.transport_core.proofs.Points.{counted}
use Rattle.transport_core.proofs.Regroup.{PicksOne, regroup, picks_one}

-- ---- groups by their places

pub range_place : (a n i p : ℕ) → slice_get (range_with_len a n) i ≡ Some p → p < a + n
range_place a zero i p is = cc
range_place a (suc n) zero p is = let here : a ≡ p = cc in omega (arith, here)
range_place a (suc n) (suc i) p is = omega (arith, range_place (a + 1) n i p is)

pub place_in_range : (a n p : ℕ) → a ≤ p → p < a + n → Stands (range_with_len a n) p
place_in_range a zero p low high = absurd (omega arith)
place_in_range a (suc n) p low high =
    ⊎_elim
    (λ (h : p ≡ a). (0, ap Some (sym h)))
    (λ (h : p ≡ a → ⊥). let rest = place_in_range (a + 1) n p (omega arith) (omega arith) in (suc (rest.0), rest.1))
    (cases_eq p a)

-- the group of a point has points
pub size-some : (old : Entries) (load : ℕ → ℕ) (p : ℕ) → p < total_weight old → 0 < size_by old load (group_by old load p)
size-some old load p below =
    let s = place_in_range 0 (total_weight old) p (omega arith) (omega arith) in
    let g = group_by old load p in
    counted (λ q. is_same_group g (group_by old load q)) (range_with_len 0 (total_weight old)) s.0 p s.1 (is_same_itself g)

all_placed : (groups : List (GroupKey × ℕ)) (i : ℕ) (e : GroupKey × ℕ) → All (λ r. 0 < r.1) groups → slice_get groups i ≡ Some e → 0 < e.1
all_placed groups i e all is =
    let below = place_below groups i e is in
    let at_place : get_or groups i e ≡ e = get_or_from_slice_get groups i e e is in
    omega (arith, all i e below, ap (λ r. r.1) at_place)

some_found : (o : Option ℕ) → 0 < unwrap_or o 0 → (n : ℕ) × (o ≡ Some n)
some_found None some = absurd (omega arith)
some_found (Some n) some = (n, refl)

module _ (old : Entries) (load : ℕ → ℕ) (groups : List (GroupKey × ℕ)) (sizes : AreSizesBy old load groups) where
  -- a group with points stands among the groups
  pub group_stands : (g : GroupKey) → 0 < size_by old load g → Stands (keys_of groups) g
  group_stands g some =
      let found = some_found (lookup (is_same_group g) groups) (omega (arith, some, sizes.sizes g)) in
      found_place is_same_group same_group is_same_itself groups g found.0 found.1

  -- what stands among the groups is one with its points
  pub stands_group : (i : ℕ) (e : GroupKey × ℕ) → slice_get groups i ≡ Some e → size_by old load e.0 ≡ e.1
  stands_group i e is = sym (sizes.sizes e.0) ∙ ap (λ o. unwrap_or o 0) (lookup_place is_same_group same_group is_same_itself group_cmp group_order groups i e sizes.rise is)

  pub stands_some : (g : GroupKey) → Stands (keys_of groups) g → 0 < size_by old load g
  stands_some g s =
      let entry = entry_place groups s.0 g s.1 in
      let below = place_below groups s.0 entry.0 entry.1 in
      let positive : 0 < entry.0.1 = all_placed groups s.0 entry.0 sizes.some entry.1 in
      omega (arith, stands_group s.0 entry.0 entry.1, positive, ap (size_by old load) entry.2)

module _ (old : Entries) (inputs : List (List ℕ)) (groups : List (GroupKey × ℕ)) (sizes : AreSizes old inputs groups) where
  pub groups_are : AreGroups old inputs (keys_of groups)
  groups_are = record {
    rise = sizes.rise;
    occur = λ g. (λ c. stands_some old (inputs_at (total_weight old) inputs) groups sizes g (place_from_contains (keys_of groups) g c), λ some. contains_from_place (keys_of groups) g (group_stands old (inputs_at (total_weight old) inputs) groups sizes g some));
  }

  -- only the groups' keys are exactly the groups
  pub groups_only : (keys : List GroupKey) → AreGroups old inputs keys → keys ≡ keys_of groups
  groups_only keys are =
      sorted_unique group_cmp group_order keys (keys_of groups) are.rise sizes.rise
      (λ g s. group_stands old (inputs_at (total_weight old) inputs) groups sizes g ((are.occur g).0 (contains_from_place keys g s)))
      (λ g s. place_from_contains keys g ((are.occur g).1 (stands_some old (inputs_at (total_weight old) inputs) groups sizes g s)))

-- ---- the sum over the points

zip_weighted : (gs : List (GroupKey × ℕ)) (vs : List (GroupKey × ℤ)) (n : GroupKey → ℕ) (f : GroupKey → ℤ) → keys_of vs ≡ keys_of gs → ((k : ℕ) (e : GroupKey × ℕ) → slice_get gs k ≡ Some e → n e.0 ≡ e.1) → ((k : ℕ) (e : GroupKey × ℤ) → slice_get vs k ≡ Some e → f e.0 ≡ e.1)
    → sum_z (λ e. pos (n e.0) *ℤ f e.0) vs ≡ group_sum gs vs
zip_weighted [] [] n f keys sizes values = refl
zip_weighted [] (a ∷ vs) n f keys sizes values = cc
zip_weighted (g ∷ gs) [] n f keys sizes values = cc
zip_weighted (g ∷ gs) (a ∷ vs) n f keys sizes values =
    let head : a.0 ≡ g.0 = cc in
    let tail : keys_of vs ≡ keys_of gs = cc in
    let size : n a.0 ≡ g.1 = ap n head ∙ sizes 0 g refl in
    let value : f a.0 ≡ a.1 = values 0 a refl in
    let here : (pos (n a.0) *ℤ f a.0) ≡ (pos g.1 *ℤ a.1) = ap (λ k. pos k *ℤ f a.0) size ∙ ap (λ z. pos g.1 *ℤ z) value in
    omega (arith, ints, here, zip_weighted gs vs n f tail (λ k. sizes (suc k)) (λ k. values (suc k)))

pub group_sum-is : (old : Entries) (inputs : List (List ℕ)) (groups : List (GroupKey × ℕ)) (alpha : List (GroupKey × ℤ)) → AreSizes old inputs groups → keys_of alpha ≡ keys_of groups
    → sum_z (alpha_at old inputs alpha) (range_with_len 0 (total_weight old)) ≡ group_sum groups alpha
group_sum-is old inputs groups alpha sizes keys =
    let range = range_with_len 0 (total_weight old) in
    let Row : Type 0 = GroupKey × ℤ in
    let f : GroupKey → ℤ = λ g. unwrap_or (lookup (is_same_group g) alpha) (pos 0) in
    let at_point : ℕ → GroupKey = group_at old inputs in
    let rise : IsStrictlySortedBy group_cmp (keys_of alpha) = subst (λ ks. IsStrictlySortedBy group_cmp ks) (sym keys) sizes.rise in
    let picks : (i p : ℕ) → slice_get range i ≡ Some p → PicksOne (λ (e : Row). is_same_group e.0 (at_point p)) alpha (λ e. f e.0) (f (at_point p)) =
    λ i p is.
    let stands = group_stands old (inputs_at (total_weight old) inputs) groups sizes (at_point p) (size-some old (inputs_at (total_weight old) inputs) p (omega (arith, range_place 0 (total_weight old) i p is))) in
    let some : list_any (λ k. is_same_group k (at_point p)) (keys_of alpha) ≡ true =
    any_passes_from_place (λ k. is_same_group k (at_point p)) (keys_of alpha) stands.0 (at_point p) (ap (λ ks. slice_get ks stands.0) keys ∙ stands.1) (is_same_itself (at_point p)) in
    let once = once_in_sorted group_cmp group_order (λ (e : Row). e.0) (λ k. is_same_group k (at_point p)) (at_point p) (λ k h. same_group k (at_point p) h) alpha rise some in
    picks_one (λ (e : Row). is_same_group e.0 (at_point p)) (λ e. f e.0) (f (at_point p)) alpha once (λ e h. ap f (same_group e.0 (at_point p) h)) in
    regroup (λ p (e : Row). is_same_group e.0 (at_point p)) (λ e. f e.0) (alpha_at old inputs alpha) alpha range picks
    ∙ zip_weighted groups alpha (size_of old inputs) f keys (stands_group old (inputs_at (total_weight old) inputs) groups sizes)
    (λ k e is. ap (λ o. unwrap_or o (pos 0)) (lookup_place is_same_group same_group is_same_itself group_cmp group_order alpha k e rise is))

-- ---- the sum over the names

zip_values : (limits : Limits) (beta : List (List ℕ × ℤ)) (f : List ℕ → ℤ) → keys_of beta ≡ keys_of limits → ((k : ℕ) (e : List ℕ × ℤ) → slice_get beta k ≡ Some e → f e.0 ≡ e.1)
    → sum_z (λ l. least_value l.1 (f l.0)) limits ≡ gains limits beta +ℤ losses limits beta
zip_values [] [] f keys values = refl
zip_values [] (b ∷ bs) f keys values = cc
zip_values (l ∷ ls) [] f keys values = cc
zip_values (l ∷ ls) (b ∷ bs) f keys values =
    let head : b.0 ≡ l.0 = cc in
    let tail : keys_of bs ≡ keys_of ls = cc in
    let value : f l.0 ≡ b.1 = ap f (sym head) ∙ values 0 b refl in
    let here : least_value l.1 (f l.0) ≡ least_value l.1 b.1 = ap (least_value l.1) value in
    omega (arith, ints, here, zip_values ls bs f tail (λ k. values (suc k)))

same_text : (a b : List ℕ) → bytes_eq a b ≡ true → a ≡ b
same_text a b = (bytes_eq-Decides a b).0

text_itself : (a : List ℕ) → bytes_eq a a ≡ true
text_itself a = (bytes_eq-Decides a a).1 refl

pub beta-place : (beta : List (List ℕ × ℤ)) (k : ℕ) (e : List ℕ × ℤ) → IsStrictlySortedBy (slice_cmp nat_cmp) (keys_of beta) → slice_get beta k ≡ Some e → beta_of beta e.0 ≡ e.1
beta-place beta k e rise is = ap (λ o. unwrap_or o (pos 0)) (lookup_place bytes_eq same_text text_itself (slice_cmp nat_cmp) nat_list_cmp_total beta k e rise is)

pub names_sum-is : (limits : Limits) (beta : List (List ℕ × ℤ)) → IsStrictlySortedBy (slice_cmp nat_cmp) (keys_of limits) → keys_of beta ≡ keys_of limits
    → sum_z (λ l. least_value l.1 (beta_of beta l.0)) limits ≡ gains limits beta +ℤ losses limits beta
names_sum-is limits beta rise keys =
    let rises : IsStrictlySortedBy (slice_cmp nat_cmp) (keys_of beta) = subst (λ ks. IsStrictlySortedBy (slice_cmp nat_cmp) ks) (sym keys) rise in
    zip_values limits beta (beta_of beta) keys (λ k e is. beta-place beta k e rises is)
