-- Groups by their places: each is that of a point, so its name is one of the rule's, and its inputs are some of all.
use Rattle.std.proofs.Common.{◌≡◌, ℕ, zero, suc, ◌+◌, ◌<◌, ◌≤◌, ⊎_elim, List, [], ◌∷◌, length, get_or, replicate, Bool, true, false, cond, Some, Option, unwrap_or, count_by, sym, ap, ◌∙◌, subst, arith}
use Rattle.std.specs.List.{All, Contains, range_with_len, slice_get}
use Rattle.std.specs.Map.{keys_of}
use Rattle.std.proofs.lemmas.Bool.{cases_Bool, cond-false}
use Rattle.std.proofs.lemmas.List.Elements.{All-append, All-nil, All-replicate, All-head, All-tail}
use Rattle.std.proofs.lemmas.List.Sums.{sum_by-cons}
use Rattle.std.proofs.lemmas.Option.{slice_get-get_or, get_or_from_slice_get}
use Rattle.bucket_core.specs.Rule.{Entries, total_weight, points}
use Rattle.transport_core.specs.Groups.{GroupKey, is_same_group, group_by, group_cmp, size_by, AreSizesBy}
use Rattle.transport_core.proofs.Members.{lookup_place, place_below}
use Rattle.transport_core.proofs.Placed.{same_group, is_same_itself, group_order}
use Rattle.transport_core.proofs.Points.{at_below}

-- what is counted in a range is somewhere
some_point : (test : ℕ → Bool) (a n : ℕ) → 0 < count_by test (range_with_len a n) → (p : ℕ) × (p < a + n) × (test p ≡ true)
some_point test a zero some = absurd (omega arith)
some_point test a (suc n) some =
    let cons = sum_by-cons (λ p. cond (test p) 1 0) a (range_with_len (a + 1) n) in
    ⊎_elim
    (λ (yes : test a ≡ true). (a, omega arith, yes))
    (λ (no : test a ≡ false).
    let later = some_point test (a + 1) n (omega (arith, some, cons, cond-false {A = ℕ} (test a) 1 0 no)) in
    (later.0, omega (arith, later.1), later.2))
    (cases_Bool (test a))

-- what holds of a rule's names holds of its points'
points_all : (P : List ℕ → Type 0) (r : Entries) → All P (keys_of r) → All P (points r)
unfolding points
points_all P [] all = All-nil P
points_all P (e ∷ es) all = All-append P (replicate e.1 e.0) (points es) (All-replicate P e.1 e.0 (All-head P e.0 (keys_of es) all)) (points_all P es (All-tail P e.0 (keys_of es) all))

module _ (old : Entries) (load : ℕ → ℕ) (groups : List (GroupKey × ℕ)) (sizes : AreSizesBy old load groups) where
  -- the number of a group is that of its points
  pub size_here : (i : ℕ) (g : GroupKey × ℕ) → slice_get groups i ≡ Some g → g.1 ≡ size_by old load g.0
  size_here i g is = ap (λ (o : Option ℕ). unwrap_or o 0) (sym (lookup_place is_same_group same_group is_same_itself group_cmp group_order groups i g sizes.rise is)) ∙ sizes.sizes g.0

  -- a group has a point
  pub point_of_group : (i : ℕ) (d : GroupKey × ℕ) → i < length groups → (p : ℕ) × (p < total_weight old) × (is_same_group (get_or groups i d).0 (group_by old load p) ≡ true)
  point_of_group i d below =
      let g = get_or groups i d in
      let here = size_here i g (slice_get-get_or groups i d below) in
      let found = some_point (λ p. is_same_group g.0 (group_by old load p)) 0 (total_weight old) (omega (arith, here, sizes.some i d below)) in
      (found.0, omega (arith, found.1), found.2)

  pub listed_groups : (names : List (List ℕ)) → All (Contains names) (keys_of old) → All (λ (g : GroupKey × ℕ). Contains names g.0.0) groups
  listed_groups names all i d below =
      let g = get_or groups i d in
      let found = point_of_group i d below in
      let name = at_below old found.0 found.1 in
      let is : g.0.0 ≡ name.0 = ap (λ (k : GroupKey). k.0) (same_group g.0 (group_by old load found.0) found.2) ∙ ap (λ (o : Option (List ℕ)). unwrap_or o []) name.1 in
      let stands = place_below (points old) found.0 name.0 name.1 in
      let one : Contains names (get_or (points old) found.0 []) = points_all (Contains names) old all found.0 [] stands in
      subst (Contains names) (get_or_from_slice_get (points old) found.0 name.0 [] name.1 ∙ sym is) one

  pub few_inputs : (most : ℕ) → ((p : ℕ) → load p ≤ most) → All (λ (g : GroupKey × ℕ). g.0.1 ≤ most) groups
  few_inputs most few i d below =
      let g = get_or groups i d in
      let found = point_of_group i d below in
      let count : g.0.1 ≡ load found.0 = ap (λ (k : GroupKey). k.1) (same_group g.0 (group_by old load found.0) found.2) in
      omega (arith, count, few found.0)
