-- The rule whose points are dealt the numbers of an assignment has it.
use Rattle.std.proofs.Common.{◌≡◌, ◌==◌, ℕ, suc, ◌+◌, ◌<◌, ⊎_elim, List, [], ◌∷◌, length, get_or, sum_by, count_by, Bool, true, false, cond, Option, Some, unwrap_or, refl, sym, ap, ◌∙◌, subst, arith}
use Rattle.std.specs.List.{All, range_with_len, slice_get, zip}
use Rattle.std.specs.List.Sorted.{IsStrictlySortedBy}
use Rattle.std.specs.Map.{keys_of}
use Rattle.std.specs.declared.cmp.Ordering.TheVariants.{Less}
use Rattle.std.proofs.lemmas.Bool.{cases_order, eq-eqb, eqb-true}
use Rattle.std.proofs.lemmas.List.{get_or_default, length-map}
use Rattle.std.proofs.lemmas.List.Sums.{sum_by-cons}
use Rattle.std.proofs.lemmas.Map.Entries.{length-keys_of}
use Rattle.std.proofs.lemmas.Map.Keys.{Less-from_sorted}
use Rattle.std.proofs.lemmas.Option.{same_Some, slice_get-get_or, slice_get_within, get_or_from_slice_get}
use Rattle.bucket_core.specs.Rule.{Entries, total_weight, at, names_at}
use Rattle.bucket_core.specs.Rule.{points as points_of}
use Rattle.transport_core.specs.Assignment.{Arc, HasAssignment, is_same_arc, arc_at, arc_flows}
use Rattle.transport_core.specs.Groups.{GroupKey, AreSizesBy, is_same_group, group_at, group_by, group_cmp}
use Rattle.transport_core.specs.Rows.{amount_of}
use Rattle.transport_core.proofs.DualSums.{stands_group}
use Rattle.transport_core.proofs.Keys.{get-map, not_below_itself}
use Rattle.transport_core.proofs.Placed.{same_group, is_same_itself, group_order}
use Rattle.transport_core.proofs.Points.{length-points}
use Rattle.transport_plan.specs.Dealing.{IsDealt, IsTally}
use Rattle.transport_plan.proofs.Tallied.{on_arc, no_key, arcs_tally}

-- ---- sums over points, by their places and as lists

sum_placed : (t : ℕ → ℕ) (xs : List ℕ) (a : ℕ) (s : ℕ → ℕ) → ((p : ℕ) → p < length xs → s (a + p) ≡ t (get_or xs p 0)) → sum_by s (range_with_len a (length xs)) ≡ sum_by t xs
sum_placed t [] a s same = refl
sum_placed t (x ∷ xs) a s same =
    let here : s a ≡ t x = ap s (omega arith) ∙ same 0 (omega arith) in
    let later = sum_placed t xs (a + 1) s (λ p below. let q : (a + 1) + p ≡ a + suc p = omega arith in ap s q ∙ same (suc p) (omega (arith, below))) in
    omega (arith, sum_by-cons s a (range_with_len (a + 1) (length xs)), sum_by-cons t x xs, here, later)

sum_zipped : (t : ℕ → ℕ → ℕ) (xs ys : List ℕ) (a : ℕ) (s : ℕ → ℕ) → length ys ≡ length xs → ((p : ℕ) → p < length xs → s (a + p) ≡ t (get_or xs p 0) (get_or ys p 0))
    → sum_by s (range_with_len a (length xs)) ≡ sum_by (λ e. t e.0 e.1) (zip xs ys)
sum_zipped t [] ys a s long same = refl
sum_zipped t (x ∷ xs) [] a s long same = absurd (omega arith)
sum_zipped t (x ∷ xs) (y ∷ ys) a s long same =
    let here : s a ≡ t x y = ap s (omega arith) ∙ same 0 (omega arith) in
    let later = sum_zipped t xs ys (a + 1) s (omega (arith, long)) (λ p below. let q : (a + 1) + p ≡ a + suc p = omega arith in ap s q ∙ same (suc p) (omega (arith, below))) in
    omega (arith, sum_by-cons s a (range_with_len (a + 1) (length xs)), sum_by-cons (λ (e : ℕ × ℕ). t e.0 e.1) (x, y) (zip xs ys), here, later)

-- ---- the groups of the points

-- a key stands once among keys that rise
stands_once : (keys : List GroupKey) (i j : ℕ) (g : GroupKey) → IsStrictlySortedBy group_cmp keys → slice_get keys i ≡ Some g → slice_get keys j ≡ Some g → i ≡ j
stands_once keys i j g rise i_is j_is =
    let at_i = get_or_from_slice_get keys i g g i_is in
    let at_j = get_or_from_slice_get keys j g g j_is in
    let never : (k l : ℕ) → get_or keys k g ≡ g → get_or keys l g ≡ g → k < l → l < length keys → ⊥ = λ k l k_is l_is low high.
    not_below_itself group_order g (subst (λ x. group_cmp x g ≡ Less) k_is (subst (λ y. group_cmp (get_or keys k g) y ≡ Less) l_is (Less-from_sorted group_cmp keys k l g rise low high)))
    in
    ⊎_elim
    (λ (same : i ≡ j). same)
    (⊎_elim (λ (low : i < j). absurd (never i j at_i at_j low (slice_get_within keys j g j_is))) (λ (high : j < i). absurd (never j i at_j at_i high (slice_get_within keys i g i_is))))
    (cases_order i j)

same_tests : (b c : Bool) → (b ≡ true → c ≡ true) → (c ≡ true → b ≡ true) → b ≡ c
same_tests true true to from = refl
same_tests true false to from = sym (to refl)
same_tests false true to from = from refl
same_tests false false to from = refl

module _ (old : Entries) (load : ℕ → ℕ) (groups : List (GroupKey × ℕ)) (sizes : AreSizesBy old load groups) (points : List ℕ) (many : length points ≡ total_weight old)
    (grouped : (p : ℕ) → p < total_weight old → slice_get (keys_of groups) (get_or points p 0) ≡ Some (group_by old load p)) where
  pub group_within : All (λ g. g < length groups) points
  group_within p d below =
      let stands = slice_get_within (keys_of groups) (get_or points p 0) (group_by old load p) (grouped p (omega (arith, below, many))) in
      omega (arith, stands, length-keys_of groups, get_or_default points p d 0 below)

  -- as many points are of a group as it has
  pub group_points : (g : ℕ) (d : GroupKey × ℕ) → g < length groups → (get_or groups g d).1 ≡ count_by (λ p. p == g) points
  group_points g d below =
      let e = get_or groups g d in
      let here : slice_get groups g ≡ Some e = slice_get-get_or groups g d below in
      let key_is : slice_get (keys_of groups) g ≡ Some e.0 = get-map (λ (x : GroupKey × ℕ). x.0) groups g e here in
      let test : (p : ℕ) → p < length points → cond (is_same_group e.0 (group_by old load (0 + p))) 1 0 ≡ cond (get_or points p 0 == g) 1 0 = λ p inside.
      let zeros : 0 + p ≡ p = omega arith in
      let stands = grouped p (omega (arith, inside, many)) in
      let tests : is_same_group e.0 (group_by old load p) ≡ (get_or points p 0 == g) = same_tests (is_same_group e.0 (group_by old load p)) (get_or points p 0 == g)
      (λ same. eq-eqb (get_or points p 0) g (stands_once (keys_of groups) (get_or points p 0) g e.0 sizes.rise (stands ∙ ap Some (sym (same_group e.0 (group_by old load p) same))) key_is))
      (λ same.
      let one : get_or points p 0 ≡ g = eqb-true (get_or points p 0) g same in
      let equal : Some e.0 ≡ Some (group_by old load p) = sym key_is ∙ (ap (slice_get (keys_of groups)) (sym one) ∙ stands) in
      let keys : e.0 ≡ group_by old load p = same_Some e.0 (group_by old load p) equal in
      subst (λ k. is_same_group e.0 k ≡ true) keys (is_same_itself e.0)) in
      ap (λ q. cond (is_same_group e.0 (group_by old load q)) 1 0) zeros ∙ ap (λ (b : Bool). let n : ℕ = cond b 1 0 in n) tests
      in
      sym (stands_group old load groups sizes g e here) ∙ (ap (λ n. count_by (λ p. is_same_group e.0 (group_by old load p)) (range_with_len 0 n)) (sym many) ∙ sum_placed (λ h. cond (h == g) 1 0) points 0 (λ p. cond (is_same_group e.0 (group_by old load p)) 1 0) test)

-- ---- the rule

module _ (old : Entries) (inputs : List (List ℕ)) (groups : List (GroupKey × ℕ)) (points : List ℕ) (many : length points ≡ total_weight old)
    (grouped : (p : ℕ) → p < total_weight old → slice_get (keys_of groups) (get_or points p 0) ≡ Some (group_at old inputs p)) where
  pub has_assignment : (names : List (List ℕ)) (numbers items : List ℕ) (new : Entries) → IsDealt (length groups) (length names) numbers points items → length items ≡ length points → points_of new ≡ names_at names items
      → HasAssignment old new inputs (arc_flows (keys_of groups) names numbers)
  has_assignment names numbers items new dealt long named =
      let total : total_weight new ≡ total_weight old = sym (length-points new) ∙ (ap length named ∙ (length-map items (λ i. get_or names i []) ∙ (long ∙ many))) in
      record {
        weight = total;
        points = λ a.
            let is_at : (p : ℕ) → p < length points → cond (is_same_arc a (arc_at old new inputs (0 + p))) 1 0 ≡ on_arc (keys_of groups) names a (get_or points p 0) (get_or items p 0) = λ p inside.
            let zeros : 0 + p ≡ p = omega arith in
            let key : get_or (keys_of groups) (get_or points p 0) no_key ≡ group_at old inputs p = get_or_from_slice_get (keys_of groups) (get_or points p 0) (group_at old inputs p) no_key (grouped p (omega (arith, inside, many))) in
            let name : at new p ≡ Some (get_or names (get_or items p 0) []) = ap (λ ns. slice_get ns p) named ∙ get-map (λ i. get_or names i []) items p (get_or items p 0) (slice_get-get_or items p 0 (omega (arith, inside, long))) in
            let arc : arc_at old new inputs p ≡ (get_or (keys_of groups) (get_or points p 0) no_key, get_or names (get_or items p 0) []) =
            ap (λ (o : Option (List ℕ)). let x : Arc = (group_at old inputs p, unwrap_or o []) in x) name ∙ ap (λ (k : GroupKey). let x : Arc = (k, get_or names (get_or items p 0) []) in x) (sym key) in
            ap (λ q. cond (is_same_arc a (arc_at old new inputs q)) 1 0) zeros ∙ ap (λ (x : Arc). let n : ℕ = cond (is_same_arc a x) 1 0 in n) arc
            in
            let counted = sum_zipped (on_arc (keys_of groups) names a) points items 0 (λ p. cond (is_same_arc a (arc_at old new inputs p)) 1 0) long is_at in
            let keys_many : length (keys_of groups) ≡ length groups = length-keys_of groups in
            let tally = dealt (λ xs. amount_of is_same_arc (arc_flows (keys_of groups) names xs) a) (on_arc (keys_of groups) names a) (subst (λ n. IsTally n (length names) (λ xs. amount_of is_same_arc (arc_flows (keys_of groups) names xs) a) (on_arc (keys_of groups) names a)) keys_many (arcs_tally (keys_of groups) names a)) in
            ap (λ n. count_by (λ p. is_same_arc a (arc_at old new inputs p)) (range_with_len 0 n)) (sym many) ∙ (counted ∙ sym tally);
      }
