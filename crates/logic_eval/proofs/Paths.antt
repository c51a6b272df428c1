-- Steps of a path.
use Rattle.std.proofs.Common.{◌≡◌, ℕ, ◌≢◌, ◌<◌, length, get_or, eqb, eqb-true, length-drop, inl, inr, arith, true, false, List, [], ◌∷◌, map, Some, option_and_then, Vec, Global, refl, sym, ap, ◌∙◌}
use Rattle.std.specs.Prelude.{slice_get, codes}
use Rattle.std.specs.List.{slice_split, position_or_len, before_first, after_first}
use Rattle.std.specs.Str.{bytes_eq}
use Rattle.std.specs.Ordering.{nat_cmp, is_eq, ordering_reverse, match_ordering}
use Rattle.std.specs.declared.cmp.Ordering.{Ordering}
use Rattle.std.specs.declared.cmp.Ordering.TheVariants.{Less, Equal, Greater}
use Rattle.std.specs.Cmp.Lexicographic.{slice_cmp, texts_ties, nat_list_cmp_total, nat_list_eq_equiv}
use Rattle.flag_text.specs.Readers.{find_member}
use Rattle.std.specs.Cmp.{Equal-is, both_ways}
use Rattle.std.specs.FinMap.{slice_cmp-IsAntisymmetric, nat_cmp-IsAntisymmetric}
use Rattle.std.proofs.lemmas.Bool.{cases_Bool}
use Rattle.std.proofs.lemmas.List.{get_or_default}
use Rattle.std.proofs.lemmas.List.Splits.{slice_split_none, slice_split_first}
use Rattle.flag_text.specs.declared.tree.Tree.{Tree}
use Rattle.flag_text.specs.declared.tree.Tree.TheVariants as tree
use Rattle.flag_text.specs.Shape.{Shape, Members, no_members, member}
use Rattle.flag_text.specs.View.{view}
use Rattle.logic_eval.specs.Scope.{step, index_of, is_dot}
use Rattle.logic_values.specs.Objects.{with_member}
use Rattle.logic_values.proofs.Items.{shapes_of_items}
use Rattle.logic_values.proofs.Surfaces.{value_items}
use Rattle.logic_values.proofs.Truths.{view_list}
use Rattle.logic_values.specs.Views.{value_view}
use Rattle.logic_values.specs.declared.value.Value.{Value}
use Rattle.logic_values.specs.declared.value.Value.TheVariants as value

pub step_list : (v : Vec Tree Global) (name : List ℕ) → step (view (tree.List v)) name ≡ option_and_then (slice_get (map view v.items)) (index_of name)
step_list v name = ap (λ t. step t name) (view_list v) ∙ ap (λ us. option_and_then (slice_get us) (index_of name)) (shapes_of_items (map view v.items))

pub step_items : (v : Vec Value Global) (name : List ℕ) → step (value_view (value.Items v)) name ≡ option_and_then (slice_get (map value_view v.items)) (index_of name)
step_items v name = ap (λ t. step t name) (value_items v) ∙ ap (λ us. option_and_then (slice_get us) (index_of name)) (shapes_of_items (map value_view v.items))

not_eq : (a b : ℕ) → a ≢ b → eqb a b ≡ false
not_eq a b h = elim (cases_Bool (eqb a b)) [ inl e ↦ absurd (h (eqb-true a b e)) | inr e ↦ e ]

-- a text without a dot is one name
pub split_whole : (s : List ℕ) → ((i : ℕ) → i < length s → get_or s i 0 ≢ 46) → slice_split is_dot s ≡ s ∷ []
split_whole s h = slice_split_none is_dot s (λ k d within. rw (get_or_default s k d 0 within) (not_eq _ 46 (h k within)))

-- a text with a dot is the name before it, and the names after it
pub split_first : (s name rest : List ℕ) → (position_or_len is_dot s < length s) × (name ≡ before_first is_dot s) × (rest ≡ after_first is_dot s) → slice_split is_dot s ≡ name ∷ slice_split is_dot rest
split_first s name rest h = slice_split_first is_dot s 0 h.0 ∙ rw (h.1, h.2) refl

pub rest_shorter : (s name rest : List ℕ) → (position_or_len is_dot s < length s) × (name ≡ before_first is_dot s) × (rest ≡ after_first is_dot s) → length rest < length s
rest_shorter s name rest h = rw h.2 (simp length-drop (let k = h.0 in omega arith))

-- the order of two texts the other way round, and whether they are equal
bytes_eq-cmp : (a b : List ℕ) → bytes_eq a b ≡ is_eq (ordering_reverse (slice_cmp nat_cmp b a))
bytes_eq-cmp a b = texts_ties a b ∙ ap is_eq (nat_list_cmp_total.antisymm a b)

bytes_eq-same : (a : List ℕ) → bytes_eq a a ≡ true
bytes_eq-same a = nat_list_eq_equiv.refl a

same_text : (x y : List ℕ) → bytes_eq x y ≡ true → x ≡ y
same_text x y e =
    slice_cmp-IsAntisymmetric nat_cmp-IsAntisymmetric x y ((Equal-is (slice_cmp nat_cmp x y)).0 (sym (texts_ties x y) ∙ e))

-- a member that was put in its place is found, and the others as before
pub find-with_member : (k : List ℕ) (t : Shape) (ms : Members) → find_member k (with_member k t ms) ≡ Some t
unfolding with_member
find-with_member k t no_members = rw bytes_eq-same refl
find-with_member k t (member l u ms) = go (slice_cmp nat_cmp k l) refl (find-with_member k t ms)
  where
    go : (o : Ordering) → slice_cmp nat_cmp k l ≡ o → find_member k (with_member k t ms) ≡ Some t → find_member k (match_ordering o (member k t (member l u ms)) (member k t ms) (member l u (with_member k t ms))) ≡ Some t
    go Less e ih = rw bytes_eq-same refl
    go Equal e ih = rw bytes_eq-same refl
    go Greater e ih = rw (bytes_eq-cmp l k, e) ih

pub find-with_member_other : (k n : List ℕ) (t : Shape) (ms : Members) → bytes_eq k n ≡ false → find_member n (with_member k t ms) ≡ find_member n ms
unfolding with_member
find-with_member_other k n t no_members h = rw h refl
find-with_member_other k n t (member l u ms) h = go (slice_cmp nat_cmp k l) refl (find-with_member_other k n t ms h)
  where
    go : (o : Ordering) → slice_cmp nat_cmp k l ≡ o → find_member n (with_member k t ms) ≡ find_member n ms
        → find_member n (match_ordering o (member k t (member l u ms)) (member k t ms) (member l u (with_member k t ms))) ≡ find_member n (member l u ms)
    go Less e ih = rw h refl
    go Equal e ih = let same : k ≡ l = slice_cmp-IsAntisymmetric nat_cmp-IsAntisymmetric k l e in rw h (rw (rw same at h) refl)
    go Greater e ih = elim (cases_Bool (bytes_eq l n)) [ inl g ↦ rw g refl | inr g ↦ rw g ih ]

-- the member `$flagd` of the root scope, and the others
pub same_name : (name : List ℕ) (t : Shape) (ms : Members) → bytes_eq name (codes "$flagd") ≡ true → Some t ≡ find_member name (with_member (codes "$flagd") t ms)
same_name name t ms e = rw (same_text name (codes "$flagd") e) (sym (find-with_member (codes "$flagd") t ms))

pub other_name : (name : List ℕ) (t : Shape) (ms : Members) → bytes_eq name (codes "$flagd") ≡ false → find_member name (with_member (codes "$flagd") t ms) ≡ find_member name ms
other_name name t ms e = find-with_member_other (codes "$flagd") name t ms (flipped name (codes "$flagd") ∙ e)
  where
    flipped : (a b : List ℕ) → bytes_eq b a ≡ bytes_eq a b
    flipped a b = both_ways (bytes_eq b a) (bytes_eq a b) (λ h. rw (same_text b a h) (bytes_eq-same a)) (λ h. rw (same_text a b h) (bytes_eq-same b))
