-- Groups by their places among the names.
use Rattle.std.proofs.Common.{◌≡◌, ◌+◌, ◌<◌, ℕ, zero, suc, List, [], ◌∷◌, ◌++◌, length, take, map, get_or, Bor, Some, string_bytes, add-one, refl, ap, ◌∙◌, ⊎_elim, subst, arith}
use Rattle.std.proofs.lemmas.Bool.{cases_eq}
use Rattle.std.proofs.Math.Seq.{take-suc}
use Rattle.std.proofs.lemmas.List.{get_or-map, length-map, map-append}
use Rattle.std.proofs.lemmas.Option.{slice_get_read}
use Rattle.std.specs.List.{All, Contains, slice_get}
use Rattle.std.specs.Map.{keys_of}
use Rattle.price_core.specs.Limits.{limit_view, limits_view}
use Rattle.price_core.specs.declared.totals.Limit.{Limit}
use Rattle.transport_core.specs.Groups.{GroupKey, row_view, rows_view}
use Rattle.transport_core.proofs.Keys.{get-map}
use Rattle.transport_plan.specs.Network.{IsGroup, AreGroups}
use Rattle.min_cost_flow.specs.declared.problem.Group.{Group}

end_of : {X : Type 0} (xs : List X) (x y : X) (i : ℕ) → slice_get (xs ++ x ∷ []) i ≡ Some y → i ≡ length xs → x ≡ y
end_of [] x y zero is at = cc
end_of [] x y (suc i) is at = absurd (omega arith)
end_of (z ∷ xs) x y zero is at = absurd (omega arith)
end_of (z ∷ xs) x y (suc i) is at = end_of xs x y i is (omega arith)

before_end : {X : Type 0} (xs : List X) (x y : X) (i : ℕ) → slice_get (xs ++ x ∷ []) i ≡ Some y → (i ≡ length xs → ⊥) → slice_get xs i ≡ Some y
before_end [] x y zero is not = absurd (not refl)
before_end [] x y (suc i) is not = cc
before_end (z ∷ xs) x y zero is not = is
before_end (z ∷ xs) x y (suc i) is not = before_end xs x y i is (λ h. not (omega (arith, h)))

length_more : {X : Type 0} (xs : List X) (x : X) → length (xs ++ x ∷ []) ≡ length xs + 1
length_more [] x = refl
length_more (y ∷ xs) x = omega (arith, length_more xs x)

-- one group more
pub group_more : (names : List (List ℕ)) (rows : List (GroupKey × ℕ)) (g : GroupKey × ℕ) (groups : List Group) (group : Group) → AreGroups names rows groups → IsGroup names g group → AreGroups names (rows ++ g ∷ []) (groups ++ group ∷ [])
group_more names rows g groups group are is = record {
  many = omega (arith, length_more rows g, length_more groups group, are.many);
  each = λ i h k at_row at_group.
      ⊎_elim
      (λ (last : i ≡ length rows).
      let row_is : g ≡ h = end_of rows g h i at_row last in
      let group_is : group ≡ k = end_of groups group k i at_group (omega (arith, last, are.many)) in
      subst (λ x. IsGroup names x k) row_is (subst (λ x. IsGroup names g x) group_is is))
      (λ (not : i ≡ length rows → ⊥). are.each i h k (before_end rows g h i at_row not) (before_end groups group k i at_group (λ h2. not (omega (arith, h2, are.many)))))
      (cases_eq i (length rows));
}

-- the name at a place
pub named : (limits : List Limit) (i : ℕ) (l : Limit) → i < length limits → l ≡ get_or limits i l → slice_get (keys_of (limits_view limits)) i ≡ Some (string_bytes l.name)
named limits i l below is = get-map (λ (e : List ℕ × (ℕ × ℕ)). e.0) (limits_view limits) i (limit_view l) (get-map limit_view limits i l (slice_get_read limits (length limits) i l refl below is))

-- the rows up to here and the next one
pub rows-more : (rows : List ((Bor (List ℕ) × ℕ) × ℕ)) (i : ℕ) (d : (Bor (List ℕ) × ℕ) × ℕ) → i < length rows → rows_view (take (i + 1) rows) ≡ rows_view (take i rows) ++ row_view (get_or rows i d) ∷ []
rows-more rows i d below =
    let step : take (i + 1) rows ≡ take i rows ++ get_or rows i d ∷ [] = rw add-one (take-suc rows i d below) in
    ap (map row_view) step ∙ map-append row_view (take i rows) (get_or rows i d ∷ [])

-- the name of a row is among the names, where those of all rows are
pub row-listed : (names : List (List ℕ)) (rows : List ((Bor (List ℕ) × ℕ) × ℕ)) (i : ℕ) (d : (Bor (List ℕ) × ℕ) × ℕ) → All (λ g. Contains names g.0.0) (rows_view rows) → i < length rows → Contains names (get_or rows i d).0.0.now
row-listed names rows i d all below =
    let P : GroupKey × ℕ → Type 0 = λ g. Contains names g.0.0 in
    let here : P (get_or (rows_view rows) i (row_view d)) = all i (row_view d) (omega (arith, below, length-map rows row_view)) in
    subst P (get_or-map row_view rows i d (row_view d) below) here
