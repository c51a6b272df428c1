-- Flows on arcs: group by group, and name by name.
use Rattle.std.proofs.Common.{◌≡◌, ◌==◌, ◌&&◌, ◌||◌, ◌+◌, ◌<◌, ◌≤◌, ℕ, zero, suc, List, [], ◌∷◌, ◌++◌, length, take, drop, get_or, Bool, true, false, not, cond, sum_by, Bor, string_bytes, refl, sym, ap, ◌∙◌, subst, add-one, arith}
use Rattle.std.proofs.Math.Seq.{drop-cons}
use Rattle.std.specs.Cmp.Lexicographic.{slice_cmp}
use Rattle.std.specs.List.{AllByRecursion, sum, slice_index_or}
use Rattle.std.specs.List.Sorted.{IsStrictlySortedBy}
use Rattle.std.specs.Map.{keys_of}
use Rattle.std.specs.Ordering.{nat_cmp}
use Rattle.std.specs.Prelude.{nat_le}
use Rattle.std.specs.Str.{bytes_eq}
use Rattle.std.specs.declared.cmp.Ordering.TheVariants.{Less}
use Rattle.std.proofs.lemmas.Bool.{and_parts, cond-true, cond-false, leb-true, eqb-true, eq-eqb, or_left, or_right, not_from_false, false_from_ne_true}
use Rattle.std.proofs.lemmas.Cmp.{nat_list_cmp_total}
use Rattle.std.proofs.lemmas.List.{length-map}
use Rattle.std.proofs.lemmas.List.Folds.{list_all-append}
use Rattle.std.proofs.lemmas.List.Sums.{sum_by-cons, sum_by-append}
use Rattle.std.proofs.lemmas.Map.Entries.{length-keys_of}
use Rattle.std.proofs.lemmas.Map.Keys.{sorted_head, sorted_tail}
use Rattle.std.proofs.lemmas.Option.{slice_get_read, get_or_from_slice_get}
use Rattle.std.proofs.lemmas.Slice.Eq.{bytes_eq-Decides}
use Rattle.price_core.specs.Limits.{limit_view, limits_view}
use Rattle.price_core.specs.Pricing.{Pricing, is_forbidden}
use Rattle.price_core.specs.declared.totals.Limit.{Limit}
use Rattle.transport_core.specs.Assignment.{Arc, row_flows, arc_flows, spends_all, is_free_of, inflow}
use Rattle.transport_core.specs.Groups.{GroupKey}
use Rattle.transport_core.proofs.Keys.{get-map, not_below_itself}

pub width_of : (limits : List Limit) → length (keys_of (limits_view limits)) ≡ length limits
width_of limits = length-keys_of (limits_view limits) ∙ length-map limits limit_view

-- ---- a group's row

row-front : (g : GroupKey) (names : List (List ℕ)) (numbers : List ℕ) → row_flows g names (take (length names) numbers) ≡ row_flows g names numbers
row-front g [] numbers = refl
row-front g (n ∷ names) [] = refl
row-front g (n ∷ names) (k ∷ numbers) = ap (λ fs. ((g, n), k) ∷ fs) (row-front g names numbers)

-- what is known of the numbers behind the first group's
pub record Spends (g : GroupKey × ℕ) (gs : List (GroupKey × ℕ)) (width : ℕ) (numbers : List ℕ) : Type 0 where
  pub long : width ≤ length numbers
  pub row : sum (take width numbers) ≡ g.1
  pub rest : spends_all gs width (drop width numbers) ≡ true

pub spends : (g : GroupKey × ℕ) (gs : List (GroupKey × ℕ)) (width : ℕ) (numbers : List ℕ) → spends_all (g ∷ gs) width numbers ≡ true → Spends g gs width numbers
spends g gs width numbers all =
    let row : Bool = sum (take width numbers) == g.1 in
    let rest : Bool = spends_all gs width (drop width numbers) in
    let outer = and_parts (nat_le width (length numbers)) (row && rest) all in
    let inner = and_parts row rest outer.1 in
    record { long = leb-true width (length numbers) outer.0; row = eqb-true (sum (take width numbers)) g.1 inner.0; rest = inner.1 }

-- the first group's arcs, and those of the groups behind it
pub arcs_step : (g : GroupKey × ℕ) (gs : List (GroupKey × ℕ)) (names : List (List ℕ)) (width : ℕ) (numbers row more : List ℕ) → length names ≡ width → row ≡ take width numbers → more ≡ drop width numbers
    → arc_flows (keys_of (g ∷ gs)) names numbers ≡ row_flows g.0 names row ++ arc_flows (keys_of gs) names more
arcs_step g gs names width numbers row more wide front back =
    ap (λ fs. fs ++ arc_flows (keys_of gs) names (drop (length names) numbers)) (sym (row-front g.0 names numbers) ∙ (ap (λ w. row_flows g.0 names (take w numbers)) wide ∙ ap (row_flows g.0 names) (sym front)))
    ∙ ap (λ ns. row_flows g.0 names row ++ arc_flows (keys_of gs) names ns) (ap (λ w. drop w numbers) wide ∙ sym back)

pub free_step : (pricing : Pricing) (g : GroupKey × ℕ) (gs : List (GroupKey × ℕ)) (names : List (List ℕ)) (width : ℕ) (numbers row more : List ℕ) → length names ≡ width → row ≡ take width numbers → more ≡ drop width numbers
    → is_free_of pricing (arc_flows (keys_of (g ∷ gs)) names numbers) ≡ (is_free_of pricing (row_flows g.0 names row) && is_free_of pricing (arc_flows (keys_of gs) names more))
free_step pricing g gs names width numbers row more wide front back =
    ap (is_free_of pricing) (arcs_step g gs names width numbers row more wide front back)
    ∙ list_all-append (λ (f : Arc × ℕ). (f.1 == 0) || not (is_forbidden pricing f.0.0.0 f.0.1)) (row_flows g.0 names row) (arc_flows (keys_of gs) names more)

-- a sum over all arcs, by the first group's and the others'
pub sum_step : (f : Arc × ℕ → ℕ) (g : GroupKey × ℕ) (gs : List (GroupKey × ℕ)) (names : List (List ℕ)) (width : ℕ) (numbers row more : List ℕ) → length names ≡ width → row ≡ take width numbers → more ≡ drop width numbers
    → sum_by f (arc_flows (keys_of (g ∷ gs)) names numbers) ≡ sum_by f (row_flows g.0 names row) + sum_by f (arc_flows (keys_of gs) names more)
sum_step f g gs names width numbers row more wide front back =
    ap (sum_by f) (arcs_step g gs names width numbers row more wide front back) ∙ sum_by-append f (row_flows g.0 names row) (arc_flows (keys_of gs) names more)

-- a point that stays free: none is there, or the change is not forbidden
pub no_points : (points : ℕ) (forbidden : Bool) → points ≡ 0 → ((points == 0) || not forbidden) ≡ true
no_points points forbidden none = or_left (points == 0) (not forbidden) (eq-eqb points 0 none)

pub not_barred : (points : ℕ) (forbidden : Bool) → forbidden ≡ false → ((points == 0) || not forbidden) ≡ true
not_barred points forbidden allowed = or_right (points == 0) (not forbidden) (not_from_false forbidden allowed)

-- ---- the same of what is left in a loop

abbrev pub Row : Type 0
Row = (Bor (List ℕ) × ℕ) × ℕ

-- what is read where there is no row
abbrev pub no_row : Row
no_row = ((record { ref_ptr = (0, 0); now = [] }, 0), 0)

pub element_here : {X : Type 0} (xs : List X) (i : ℕ) (d : X) → i < length xs → drop i xs ≡ get_or xs i d ∷ drop (i + 1) xs
element_here xs i d below = rw add-one (drop-cons xs i d below)

pub row_here : (g : GroupKey) (limits : List Limit) (row : List ℕ) (i : ℕ) (l : Limit) (k : ℕ) → drop i limits ≡ l ∷ drop (i + 1) limits → drop i row ≡ k ∷ drop (i + 1) row
    → row_flows g (keys_of (limits_view (drop i limits))) (drop i row) ≡ ((g, string_bytes l.name), k) ∷ row_flows g (keys_of (limits_view (drop (i + 1) limits))) (drop (i + 1) row)
row_here g limits row i l k at_limits at_row = ap (λ ls. row_flows g (keys_of (limits_view ls)) (drop i row)) at_limits ∙ ap (row_flows g (keys_of (limits_view (l ∷ drop (i + 1) limits)))) at_row

-- ---- what flows to a name

none_to : (g : GroupKey) (name : List ℕ) (names : List (List ℕ)) (row : List ℕ) → AllByRecursion (λ n. slice_cmp nat_cmp name n ≡ Less) names → inflow (row_flows g names row) name ≡ 0
none_to g name [] row above = refl
none_to g name (n ∷ names) [] above = refl
none_to g name (n ∷ names) (k ∷ row) above =
    let P : List ℕ → Type 0 = λ y. slice_cmp nat_cmp name y ≡ Less in
    let apart : bytes_eq name n ≡ false = false_from_ne_true (bytes_eq name n) (λ h. not_below_itself nat_list_cmp_total name (subst P (sym ((bytes_eq-Decides name n).0 h)) above.0)) in
    omega (arith, sum_by-cons (λ (f : Arc × ℕ). cond (bytes_eq name f.0.1) f.1 0) ((g, n), k) (row_flows g names row), cond-false {A = ℕ} (bytes_eq name n) k 0 apart, none_to g name names row above.1)

above_at : (n : List ℕ) (names : List (List ℕ)) (place : ℕ) → AllByRecursion (λ y. slice_cmp nat_cmp n y ≡ Less) names → place < length names → slice_cmp nat_cmp n (get_or names place []) ≡ Less
above_at n [] place above within = absurd (omega arith)
above_at n (m ∷ names) zero above within = above.0
above_at n (m ∷ names) (suc place) above within = above_at n names place above.1 (omega arith)

-- the number at the name's place
pub row_inflow : (g : GroupKey) (names : List (List ℕ)) (row : List ℕ) (place : ℕ) → IsStrictlySortedBy (slice_cmp nat_cmp) names → place < length names → length row ≡ length names → inflow (row_flows g names row) (get_or names place []) ≡ get_or row place 0
row_inflow g [] row place rise within same = absurd (omega arith)
row_inflow g (n ∷ names) [] place rise within same = absurd (omega arith)
row_inflow g (n ∷ names) (k ∷ row) zero rise within same =
    let here : bytes_eq n n ≡ true = (bytes_eq-Decides n n).1 refl in
    omega (arith, sum_by-cons (λ (f : Arc × ℕ). cond (bytes_eq n f.0.1) f.1 0) ((g, n), k) (row_flows g names row), cond-true {A = ℕ} (bytes_eq n n) k 0 here, none_to g n names row (sorted_head (slice_cmp nat_cmp) n names rise))
row_inflow g (n ∷ names) (k ∷ row) (suc place) rise within same =
    let name : List ℕ = get_or names place [] in
    let below : slice_cmp nat_cmp n name ≡ Less = above_at n names place (sorted_head (slice_cmp nat_cmp) n names rise) (omega arith) in
    let P : List ℕ → Type 0 = λ y. slice_cmp nat_cmp y name ≡ Less in
    let apart : bytes_eq name n ≡ false = false_from_ne_true (bytes_eq name n) (λ h. not_below_itself nat_list_cmp_total name (subst P (sym ((bytes_eq-Decides name n).0 h)) below)) in
    omega (arith, sum_by-cons (λ (f : Arc × ℕ). cond (bytes_eq name f.0.1) f.1 0) ((g, n), k) (row_flows g names row), cond-false {A = ℕ} (bytes_eq name n) k 0 apart, row_inflow g names row place (sorted_tail (slice_cmp nat_cmp) n names rise) (omega arith) (omega arith))

-- the name at a place of the limits
pub name_at_place : (limits : List Limit) (place : ℕ) (l : Limit) → place < length limits → l ≡ get_or limits place l → slice_index_or (keys_of (limits_view limits)) place [] ≡ string_bytes l.name
name_at_place limits place l below is =
    get_or_from_slice_get (keys_of (limits_view limits)) place (string_bytes l.name) []
    (get-map (λ (e : List ℕ × (ℕ × ℕ)). e.0) (limits_view limits) place (limit_view l) (get-map limit_view limits place l (slice_get_read limits (length limits) place l refl below is)))
