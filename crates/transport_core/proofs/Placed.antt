-- Points of inputs, sorted and joined: the number of inputs on each point.
use Rattle.std.proofs.Common.{◌≡◌, ◌==◌, ℕ, ◌<◌, List, [], ◌∷◌, Bool, true, cond, Ordering, refl, sym, ap, ◌∙◌, subst, arith}
use Rattle.std.specs.Cmp.{IsTotalOrder}
use Rattle.std.specs.List.Sorted.{IsPermutation, IsSortedBy, IsStrictlySortedBy}
use Rattle.std.specs.Map.{keys_of}
use Rattle.std.specs.Ordering.{nat_cmp, is_lt, is_eq, ordering_then}
use Rattle.std.specs.Str.{bytes_eq}
use Rattle.std.specs.Cmp.Lexicographic.{slice_cmp}
use Rattle.std.specs.Borrow.{Bor}
use Rattle.std.specs.declared.cmp.Ordering.TheVariants.{Less, Equal, Greater}
use Rattle.std.proofs.lemmas.Bool.{eqb-true, eq-eqb, and_parts, and_from}
use Rattle.std.proofs.lemmas.Cmp.{nat_cmp_total, nat_list_cmp_total, then_total, on_total, ranked}
use Rattle.std.proofs.lemmas.List.Sorted.{sum_by-IsPermutation, All-permutation, IsPermutation-map}
use Rattle.std.proofs.lemmas.List.Sums.{sum_by-cons}
use Rattle.std.proofs.lemmas.Map.Text.{is_eq-slice_cmp}
use Rattle.std.proofs.lemmas.Slice.Eq.{bytes_eq-Decides}
use Rattle.bucket_core.specs.Rule.{Entries, total_weight}
use Rattle.transport_core.specs.Groups.{GroupKey, is_same_group, group_cmp, AreSizesBy, row_view, rows_view}
use Rattle.transport_core.specs.Rows.{whole_amount, joined, CoversPoints}
use Rattle.transport_core.proofs.Joined.{step, rise-joined, joined-seen, amount-joined, passed-joined, some-joined, lookup-amount}

-- ---- numbers

number_ties : (a b : ℕ) → nat_cmp b a ≡ Equal → a == b ≡ true
number_ties a b tie =
    let ranks = ranked b a Equal (sym tie) in
    eq-eqb a b (sym ranks)

-- ---- groups

abbrev key_view : Bor (List ℕ) × ℕ → GroupKey
key_view k = (k.0.now, k.1)

pub same_group : (a b : GroupKey) → is_same_group a b ≡ true → a ≡ b
same_group a b same =
    let parts = and_parts (bytes_eq a.0 b.0) (a.1 == b.1) same in
    let name = (bytes_eq-Decides a.0 b.0).0 parts.0 in
    let count = eqb-true a.1 b.1 parts.1 in
    ap (λ (n : List ℕ). let g : GroupKey = (n, a.1) in g) name ∙ ap (λ (n : ℕ). let g : GroupKey = (b.0, n) in g) count

pub is_same_itself : (g : GroupKey) → is_same_group g g ≡ true
is_same_itself g = and_from (bytes_eq g.0 g.0) (g.1 == g.1) ((bytes_eq-Decides g.0 g.0).1 refl) (eq-eqb g.1 g.1 refl)

pub group_order : IsTotalOrder group_cmp
group_order = then_total (on_total (λ (g : GroupKey). g.0) nat_list_cmp_total) (on_total (λ (g : GroupKey). g.1) nat_cmp_total)

-- two parts that tie, tie
parts_tie : (o p : Ordering) → ordering_then o p ≡ Equal → (o ≡ Equal) × (p ≡ Equal)
parts_tie Less p tie = cc
parts_tie Equal p tie = (refl, tie)
parts_tie Greater p tie = cc

pub name_ties : (a b : List ℕ) → slice_cmp nat_cmp a b ≡ Equal → a ≡ b
name_ties a b tie = (bytes_eq-Decides a b).0 (sym (is_eq-slice_cmp a b) ∙ ap is_eq tie)

group_ties : (a b : GroupKey) → group_cmp b a ≡ Equal → is_same_group a b ≡ true
group_ties a b tie =
    let parts = parts_tie (slice_cmp nat_cmp b.0 a.0) (nat_cmp b.1 a.1) tie in
    and_from (bytes_eq a.0 b.0) (a.1 == b.1) ((bytes_eq-Decides a.0 b.0).1 (sym (name_ties b.0 a.0 parts.0))) (number_ties a.1 b.1 parts.1)

abbrev pub row_lt : (Bor (List ℕ) × ℕ) × ℕ → (Bor (List ℕ) × ℕ) × ℕ → Bool
row_lt x y = is_lt (ordering_then (group_cmp (key_view x.0) (key_view y.0)) (nat_cmp x.1 y.1))

abbrev pub same_key : Bor (List ℕ) × ℕ → Bor (List ℕ) × ℕ → Bool
same_key x y = is_same_group (key_view x) (key_view y)

-- the groups of a rule, from its runs, sorted and joined
pub sizes-joined : (rule : Entries) (load : ℕ → ℕ) (rows sorted : List ((Bor (List ℕ) × ℕ) × ℕ)) → CoversPoints rule load (total_weight rule) (rows_view rows)
    → IsPermutation rows sorted → IsSortedBy row_lt sorted → AreSizesBy rule load (rows_view (joined same_key sorted))
sizes-joined rule load rows sorted covers moved rises =
    let as_seen : rows_view (joined same_key sorted) ≡ joined is_same_group (rows_view sorted) = joined-seen key_view same_key is_same_group (λ a b. refl) sorted in
    let moved_view : IsPermutation (rows_view rows) (rows_view sorted) = IsPermutation-map row_view rows sorted moved in
    let rise : IsStrictlySortedBy group_cmp (keys_of (joined is_same_group (rows_view sorted))) =
    rise-joined key_view is_same_group same_group group_cmp group_order row_lt (λ x y above. step is_same_group group_cmp group_order group_ties (key_view x.0) (key_view y.0) (nat_cmp y.1 x.1) above) sorted rises in
    let sizes : AreSizesBy rule load (joined is_same_group (rows_view sorted)) = record {
      rise = rise;
      sizes = λ g.
          let found = lookup-amount is_same_group same_group group_cmp group_order g (joined is_same_group (rows_view sorted)) rise in
          let kept = amount-joined is_same_group same_group (rows_view sorted) g in
          let same = sum_by-IsPermutation (λ (r : GroupKey × ℕ). cond (is_same_group g r.0) r.1 0) (rows_view rows) (rows_view sorted) moved_view in
          found ∙ (kept ∙ (same ∙ covers.amounts g));
      some = some-joined is_same_group (rows_view sorted) (All-permutation (λ (r : GroupKey × ℕ). 0 < r.1) (rows_view rows) (rows_view sorted) moved_view covers.some);
    } in
    subst (λ rs. AreSizesBy rule load rs) (sym as_seen) sizes

pub whole-view : (rows : List ((Bor (List ℕ) × ℕ) × ℕ)) → whole_amount (rows_view rows) ≡ whole_amount rows
whole-view [] = refl
whole-view (r ∷ rs) = omega (arith, sum_by-cons (λ (x : GroupKey × ℕ). x.1) (row_view r) (rows_view rs), sum_by-cons (λ (x : (Bor (List ℕ) × ℕ) × ℕ). x.1) r rs, whole-view rs)

-- joining keeps the whole amount
pub whole-joined : (rows sorted : List ((Bor (List ℕ) × ℕ) × ℕ)) → IsPermutation rows sorted → whole_amount (joined same_key sorted) ≡ whole_amount (rows_view rows)
whole-joined rows sorted moved =
    let as_seen : rows_view (joined same_key sorted) ≡ joined is_same_group (rows_view sorted) = joined-seen key_view same_key is_same_group (λ a b. refl) sorted in
    sym (whole-view (joined same_key sorted))
    ∙ (ap whole_amount as_seen
    ∙ (passed-joined is_same_group same_group (λ (g : GroupKey). true) (rows_view sorted)
    ∙ (whole-view sorted ∙ (sum_by-IsPermutation (λ (r : (Bor (List ℕ) × ℕ) × ℕ). r.1) rows sorted moved ∙ sym (whole-view rows)))))
