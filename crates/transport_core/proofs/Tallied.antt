-- Points whose inputs are counted: rows for the numbers of a run's points, in any order, are the rows of its points.
use Rattle.std.proofs.Common.{◌≡◌, ⊎_elim, ℕ, zero, suc, ◌+◌, ◌-◌, ◌<◌, ◌≤◌, List, [], ◌∷◌, ◌++◌, length, get_or, take, drop, Bool, true, false, cond, Some, unwrap_or, count_by, refl, sym, ap, ◌∙◌, subst, add-one, drop-cons, length-drop, arith}
use Rattle.std.specs.List.{All, range_with_len, slice_index, slice_range}
use Rattle.std.specs.List.Sorted.{IsPermutation}
use Rattle.std.proofs.lemmas.Bool.{cases_lt}
use Rattle.std.proofs.lemmas.List.{length-take}
use Rattle.std.proofs.lemmas.List.Elements.{All-push}
use Rattle.std.proofs.lemmas.List.Sorted.{sum_by-IsPermutation, length_permutation}
use Rattle.std.proofs.lemmas.List.Sums.{sum_by-cons, sum_by_push}
use Rattle.bucket_core.specs.Rule.{Entries, at, end_of, entry_at, entry_name, total_weight, IsRun}
use Rattle.bucket_core.proofs.Ends.{at_here, at_run, end_of-entry_at, entry_at-lt}
use Rattle.price_core.proofs.Cursors.{entry_at-le}
use Rattle.transport_core.specs.Groups.{GroupKey, is_same_group, AreSizesBy}
use Rattle.transport_core.specs.Rows.{amount_of, whole_amount, AddsCounts, CoversPoints}
use Rattle.transport_core.proofs.Ranges.{count-split, count-same}

-- the rows so far, with so many points of this number that are not written yet and those of the rest, are all
pub record Pending (name counts : List ℕ) (old rows : List (GroupKey × ℕ)) (count points : ℕ) (rest : List ℕ) : Type 0 where
  pub amounts : (g : GroupKey) → amount_of is_same_group rows g + (cond (is_same_group g (name, count)) points 0 + count_by (λ c. is_same_group g (name, c)) rest) ≡ amount_of is_same_group old g + count_by (λ c. is_same_group g (name, c)) counts
  pub whole : whole_amount rows + (points + length rest) ≡ whole_amount old + length counts
  pub some : All (λ r. 0 < r.1) old → All (λ r. 0 < r.1) rows
  pub begun : 0 < points
  pub few : points + length rest ≤ length counts

pub pends_first : (name : List ℕ) (rows : List (GroupKey × ℕ)) (count : ℕ) (rest : List ℕ) → Pending name (count ∷ rest) rows rows count 1 rest
pends_first name rows count rest =
    record {
      amounts = λ g. omega (arith, sum_by-cons (λ (c : ℕ). cond (is_same_group g (name, c)) 1 0) count rest);
      whole = omega arith;
      some = λ all. all;
      begun = omega arith;
      few = omega arith;
    }

one_more : (b : Bool) (n : ℕ) → cond b (n + 1) 0 ≡ cond b n 0 + cond b 1 0
one_more true n = refl
one_more false n = refl

pub pends_same : (name counts : List ℕ) (old rows : List (GroupKey × ℕ)) (count points next : ℕ) (rest : List ℕ) → next ≡ count → Pending name counts old rows count points (next ∷ rest) → Pending name counts old rows count (points + 1) rest
pends_same name counts old rows count points next rest same pending =
    record {
      amounts = λ g.
          let cons = sum_by-cons (λ (c : ℕ). cond (is_same_group g (name, c)) 1 0) next rest in
          let here : cond (is_same_group g (name, next)) 1 0 ≡ cond (is_same_group g (name, count)) 1 0 = ap (λ (c : ℕ). let n : ℕ = cond (is_same_group g (name, c)) 1 0 in n) same in
          omega (arith, pending.amounts g, cons, here, one_more (is_same_group g (name, count)) points);
      whole = omega (arith, pending.whole);
      some = pending.some;
      begun = omega arith;
      few = omega (arith, pending.few);
    }

pushed : (name : List ℕ) (rows : List (GroupKey × ℕ)) (count points : ℕ) (g : GroupKey) → amount_of is_same_group (rows ++ ((name, count), points) ∷ []) g ≡ amount_of is_same_group rows g + cond (is_same_group g (name, count)) points 0
pushed name rows count points g =
    let row : GroupKey × ℕ = ((name, count), points) in
    sum_by_push (λ (r : GroupKey × ℕ). cond (is_same_group g r.0) r.1 0) rows row

pub pends_other : (name counts : List ℕ) (old rows : List (GroupKey × ℕ)) (count points next : ℕ) (rest : List ℕ) → Pending name counts old rows count points (next ∷ rest) → Pending name counts old (rows ++ ((name, count), points) ∷ []) next 1 rest
pends_other name counts old rows count points next rest pending =
    let row : GroupKey × ℕ = ((name, count), points) in
    record {
      amounts = λ g. omega (arith, pending.amounts g, pushed name rows count points g, sum_by-cons (λ (c : ℕ). cond (is_same_group g (name, c)) 1 0) next rest);
      whole = omega (arith, pending.whole, sum_by_push (λ (r : GroupKey × ℕ). r.1) rows row);
      some = λ all. All-push (λ (r : GroupKey × ℕ). 0 < r.1) rows row (pending.some all) pending.begun;
      begun = omega arith;
      few = omega (arith, pending.few, pending.begun);
    }

pub pends_done : (name counts : List ℕ) (old rows : List (GroupKey × ℕ)) (count points : ℕ) → Pending name counts old rows count points [] → AddsCounts name counts old (rows ++ ((name, count), points) ∷ [])
pends_done name counts old rows count points pending =
    let row : GroupKey × ℕ = ((name, count), points) in
    record {
      amounts = λ g. omega (arith, pending.amounts g, pushed name rows count points g);
      whole = omega (arith, pending.whole, sum_by_push (λ (r : GroupKey × ℕ). r.1) rows row);
      some = λ all. All-push (λ (r : GroupKey × ℕ). 0 < r.1) rows row (pending.some all) pending.begun;
    }

pub adds_none : (name : List ℕ) (rows : List (GroupKey × ℕ)) → AddsCounts name [] rows rows
adds_none name rows = record { amounts = λ g. omega arith; whole = omega arith; some = λ all. all }

-- in another order they are the same
pub adds_moved : (name counts sorted : List ℕ) (old new : List (GroupKey × ℕ)) → IsPermutation counts sorted → AddsCounts name sorted old new → AddsCounts name counts old new
adds_moved name counts sorted old new moved adds =
    record {
      amounts = λ g. omega (arith, adds.amounts g, sum_by-IsPermutation (λ (c : ℕ). cond (is_same_group g (name, c)) 1 0) counts sorted moved);
      whole = omega (arith, adds.whole, length_permutation counts sorted moved);
      some = adds.some;
    }

-- ---- a part of the counts, and the points that it is of

count_part : (test : ℕ → Bool) (counts : List ℕ) (from n : ℕ) → from + n ≤ length counts → count_by (λ p. test (slice_index counts p)) (range_with_len from n) ≡ count_by test (take n (drop from counts))
count_part test counts from zero fits = refl
count_part test counts from (suc n) fits =
    let here : drop from counts ≡ get_or counts from 0 ∷ drop (from + 1) counts = rw add-one (drop-cons counts from 0 (omega arith)) in
    let part = ap (λ xs. count_by test (take (suc n) xs)) here in
    omega (
      arith,
      part,
      sum_by-cons (λ p. cond (test (slice_index counts p)) 1 0) from (range_with_len (from + 1) n),
      sum_by-cons (λ c. cond (test c) 1 0) (get_or counts from 0) (take n (drop (from + 1) counts)),
      count_part test counts (from + 1) n (omega arith),
    )

length-part : (counts : List ℕ) (from to : ℕ) → from ≤ to → to ≤ length counts → length (slice_range counts from to) ≡ to - from
length-part counts from to order inside = omega (arith, length-take (to - from) (drop from counts), length-drop from counts)

pub covers_counts : (rule : Entries) (counts : List ℕ) (from to : ℕ) (name : List ℕ) (old new : List (GroupKey × ℕ)) → from ≤ to → to ≤ length counts → at rule from ≡ Some name → IsRun rule from to
    → CoversPoints rule (slice_index counts) from old → AddsCounts name (slice_range counts from to) old new → CoversPoints rule (slice_index counts) to new
covers_counts rule counts from to name old new order inside is run covers adds =
    let part : List ℕ = slice_range counts from to in
    let size : length part ≡ to - from = length-part counts from to order inside in
    record {
      amounts = λ g.
          let test : ℕ → Bool = λ p. is_same_group g (unwrap_or (at rule p) [], slice_index counts p) in
          let split = count-split test 0 from to (omega arith) order in
          let whole : to - 0 ≡ to = omega arith in
          let first : from - 0 ≡ from = omega arith in
          let same = count-same test (λ p. is_same_group g (name, slice_index counts p)) from (to - from) (λ p low high. ap (λ o. is_same_group g (unwrap_or o [], slice_index counts p)) (run p low (omega arith) ∙ is)) in
          let counted = count_part (λ c. is_same_group g (name, c)) counts from (to - from) (omega arith) in
          omega (arith, adds.amounts g, covers.amounts g, split, same, counted, ap (λ n. count_by test (range_with_len 0 n)) whole, ap (λ n. count_by test (range_with_len 0 n)) first);
      whole = omega (arith, adds.whole, covers.whole, size);
      some = adds.some covers.some;
    }

-- ---- entry by entry

-- the first entry that ends after a point holds it
first_after : (r : Entries) (p i : ℕ) → p < total_weight r → p < end_of r i → ((k : ℕ) → k < i → end_of r k ≤ p) → i ≡ entry_at r p
first_after r p i inside after before = ⊎_elim (λ (early : entry_at r p < i). absurd (omega (arith, before (entry_at r p) early, end_of-entry_at r p inside))) (λ (late : i ≤ entry_at r p). omega (arith, late, entry_at-le r p i after)) (cases_lt (entry_at r p) i)

pub entry_here : (r : Entries) (p i : ℕ) → p < total_weight r → p < end_of r i → ((k : ℕ) → k < i → end_of r k ≤ p) → at r p ≡ entry_name r i
entry_here r p i inside after before = at_here r p inside ∙ ap (entry_name r) (sym (first_after r p i inside after before))

pub entry_run : (r : Entries) (p i : ℕ) → p < total_weight r → p < end_of r i → ((k : ℕ) → k < i → end_of r k ≤ p) → IsRun r p (end_of r i)
entry_run r p i inside after before = subst (λ j. IsRun r p (end_of r j)) (sym (first_after r p i inside after before)) (at_run r p inside)

-- where all entries end at a point or before, it is the total
pub all_ended : (r : Entries) (p : ℕ) → p ≤ total_weight r → ((k : ℕ) → k < length r → end_of r k ≤ p) → p ≡ total_weight r
all_ended r p below ended =
    ⊎_elim (λ (inside : p < total_weight r). absurd (omega (arith, ended (entry_at r p) (entry_at-lt r p inside), end_of-entry_at r p inside))) (λ (past : total_weight r ≤ p). omega (arith, below, past)) (cases_lt p (total_weight r))

-- what ended before the next point, and what ends there
pub ended_more : (r : Entries) (p q i : ℕ) → p ≤ q → end_of r i ≤ q → ((k : ℕ) → k < i → end_of r k ≤ p) → (k : ℕ) → k < i + 1 → end_of r k ≤ q
ended_more r p q i order here before k low = ⊎_elim (λ (early : k < i). omega (arith, before k early, order)) (λ (late : i ≤ k). let same : k ≡ i = omega (arith, low, late) in omega (arith, ap (end_of r) same, here)) (cases_lt k i)

-- ---- loads that agree at all points

pub covers_alike : (rule : Entries) (load other : ℕ → ℕ) (upto : ℕ) (rows : List (GroupKey × ℕ)) → ((p : ℕ) → p < upto → load p ≡ other p) → CoversPoints rule load upto rows → CoversPoints rule other upto rows
covers_alike rule load other upto rows alike covers =
    record {
      amounts = λ g.
          covers.amounts g
          ∙ count-same (λ p. is_same_group g (unwrap_or (at rule p) [], load p)) (λ p. is_same_group g (unwrap_or (at rule p) [], other p)) 0 upto
          (λ p low high. ap (λ n. is_same_group g (unwrap_or (at rule p) [], n)) (alike p (omega arith)));
      whole = covers.whole;
      some = covers.some;
    }

pub sizes_alike : (rule : Entries) (load other : ℕ → ℕ) (groups : List (GroupKey × ℕ)) → ((p : ℕ) → p < total_weight rule → load p ≡ other p) → AreSizesBy rule load groups → AreSizesBy rule other groups
sizes_alike rule load other groups alike sizes = record {
  rise = sizes.rise;
  sizes = λ g.
      sizes.sizes g
      ∙ count-same (λ p. is_same_group g (unwrap_or (at rule p) [], load p)) (λ p. is_same_group g (unwrap_or (at rule p) [], other p)) 0 (total_weight rule)
      (λ p low high. ap (λ n. is_same_group g (unwrap_or (at rule p) [], n)) (alike p (omega arith)));
  some = sizes.some;
}
