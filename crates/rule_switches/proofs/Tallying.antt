-- The users and points of runs are those of their points.
use Rattle.std.proofs.Common.{◌≡◌, ℕ, zero, suc, ◌+◌, ◌-◌, ◌<◌, ◌≤◌, Bool, true, false, ◌&&◌, cond, List, [], ◌∷◌, ◌++◌, length, get_or, take, drop, sum, sum_by, unwrap_or, refl, sym, ap, ◌∙◌, add-one, drop-cons, take-append-drop, arith}
use Rattle.std.specs.List.{range_with_len, slice_index, slice_range}
use Rattle.std.specs.Str.{bytes_eq}
use Rattle.std.proofs.lemmas.List.Folds.{drop_split}
use Rattle.std.proofs.lemmas.List.Sums.{sum_by-cons, sum_by-append}
use Rattle.bucket_core.specs.Rule.{Entries}
use Rattle.price_core.specs.Cost.{name_at}
use Rattle.rule_switches.specs.Runs.{Run, AreRuns, IsRunAt}
use Rattle.rule_switches.specs.Table.{is_between, is_switched, run_points, run_users}

sum-append : (xs ys : List ℕ) → sum (xs ++ ys) ≡ sum xs + sum ys
sum-append xs ys = sum_by-append (λ x. x) xs ys

range-append : (a n m : ℕ) → range_with_len a (n + m) ≡ range_with_len a n ++ range_with_len (a + n) m
range-append a zero m =
    let none : 0 + m ≡ m = omega arith in
    let same : a ≡ a + 0 = omega arith in
    ap (range_with_len a) none ∙ ap (λ b. range_with_len b m) same
range-append a (suc n) m =
    let next : suc n + m ≡ suc (n + m) = omega arith in
    let moved : (a + 1) + n ≡ a + suc n = omega arith in
    ap (range_with_len a) next ∙ ap (λ xs. a ∷ xs) (range-append (a + 1) n m ∙ ap (λ b. range_with_len (a + 1) n ++ range_with_len b m) moved)

first_sum : (n x : ℕ) (xs : List ℕ) → sum (take (suc n) (x ∷ xs)) ≡ x + sum (take n xs)
first_sum n x xs =
    let one : sum (x ∷ []) ≡ x = zero_plus x in
    sum-append (x ∷ []) (take n xs) ∙ ap (λ k. k + sum (take n xs)) one
  where
    zero_plus : (k : ℕ) → 0 + k ≡ k
    zero_plus k = omega arith

none : (b : Bool) → ◌≡◌ {A = ℕ} (cond b 0 0) 0
none true = refl
none false = refl

both : (b : Bool) (x y : ℕ) → cond b x 0 + cond b y 0 ≡ cond b (x + y) 0
both true x y = refl
both false x y = refl

-- where a test has one outcome, it takes all of the inputs or none
flat_users : (test : ℕ → Bool) (b : Bool) (counts : List ℕ) (from n : ℕ) → from + n ≤ length counts → ((q : ℕ) → from ≤ q → q < from + n → test q ≡ b)
    → sum_by (λ q. cond (test q) (slice_index counts q) 0) (range_with_len from n) ≡ cond b (sum (take n (drop from counts))) 0
flat_users test b counts from zero fits same = sym (none b)
flat_users test b counts from (suc n) fits same =
    let g : ℕ → ℕ = λ q. cond (test q) (slice_index counts q) 0 in
    let here : drop from counts ≡ get_or counts from 0 ∷ drop (from + 1) counts = rw add-one (drop-cons counts from 0 (omega arith)) in
    let part : sum (take (suc n) (drop from counts)) ≡ get_or counts from 0 + sum (take n (drop (from + 1) counts)) = ap (λ xs. sum (take (suc n) xs)) here ∙ first_sum n (get_or counts from 0) (drop (from + 1) counts) in
    let later = flat_users test b counts (from + 1) n (omega arith) (λ q low high. same q (omega arith) (omega arith)) in
    let first : g from ≡ cond b (get_or counts from 0) 0 = ap (λ (x : Bool). cond x (get_or counts from 0) 0) (same from (omega arith) (omega arith)) in
    sum_by-cons g from (range_with_len (from + 1) n)
    ∙ (ap (λ k. k + sum_by g (range_with_len (from + 1) n)) first
    ∙ (ap (λ k. cond b (get_or counts from 0) 0 + k) later
    ∙ (both b (get_or counts from 0) (sum (take n (drop (from + 1) counts))) ∙ ap (λ k. cond b k 0) (sym part))))

flat_points : (test : ℕ → Bool) (b : Bool) (from n : ℕ) → ((q : ℕ) → from ≤ q → q < from + n → test q ≡ b) → sum_by (λ q. cond (test q) 1 0) (range_with_len from n) ≡ cond b n 0
flat_points test b from zero same = sym (none b)
flat_points test b from (suc n) same =
    let g : ℕ → ℕ = λ q. cond (test q) 1 0 in
    let later = flat_points test b (from + 1) n (λ q low high. same q (omega arith) (omega arith)) in
    let first : g from ≡ cond b 1 0 = ap (λ (x : Bool). cond x 1 0) (same from (omega arith) (omega arith)) in
    let next : 1 + n ≡ suc n = omega arith in
    sum_by-cons g from (range_with_len (from + 1) n)
    ∙ (ap (λ k. k + sum_by g (range_with_len (from + 1) n)) first
    ∙ (ap (λ k. cond b 1 0 + k) later ∙ (both b 1 n ∙ ap (λ k. cond b k 0) next)))

-- the points of a run have its names
run_names : (old new : Entries) (counts a b : List ℕ) (p : ℕ) (r : Run) → IsRunAt old new counts p r → (q : ℕ) → p ≤ q → q < p + r.points → is_switched old new a b q ≡ is_between a b r
run_names old new counts a b p r is q low high =
    ap (λ o. bytes_eq (unwrap_or o []) a && bytes_eq (name_at new q) b) (is.old q low high) ∙ ap (λ n. bytes_eq r.from a && bytes_eq n b) (is.new q low high)

pub in_order : (old new : Entries) (counts : List ℕ) (p : ℕ) (rs : List Run) (end : ℕ) → AreRuns old new counts p rs end → p ≤ end
in_order old new counts p [] end are = omega (arith, are)
in_order old new counts p (r ∷ rs) end are = omega (arith, in_order old new counts (p + r.points) rs end are.1)

split_at : (g : ℕ → ℕ) (p n end : ℕ) → p + n ≤ end → sum_by g (range_with_len p (end - p)) ≡ sum_by g (range_with_len p n) + sum_by g (range_with_len (p + n) (end - (p + n)))
split_at g p n end order =
    let whole : end - p ≡ n + (end - (p + n)) = omega (arith, order) in
    ap (λ k. sum_by g (range_with_len p k)) whole ∙ (ap (sum_by g) (range-append p n (end - (p + n))) ∙ sum_by-append g (range_with_len p n) (range_with_len (p + n) (end - (p + n))))

nothing : (g : ℕ → ℕ) (p end : ℕ) → p ≡ end → 0 ≡ sum_by g (range_with_len p (end - p))
nothing g p end same =
    let left : 0 ≡ end - p = omega (arith, same) in
    ap (λ k. sum_by g (range_with_len p k)) left

pub users_told : (old new : Entries) (counts a b : List ℕ) (p : ℕ) (rs : List Run) (end : ℕ) → AreRuns old new counts p rs end → end ≤ length counts
    → run_users a b rs ≡ sum_by (λ q. cond (is_switched old new a b q) (slice_index counts q) 0) (range_with_len p (end - p))
users_told old new counts a b p [] end are fits = nothing (λ q. cond (is_switched old new a b q) (slice_index counts q) 0) p end are
users_told old new counts a b p (r ∷ rs) end are fits =
    let g : ℕ → ℕ = λ q. cond (is_switched old new a b q) (slice_index counts q) 0 in
    let order = in_order old new counts (p + r.points) rs end are.1 in
    let span : (p + r.points) - p ≡ r.points = omega arith in
    let here = flat_users (is_switched old new a b) (is_between a b r) counts p r.points (omega (arith, order, fits)) (run_names old new counts a b p r are.0) in
    let mine : cond (is_between a b r) r.users 0 ≡ sum_by g (range_with_len p r.points) =
    ap (λ k. cond (is_between a b r) k 0) (are.0.users ∙ ap (λ k. sum (take k (drop p counts))) span) ∙ sym here in
    sum_by-cons (λ x. cond (is_between a b x) x.users 0) r rs
    ∙ (ap (λ k. k + run_users a b rs) mine
    ∙ (ap (λ k. sum_by g (range_with_len p r.points) + k) (users_told old new counts a b (p + r.points) rs end are.1 fits)
    ∙ sym (split_at g p r.points end order)))

pub points_told : (old new : Entries) (counts a b : List ℕ) (p : ℕ) (rs : List Run) (end : ℕ) → AreRuns old new counts p rs end
    → run_points a b rs ≡ sum_by (λ q. cond (is_switched old new a b q) 1 0) (range_with_len p (end - p))
points_told old new counts a b p [] end are = nothing (λ q. cond (is_switched old new a b q) 1 0) p end are
points_told old new counts a b p (r ∷ rs) end are =
    let g : ℕ → ℕ = λ q. cond (is_switched old new a b q) 1 0 in
    let order = in_order old new counts (p + r.points) rs end are.1 in
    let mine = flat_points (is_switched old new a b) (is_between a b r) p r.points (run_names old new counts a b p r are.0) in
    sum_by-cons (λ x. cond (is_between a b x) x.points 0) r rs
    ∙ (ap (λ k. k + run_points a b rs) (sym mine)
    ∙ (ap (λ k. sum_by g (range_with_len p r.points) + k) (points_told old new counts a b (p + r.points) rs end are.1)
    ∙ sym (split_at g p r.points end order)))

-- ---- all points and all users

pub all_points : (old new : Entries) (counts : List ℕ) (p : ℕ) (rs : List Run) (end : ℕ) → AreRuns old new counts p rs end → p + sum_by (λ r. r.points) rs ≡ end
all_points old new counts p [] end are = omega (arith, are)
all_points old new counts p (r ∷ rs) end are = omega (arith, sum_by-cons (λ x. x.points) r rs, all_points old new counts (p + r.points) rs end are.1)

part_sum : (counts : List ℕ) (from to : ℕ) → from ≤ to → sum (drop from counts) ≡ sum (slice_range counts from to) + sum (drop to counts)
part_sum counts from to order = ap sum (drop_split counts from to order) ∙ sum-append (slice_range counts from to) (drop to counts)

-- no more users than there are inputs
pub all_users : (old new : Entries) (counts : List ℕ) (p : ℕ) (rs : List Run) (end : ℕ) → AreRuns old new counts p rs end → sum_by (λ r. r.users) rs + sum (drop end counts) ≡ sum (drop p counts)
all_users old new counts p [] end are = ap (λ k. 0 + sum (drop k counts)) (sym are) ∙ plain (sum (drop p counts))
  where
    plain : (n : ℕ) → 0 + n ≡ n
    plain n = omega arith
all_users old new counts p (r ∷ rs) end are =
    omega (arith, sum_by-cons (λ (x : Run). x.users) r rs, all_users old new counts (p + r.points) rs end are.1, part_sum counts p (p + r.points) (omega arith), are.0.users)

-- the inputs of some points are some of all
pub part_few : (counts : List ℕ) (p n : ℕ) → sum (take n (drop p counts)) ≤ sum counts
part_few counts p n =
    omega (arith, sum-append (take n (drop p counts)) (drop n (drop p counts)), ap sum (take-append-drop n (drop p counts)), sum-append (take p counts) (drop p counts), ap sum (take-append-drop p counts))
