-- From what was counted to the switches.
use Rattle.std.proofs.Common.{◌≡◌, ◌≢◌, ◌⊎◌, inl, inr, ⊎_elim, ℕ, zero, suc, ◌+◌, ◌<◌, ◌≤◌, List, [], ◌∷◌, ◌++◌, length, map, get_or, drop, Bool, true, false, not, ◌&&◌, cond, Option, Some, None, unwrap_or, sum_by, count_by, refl, sym, ap, ◌∙◌, subst, arith}
use Rattle.std.specs.Borrow.{Bor}
use Rattle.std.specs.List.{All}
use Rattle.std.specs.List.Sorted.{IsStrictlySortedBy}
use Rattle.std.specs.Map.{keys_of, lookup, set_value}
use Rattle.std.specs.Str.{bytes_eq}
use Rattle.std.proofs.lemmas.Bool.{cases_Bool}
use Rattle.std.proofs.lemmas.List.{length_push}
use Rattle.std.proofs.lemmas.List.Elements.{All-cons, All-head, All-tail}
use Rattle.std.proofs.lemmas.List.Sums.{sum_by-cons, sum_by_push}
use Rattle.std.proofs.lemmas.Slice.Eq.{bytes_eq-Decides}
use Rattle.exposures.specs.Exposure.{Inputs}
use Rattle.bucket_core.specs.Rule.{Entries}
use Rattle.price_core.specs.Cost.{cost_of, input_cost, name_of_input}
use Rattle.price_core.specs.Pricing.{Pair, is_same_pair, pair_cmp}
use Rattle.price_core.proofs.Changes.{pair_cmp_total}
use Rattle.transport_core.proofs.Joined.{lookup-amount}
use Rattle.rule_switches.specs.Counting.{Adds, AreRows, Counted, HasCounted, moves, names_in, names_of, passed, users_of}
use Rattle.rule_switches.specs.declared.counting.Cell.{Cell}
use Rattle.rule_switches.specs.Switches.{AreSwitches, Rows, SwitchesAreCost, at_price_one, number_at, switched, switches}

-- ---- tests that agree count the same

pub count-same : {X : Type 0} (p q : X → Bool) (xs : List X) → ((x : X) → p x ≡ q x) → count_by p xs ≡ count_by q xs
count-same p q xs same = λ i. count_by (λ x. same x i) xs

count-cons : {X : Type 0} (p : X → Bool) (x : X) (xs : List X) → count_by p (x ∷ xs) ≡ cond (p x) 1 0 + count_by p xs
count-cons p x xs = sum_by-cons (λ y. cond (p y) 1 0) x xs

-- ---- one input more

pub counted_more : (old new : Counted) (input : List ℕ) (inputs : Inputs) → Adds old new (names_of old.before old.after input) 1 → HasCounted old inputs → HasCounted new (inputs ++ input ∷ [])
counted_more old new input inputs adds had = record {
  number = omega (arith, adds.inputs, had.number, length_push inputs input);
  users = λ test.
      let f : List ℕ → ℕ = λ x. cond (test (names_of old.before old.after x)) 1 0 in
      let pushed : sum_by f (inputs ++ input ∷ []) ≡ sum_by f inputs + f input = sum_by_push f inputs input in
      let same : sum_by f (inputs ++ input ∷ []) ≡ count_by (λ x. test (names_of new.before new.after x)) (inputs ++ input ∷ []) = λ i. count_by (λ x. test (names_of ((sym adds.before) i) ((sym adds.after) i) x)) (inputs ++ input ∷ []) in
      omega (arith, adds.counted test, had.users test, pushed) ∙ same;
}

-- ---- rows

same_names : (a b : List ℕ) → bytes_eq a b ≡ true → a ≡ b
same_names a b = (bytes_eq-Decides a b).0

both_true : (a b : Bool) → (a && b) ≡ true → (a ≡ true) × (b ≡ true)
both_true true true e = (refl, refl)
both_true true false e = absurd cc
both_true false b e = absurd cc

same_pair : (p q : Pair) → is_same_pair p q ≡ true → p ≡ q
same_pair p q is =
    let parts = both_true (bytes_eq p.0 q.0) (bytes_eq p.1 q.1) is in
    λ i. (same_names p.0 q.0 parts.0 i, same_names p.1 q.1 parts.1 i)

passed-cons : (test : Pair → Bool) (row : Pair × ℕ) (rows : Rows) → passed test (row ∷ rows) ≡ cond (test row.0) row.1 0 + passed test rows
passed-cons test row rows = sum_by-cons (λ r. cond (test r.0) r.1 0) row rows

pub all_passed : (rows : Rows) → passed (λ p. true) rows ≡ sum_by (λ r. r.1) rows
all_passed rows = refl

-- rows whose names are equal have no inputs, so there is none
no_equal : (rows : Rows) → All (λ r. 0 < r.1) rows → passed (λ p. bytes_eq p.0 p.1) rows ≡ 0 → All (λ r. r.0.0 ≢ r.0.1) rows
no_equal [] some none = λ k d low. absurd (omega (arith, low))
no_equal (r ∷ rs) some none =
    let here : 0 < r.1 = All-head (λ (x : Pair × ℕ). 0 < x.1) r rs some in
    let parts = passed-cons (λ p. bytes_eq p.0 p.1) r rs in
    All-cons (λ (x : Pair × ℕ). x.0.0 ≢ x.0.1) r rs
    (λ same. let is : bytes_eq r.0.0 r.0.1 ≡ true = (bytes_eq-Decides r.0.0 r.0.1).1 same in
    let whole : cond (bytes_eq r.0.0 r.0.1) r.1 0 ≡ r.1 = ap (λ (b : Bool). let n : ℕ = cond b r.1 0 in n) is in
    omega (arith, here, parts, none, whole))
    (no_equal rs (All-tail (λ (x : Pair × ℕ). 0 < x.1) r rs some) (omega (arith, parts, none)))

never : (b : Bool) → (not b && b) ≡ false
never true = refl
never false = refl

always : (b : Bool) → (b && true) ≡ b
always true = refl
always false = refl

no_count : {X : Type 0} (xs : List X) → count_by (λ x. false) xs ≡ 0
no_count [] = refl
no_count (x ∷ xs) = omega (arith, count-cons (λ y. false) x xs, no_count xs)

-- of names that differ, a change to them is one
apart_by : (a b n m : List ℕ) → a ≢ b → (bytes_eq n m ≡ true) ⊎ (bytes_eq n m ≡ false) → (is_same_pair (a, b) (n, m) ≡ true) ⊎ (is_same_pair (a, b) (n, m) ≡ false) → moves (is_same_pair (a, b)) (n, m) ≡ is_same_pair (a, b) (n, m)
apart_by a b n m ne (inl same) (inl is) =
    let pair = same_pair (a, b) (n, m) is in
    absurd (ne (ap (λ (p : Pair). p.0) pair ∙ same_names n m same ∙ sym (ap (λ (p : Pair). p.1) pair)))
apart_by a b n m ne (inl same) (inr other) = cc
apart_by a b n m ne (inr other) is = cc

apart : (a b n m : List ℕ) → a ≢ b → moves (is_same_pair (a, b)) (n, m) ≡ is_same_pair (a, b) (n, m)
apart a b n m ne = apart_by a b n m ne (cases_Bool (bytes_eq n m)) (cases_Bool (is_same_pair (a, b) (n, m)))

pub switches_counted : (s : Counted) (inputs : Inputs) (rows : Rows) → HasCounted s inputs → AreRows s rows → AreSwitches s.before s.after inputs rows
switches_counted s inputs rows had are =
    let names = names_of s.before s.after in
    record {
      rise = are.rise;
      some = are.some;
      apart =
          let none : count_by (λ input. moves (λ p. bytes_eq p.0 p.1) (names input)) inputs ≡ 0 =
          count-same (λ input. moves (λ p. bytes_eq p.0 p.1) (names input)) (λ input. false) inputs (λ input. never (bytes_eq (names input).0 (names input).1)) ∙ no_count inputs in
          no_equal rows are.some (are.counted (λ p. bytes_eq p.0 p.1) ∙ (had.users (moves (λ p. bytes_eq p.0 p.1)) ∙ none));
      each = λ a b ne.
          lookup-amount is_same_pair same_pair pair_cmp pair_cmp_total (a, b) rows are.rise
          ∙ (are.counted (is_same_pair (a, b)) ∙ (had.users (moves (is_same_pair (a, b)))
          ∙ count-same (λ input. moves (is_same_pair (a, b)) (names input)) (λ input. is_same_pair (a, b) (names input)) inputs (λ input. apart a b (names input).0 (names input).1 ne)));
      whole =
          are.counted (λ p. true) ∙ (had.users (moves (λ p. true))
          ∙ count-same (λ input. moves (λ p. true) (names input)) (λ input. not (bytes_eq (names input).0 (names input).1)) inputs (λ input. always (not (bytes_eq (names input).0 (names input).1))));
    }

-- ---- the cost

turned : (b : Bool) (n m : ℕ) → cond (not b) n m ≡ cond b m n
turned true n m = refl
turned false n m = refl

pub costs : SwitchesAreCost
costs before after [] = refl
costs before after (input ∷ inputs) =
    let same = bytes_eq (name_of_input before input) (name_of_input after input) in
    omega (arith, count-cons (λ x. not (bytes_eq (name_of_input before x) (name_of_input after x))) input inputs, sum_by-cons (λ x. x) (input_cost before after at_price_one input) (map (input_cost before after at_price_one) inputs), turned same 1 0, costs before after inputs)

-- ---- rows in the program

some_set_by : {K : Type 0} (b : Bool) (e : K × ℕ) (es more : List (K × ℕ)) (w : ℕ) → 0 < w → All (λ x. 0 < x.1) (e ∷ es) → All (λ x. 0 < x.1) more → All (λ x. 0 < x.1) (cond b ((e.0, w) ∷ es) (e ∷ more))
some_set_by {K} true e es more w some all rest = All-cons (λ (x : K × ℕ). 0 < x.1) (e.0, w) es some (All-tail (λ (x : K × ℕ). 0 < x.1) e es all)
some_set_by {K} false e es more w some all rest = All-cons (λ (x : K × ℕ). 0 < x.1) e more (All-head (λ (x : K × ℕ). 0 < x.1) e es all) rest

pub some_set : {K : Type 0} (test : K → Bool) (es : List (K × ℕ)) (w : ℕ) → 0 < w → All (λ e. 0 < e.1) es → All (λ e. 0 < e.1) (set_value test es w)
some_set test [] w some all = all
some_set {K} test (e ∷ es) w some all = some_set_by (test e.0) e es (set_value test es w) w some all (some_set test es w some (All-tail (λ (x : K × ℕ). 0 < x.1) e es all))

pub some_seen : {K J : Type 0} (f : K × ℕ → J × ℕ) (same : (e : K × ℕ) → (f e).1 ≡ e.1) (es : List (K × ℕ)) → All (λ e. 0 < e.1) es → All (λ e. 0 < e.1) (map f es)
some_seen f same [] all = λ k d low. absurd (omega (arith, low))
some_seen {K} {J} f same (e ∷ es) all =
    All-cons (λ (x : J × ℕ). 0 < x.1) (f e) (map f es) (omega (arith, same e, All-head (λ (x : K × ℕ). 0 < x.1) e es all)) (some_seen f same es (All-tail (λ (x : K × ℕ). 0 < x.1) e es all))

-- ---- no more than all

part_le : {X : Type 0} (test : X → Bool) (f : X → ℕ) (xs : List X) → sum_by (λ x. cond (test x) (f x) 0) xs ≤ sum_by f xs
part_le test f [] = omega arith
part_le test f (x ∷ xs) = omega (arith, sum_by-cons (λ y. cond (test y) (f y) 0) x xs, sum_by-cons f x xs, part_le test f xs, one_le (test x) (f x))
  where
    one_le : (b : Bool) (n : ℕ) → cond b n 0 ≤ n
    one_le true n = omega arith
    one_le false n = omega arith

pub rows_few : (s : Counted) (rows : Rows) → AreRows s rows → sum_by (λ c. c.users) s.cells ≡ s.inputs → sum_by (λ r. r.1) rows ≤ s.inputs
rows_few s rows are whole =
    let all : sum_by (λ r. r.1) rows ≡ users_of s (moves (λ p. true)) = are.counted (λ p. true) in
    omega (arith, all, part_le (λ (c : Cell). moves (λ p. true) (names_in s.before s.after c)) (λ (c : Cell). c.users) s.cells, whole)
