-- Rows of a key and a number, of which one has more.
use Rattle.std.proofs.Common.{◌≡◌, ℕ, ◌+◌, ◌≤◌, List, [], ◌∷◌, map, Bool, true, false, cond, Option, Some, None, Ordering, sum_by, refl, sym, ap, ◌∙◌, arith}
use Rattle.std.specs.BTreeMap.{insert_entry, is_at}
use Rattle.std.specs.Borrow.{Bor}
use Rattle.std.specs.Map.{lookup, set_value}
use Rattle.std.specs.Ordering.{is_eq, match_ordering, on}
use Rattle.std.specs.declared.cmp.Ordering.TheVariants.{Less, Equal, Greater}
use Rattle.std.proofs.lemmas.List.Sums.{sum_by-cons}
use Rattle.std.proofs.lemmas.Option.{none-some, same_Some}
use Rattle.price_core.specs.Pricing.{Pair, lent_entry, lent_pair, pair_cmp}
use Rattle.price_core.proofs.Changes.{pair_exact}
use Rattle.rule_switches.specs.Counting.{passed}

-- two names where they lie
abbrev pub Lent : Type 0
Lent = Bor (List ℕ) × Bor (List ℕ)

-- in the order of pairs
abbrev pub lent_cmp : Lent → Lent → Ordering
lent_cmp = on lent_pair pair_cmp

-- whether a row is of these names
abbrev pub is_of : Lent → Lent → Bool
is_of key = is_at (lent_cmp key)

-- the numbers of the keys that pass a test
abbrev pub amount : {K : Type 0} → (K → Bool) → List (K × ℕ) → ℕ
amount test rows = sum_by (λ r. cond (test r.0) r.1 0) rows

pub amount-cons : {K : Type 0} (test : K → Bool) (row : K × ℕ) (rows : List (K × ℕ)) → amount test (row ∷ rows) ≡ cond (test row.0) row.1 0 + amount test rows
amount-cons test row rows = sum_by-cons (λ r. cond (test r.0) r.1 0) row rows

both_parts : (b : Bool) (m n : ℕ) → cond b (m + n) 0 ≡ cond b m 0 + cond b n 0
both_parts true m n = refl
both_parts false m n = omega arith

-- seen as pairs of texts
pub amount-lent : (test : Pair → Bool) (rows : List (Lent × ℕ)) → passed test (map lent_entry rows) ≡ amount (λ k. test (lent_pair k)) rows
amount-lent test [] = refl
amount-lent test (r ∷ rs) = omega (arith, amount-cons test (lent_entry r) (map lent_entry rs), amount-cons (λ (k : Lent). test (lent_pair k)) r rs, amount-lent test rs)

-- a row is a part of them all
found-le_by : (b : Bool) (r : Lent × ℕ) (rs : List (Lent × ℕ)) (o : Option ℕ) (total : ℕ) → (o ≡ Some total → total ≤ sum_by (λ x. x.1) rs) → cond b (Some r.1) o ≡ Some total → total ≤ sum_by (λ x. x.1) (r ∷ rs)
found-le_by true r rs o total later here = omega (arith, sum_by-cons (λ (x : Lent × ℕ). x.1) r rs, same_Some r.1 total here)
found-le_by false r rs o total later found = omega (arith, sum_by-cons (λ (x : Lent × ℕ). x.1) r rs, later found)

pub found-le : (has : Lent → Bool) (rows : List (Lent × ℕ)) (total : ℕ) → lookup has rows ≡ Some total → total ≤ sum_by (λ x. x.1) rows
found-le has [] total found = absurd (none-some total found)
found-le has (r ∷ rs) total found = found-le_by (has r.0) r rs (lookup has rs) total (found-le has rs total) found

-- a row of the same names passes the same tests
pub same_test : (test : Pair → Bool) (key k : Lent) → is_of key k ≡ true → test (lent_pair key) ≡ test (lent_pair k)
same_test test key k is = by (pair_cmp (lent_pair key) (lent_pair k)) refl is
  where
    by : (o : Ordering) → pair_cmp (lent_pair key) (lent_pair k) ≡ o → is_eq o ≡ true → test (lent_pair key) ≡ test (lent_pair k)
    by Less here is = absurd cc
    by Equal here is = ap test (pair_exact (lent_pair key) (lent_pair k) here)
    by Greater here is = absurd cc

module _ (test : Pair → Bool) (key : Lent) where
  -- one row has more
  set_by : (r : Lent × ℕ) (rs : List (Lent × ℕ)) (total more : ℕ) (b : Bool)
      → (lookup (is_of key) rs ≡ Some total → amount (λ k. test (lent_pair k)) (set_value (is_of key) rs (total + more)) ≡ amount (λ k. test (lent_pair k)) rs + cond (test (lent_pair key)) more 0)
      → is_of key r.0 ≡ b → cond b (Some r.1) (lookup (is_of key) rs) ≡ Some total
      → amount (λ k. test (lent_pair k)) (cond b ((r.0, total + more) ∷ rs) (r ∷ set_value (is_of key) rs (total + more))) ≡ amount (λ k. test (lent_pair k)) (r ∷ rs) + cond (test (lent_pair key)) more 0
  set_by r rs total more true later is here =
      let t : Lent → Bool = λ k. test (lent_pair k) in
      let had : cond (t r.0) r.1 0 ≡ cond (t r.0) total 0 = ap (λ (n : ℕ). let k : ℕ = cond (t r.0) n 0 in k) (same_Some r.1 total here) in
      let moved : cond (t key) more 0 ≡ cond (t r.0) more 0 = ap (λ (b : Bool). let k : ℕ = cond b more 0 in k) (same_test test key r.0 is) in
      omega (arith, amount-cons t (r.0, total + more) rs, amount-cons t r rs, both_parts (t r.0) total more, had, moved)
  set_by r rs total more false later is found =
      let t : Lent → Bool = λ k. test (lent_pair k) in
      omega (arith, amount-cons t r rs, amount-cons t r (set_value (is_of key) rs (total + more)), later found)

  pub amount-set : (rows : List (Lent × ℕ)) (total more : ℕ) → lookup (is_of key) rows ≡ Some total
      → amount (λ k. test (lent_pair k)) (set_value (is_of key) rows (total + more)) ≡ amount (λ k. test (lent_pair k)) rows + cond (test (lent_pair key)) more 0
  amount-set [] total more found = absurd (none-some total found)
  amount-set (r ∷ rs) total more found = set_by r rs total more (is_of key r.0) (amount-set rs total more) refl found

  -- a row more
  insert_by : (r : Lent × ℕ) (rs : List (Lent × ℕ)) (more : ℕ) (o : Ordering)
      → (lookup (is_of key) rs ≡ None → amount (λ k. test (lent_pair k)) (insert_entry lent_cmp rs key more) ≡ amount (λ k. test (lent_pair k)) rs + cond (test (lent_pair key)) more 0)
      → cond (is_eq o) (Some r.1) (lookup (is_of key) rs) ≡ None
      → amount (λ k. test (lent_pair k)) (match_ordering o ((key, more) ∷ r ∷ rs) ((r.0, more) ∷ rs) (r ∷ insert_entry lent_cmp rs key more)) ≡ amount (λ k. test (lent_pair k)) (r ∷ rs) + cond (test (lent_pair key)) more 0
  insert_by r rs more Less later none = let t : Lent → Bool = λ k. test (lent_pair k) in omega (arith, amount-cons t (key, more) (r ∷ rs))
  insert_by r rs more Equal later none = absurd (none-some r.1 (sym none))
  insert_by r rs more Greater later none =
      let t : Lent → Bool = λ k. test (lent_pair k) in
      omega (arith, amount-cons t r rs, amount-cons t r (insert_entry lent_cmp rs key more), later none)

  pub amount-insert : (rows : List (Lent × ℕ)) (more : ℕ) → lookup (is_of key) rows ≡ None
      → amount (λ k. test (lent_pair k)) (insert_entry lent_cmp rows key more) ≡ amount (λ k. test (lent_pair k)) rows + cond (test (lent_pair key)) more 0
  amount-insert [] more none = let t : Lent → Bool = λ k. test (lent_pair k) in omega (arith, amount-cons t (key, more) [])
  amount-insert (r ∷ rs) more none = insert_by r rs more (pair_cmp (lent_pair key) (lent_pair r.0)) (amount-insert rs more) none

  -- the same, seen as pairs of texts
  pub passed-set : (rows : List (Lent × ℕ)) (total more : ℕ) → lookup (is_of key) rows ≡ Some total
      → passed test (map lent_entry (set_value (is_of key) rows (total + more))) ≡ passed test (map lent_entry rows) + cond (test (lent_pair key)) more 0
  passed-set rows total more found = omega (arith, amount-lent test (set_value (is_of key) rows (total + more)), amount-lent test rows, amount-set rows total more found)

  pub passed-insert : (rows : List (Lent × ℕ)) (more : ℕ) → lookup (is_of key) rows ≡ None
      → passed test (map lent_entry (insert_entry lent_cmp rows key more)) ≡ passed test (map lent_entry rows) + cond (test (lent_pair key)) more 0
  passed-insert rows more none = omega (arith, amount-lent test (insert_entry lent_cmp rows key more), amount-lent test rows, amount-insert rows more none)
