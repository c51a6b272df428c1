-- What an assignment says of the rules that have it.
use Rattle.std.proofs.Common.{◌≡◌, ◌⊎◌, inl, inr, ⊎_elim, ℕ, zero, suc, ◌+◌, ◌*◌, ◌<◌, List, [], ◌∷◌, Bool, true, false, cond, Some, sum_by, count_by, refl, sym, ap, subst, arith}
use Rattle.std.specs.List.{slice_get}
use Rattle.std.proofs.lemmas.Bool.{cases_Bool, cond-true, cond-false}
use Rattle.std.proofs.lemmas.List.Sums.{sum_by-cons}
use Rattle.transport_core.specs.Rows.{amount_of}

-- ---- two lists that have as many of each key have the same sums over keys

-- a sum over rows, of something of each key as often as it is there
abbrev pub weigh : {K : Type 0} → (K → ℕ) → List (K × ℕ) → ℕ
weigh f rows = sum_by (λ r. r.1 * f r.0) rows

module _ {K : Type 0} (same : K → K → Bool) (only : (a b : K) → same a b ≡ true → a ≡ b) (self : (k : K) → same k k ≡ true) where
  amount-cons : (r : K × ℕ) (rows : List (K × ℕ)) (k : K) → amount_of same (r ∷ rows) k ≡ cond (same k r.0) r.1 0 + amount_of same rows k
  amount-cons r rows k = sum_by-cons (λ (x : K × ℕ). cond (same k x.0) x.1 0) r rows

  weigh-cons : (f : K → ℕ) (r : K × ℕ) (rows : List (K × ℕ)) → weigh f (r ∷ rows) ≡ r.1 * f r.0 + weigh f rows
  weigh-cons f r rows = sum_by-cons (λ (x : K × ℕ). x.1 * f x.0) r rows

  -- the rows without one of a key
  record Without (rows : List (K × ℕ)) (k : K) : Type 0 where
    pub rest : List (K × ℕ)
    pub amounts : (j : K) → amount_of same rows j ≡ cond (same j k) 1 0 + amount_of same rest j
    pub weights : (f : K → ℕ) → weigh f rows ≡ f k + weigh f rest

  one_less : (b : Bool) (n m : ℕ) → cond b (suc n) 0 + m ≡ cond b 1 0 + (cond b n 0 + m)
  one_less true n m = omega arith
  one_less false n m = omega arith

  more : (n x : ℕ) → suc n * x ≡ x + n * x
  more n x = omega arith

  without_first : (k : K) (n : ℕ) (rows : List (K × ℕ)) → Without ((k, suc n) ∷ rows) k
  without_first k n rows = record {
    rest = (k, n) ∷ rows;
    amounts = λ j. omega (arith, amount-cons (k, suc n) rows j, amount-cons (k, n) rows j, one_less (same j k) n (amount_of same rows j));
    weights = λ f. omega (arith, weigh-cons f (k, suc n) rows, weigh-cons f (k, n) rows, more n (f k));
  }

  without_later : (r : K × ℕ) (rows : List (K × ℕ)) (k : K) → Without rows k → Without (r ∷ rows) k
  without_later r rows k w = record {
    rest = r ∷ w.rest;
    amounts = λ j. omega (arith, amount-cons r rows j, amount-cons r w.rest j, w.amounts j);
    weights = λ f. omega (arith, weigh-cons f r rows, weigh-cons f r w.rest, w.weights f);
  }

  without_by : (key : K) (n : ℕ) (rows : List (K × ℕ)) (k : K) → k ≡ key → Without rows k ⊎ (0 < n) → Without ((key, n) ∷ rows) k
  without_by key n rows k is (inl w) = without_later (key, n) rows k w
  without_by key zero rows k is (inr some) = absurd (omega arith)
  without_by key (suc n) rows k is (inr some) = subst (λ (j : K). Without ((key, suc n) ∷ rows) j) (sym is) (without_first key n rows)

  zero_or : (n : ℕ) → (n ≡ 0) ⊎ (0 < n)
  zero_or zero = inl refl
  zero_or (suc n) = inr (omega arith)

  without : (rows : List (K × ℕ)) (k : K) → 0 < amount_of same rows k → Without rows k
  without [] k some = absurd (omega arith)
  without (r ∷ rows) k some =
      ⊎_elim
      (λ (ties : same k r.0 ≡ true).
      ⊎_elim
      (λ (none : r.1 ≡ 0). without_later r rows k (without rows k (omega (arith, some, amount-cons r rows k, cond-true {A = ℕ} (same k r.0) r.1 0 ties, none))))
      (λ (here : 0 < r.1). without_by r.0 r.1 rows k (only k r.0 ties) (inr here))
      (zero_or r.1))
      (λ (apart : same k r.0 ≡ false). without_later r rows k (without rows k (omega (arith, some, amount-cons r rows k, cond-false {A = ℕ} (same k r.0) r.1 0 apart))))
      (cases_Bool (same k r.0))

  nothing : (f : K → ℕ) (rows : List (K × ℕ)) → ((k : K) → amount_of same rows k ≡ 0) → weigh f rows ≡ 0
  nothing f [] none = refl
  nothing f (r ∷ rows) none =
      let empty : r.1 ≡ 0 = omega (arith, none r.0, amount-cons r rows r.0, cond-true {A = ℕ} (same r.0 r.0) r.1 0 (self r.0)) in
      let free : r.1 * f r.0 ≡ 0 * f r.0 = ap (λ n. n * f r.0) empty in
      omega (arith, weigh-cons f r rows, free, nothing f rows (λ k. omega (arith, none k, amount-cons r rows k)))

  -- as many elements of each key as the rows have
  pub weighed : {X : Type 0} (key : X → K) (f : K → ℕ) (xs : List X) (rows : List (K × ℕ)) → ((k : K) → count_by (λ x. same k (key x)) xs ≡ amount_of same rows k) → sum_by (λ x. f (key x)) xs ≡ weigh f rows
  weighed key f [] rows counts = sym (nothing f rows (λ k. sym (counts k)))
  weighed {X} key f (x ∷ xs) rows counts =
      let tally : (k : K) → count_by (λ y. same k (key y)) (x ∷ xs) ≡ cond (same k (key x)) 1 0 + count_by (λ y. same k (key y)) xs = λ k. sum_by-cons (λ (y : X). cond (same k (key y)) 1 0) x xs in
      let w = without rows (key x) (omega (arith, counts (key x), tally (key x), cond-true {A = ℕ} (same (key x) (key x)) 1 0 (self (key x)))) in
      let rest = weighed key f xs w.rest (λ k. omega (arith, counts k, tally k, w.amounts k)) in
      omega (arith, sum_by-cons (λ (y : X). f (key y)) x xs, rest, w.weights f)

  -- what is there stands in a row
  pub row_there : (rows : List (K × ℕ)) (k : K) → 0 < amount_of same rows k → (i : ℕ) × (r : K × ℕ) × (slice_get rows i ≡ Some r) × (r.0 ≡ k) × (0 < r.1)
  row_there [] k some = absurd (omega arith)
  row_there (r ∷ rows) k some =
      let later : 0 < amount_of same rows k → (i : ℕ) × (s : K × ℕ) × (slice_get (r ∷ rows) i ≡ Some s) × (s.0 ≡ k) × (0 < s.1) = λ h. let rest = row_there rows k h in (suc (rest.0), rest.1, rest.2, rest.3, rest.4) in
      ⊎_elim
      (λ (ties : same k r.0 ≡ true).
      ⊎_elim
      (λ (none : r.1 ≡ 0). later (omega (arith, some, amount-cons r rows k, cond-true {A = ℕ} (same k r.0) r.1 0 ties, none)))
      (λ (here : 0 < r.1). (0, r, refl, sym (only k r.0 ties), here))
      (zero_or r.1))
      (λ (apart : same k r.0 ≡ false). later (omega (arith, some, amount-cons r rows k, cond-false {A = ℕ} (same k r.0) r.1 0 apart)))
      (cases_Bool (same k r.0))
