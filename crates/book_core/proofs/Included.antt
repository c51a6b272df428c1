-- A list in strictly rising order has as many as any other such list of which it has all.
use Rattle.std.proofs.Common.{◌≡◌, ◌≤◌, Bool, true, false, ◌||◌, List, [], ◌∷◌, length, Ordering, ◌⊎◌, inl, inr, ⊎_elim, refl, sym, ap, ◌∙◌, arith}
use Rattle.std.specs.declared.cmp.Ordering.TheVariants.{Less, Equal, Greater}
use Rattle.std.specs.Cmp.{IsTotalOrder, tied_itself}
use Rattle.std.specs.Ordering.{is_eq, ordering_reverse}
use Rattle.std.specs.List.{list_any, AllByRecursion}
use Rattle.std.specs.List.Sorted.{IsStrictlySortedBy}
use Rattle.std.specs.BTreeMap.{is_at}
use Rattle.book_core.proofs.Ordered.{below_all}

found_first : (o : Ordering) (later : Bool) → (is_eq o || later) ≡ true → (o ≡ Equal) ⊎ (later ≡ true)
found_first Less later found = inr found
found_first Equal later found = inl refl
found_first Greater later found = inr found

or_true : (b : Bool) → (b || true) ≡ true
or_true true = refl
or_true false = refl

-- what is found among those above y is above y
above_found : {K : Type 0} {R : K → K → Ordering} → IsTotalOrder R → (y : K) (ks : List K) (k : K) → AllByRecursion (λ x. R y x ≡ Less) ks → list_any (is_at (R k)) ks ≡ true → R y k ≡ Less
above_found o y [] k above found = cc
above_found {R = R} o y (x ∷ xs) k above found =
    ⊎_elim
    (λ (tied : R k x ≡ Equal). o.antisymm y k ∙ ap ordering_reverse (o.congr k x y tied) ∙ sym (o.antisymm y x) ∙ above.0)
    (λ (later : list_any (is_at (R k)) xs ≡ true). above_found o y xs k above.1 later)
    (found_first (R k x) (list_any (is_at (R k)) xs) found)

-- what is above y and found among y and others is found among the others
past_first : {K : Type 0} {R : K → K → Ordering} → IsTotalOrder R → (y : K) (ys : List K) (k : K) → R y k ≡ Less → list_any (is_at (R k)) (y ∷ ys) ≡ true → list_any (is_at (R k)) ys ≡ true
past_first {R = R} o y ys k above found =
    let turned : R k y ≡ ordering_reverse Less = o.antisymm k y ∙ ap ordering_reverse above in
    ⊎_elim
    (λ (tied : R k y ≡ Equal). let no : ordering_reverse Less ≡ Equal = sym turned ∙ tied in cc)
    (λ (later : list_any (is_at (R k)) ys ≡ true). later)
    (found_first (R k y) (list_any (is_at (R k)) ys) found)

pub as_many : {K : Type 0} {R : K → K → Ordering} → IsTotalOrder R → (xs ys : List K) → IsStrictlySortedBy R xs → IsStrictlySortedBy R ys → ((k : K) → list_any (is_at (R k)) xs ≡ true → list_any (is_at (R k)) ys ≡ true) → length xs ≤ length ys
unfolding IsStrictlySortedBy
as_many o [] ys rising other_rising all = omega arith
as_many {K = K} {R = R} o (x ∷ xs) [] rising other_rising all =
    let here : list_any (is_at (R x)) (x ∷ xs) ≡ true = rw (tied_itself o x) refl in
    let none = all x here in cc
as_many {K = K} {R = R} o (x ∷ xs) (y ∷ ys) rising other_rising all =
    let here : list_any (is_at (R x)) (x ∷ xs) ≡ true = rw (tied_itself o x) refl in
    let there = found_first (R x y) (list_any (is_at (R x)) ys) (all x here) in
    let later : (k : K) → list_any (is_at (R k)) xs ≡ true → list_any (is_at (R k)) (x ∷ xs) ≡ true = λ k found. rw found (or_true (is_eq (R k x))) in
    elim (R x y) as (λ r. R x y ≡ r → length (x ∷ xs) ≤ length (y ∷ ys)) [
      | Less ↦ λ e.
          ⊎_elim
          (λ (tied : R x y ≡ Equal). let no : Less ≡ Equal = sym e ∙ tied in cc)
          (λ (found : list_any (is_at (R x)) ys ≡ true).
          let up : R y x ≡ Less = above_found o y ys x other_rising.0 found in
          let no : Less ≡ ordering_reverse Less = sym e ∙ o.antisymm x y ∙ ap ordering_reverse up in cc)
          there
      | Equal ↦ λ e.
          let rest : (k : K) → list_any (is_at (R k)) xs ≡ true → list_any (is_at (R k)) ys ≡ true = λ k found.
          let above : R y k ≡ Less = sym (o.congr x y k e) ∙ above_found o x xs k rising.0 found in
          past_first o y ys k above (all k (later k found)) in
          let fewer = as_many o xs ys rising.1 other_rising.1 rest in
          omega (arith, fewer)
      | Greater ↦ λ e.
          let low : R y x ≡ Less = o.antisymm y x ∙ ap ordering_reverse e in
          let rest : (k : K) → list_any (is_at (R k)) (x ∷ xs) ≡ true → list_any (is_at (R k)) ys ≡ true = λ k found.
          let above : R y k ≡ Less = above_found o y (x ∷ xs) k (low, below_all o y x xs low rising.0) found in
          past_first o y ys k above (all k found) in
          let fewer = as_many o (x ∷ xs) ys rising other_rising.1 rest in
          omega (arith, fewer)
    ] refl
