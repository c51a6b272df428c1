-- Lists of the same inputs, each once, have the same sums.
use Rattle.std.proofs.Common.{◌≡◌, ℕ, ◌+◌, List, [], ◌∷◌, Bool, true, false, cond, ◌||◌, refl, sym, ap, ◌∙◌, subst, arith}
use Rattle.std.specs.Prelude.{sum_by}
use Rattle.std.specs.Cmp.{IsEquivalence}
use Rattle.std.proofs.lemmas.Cmp.{nat_list_eq_equiv}
use Rattle.std.specs.List.{AllByRecursion, IsDistinct}
use Rattle.std.specs.Str.{bytes_eq}
use Rattle.std.proofs.lemmas.List.Sums.{sum_by-cons}
use Rattle.std.proofs.lemmas.Slice.Eq.{bytes_eq-Decides}
use Rattle.book_core.specs.Book.{is_among}

-- without the first that is x
abbrev without : List ℕ → List (List ℕ) → List (List ℕ)
without x [] = []
without x (y ∷ ys) = cond (bytes_eq x y) ys (y ∷ without x ys)

laws : IsEquivalence bytes_eq
laws = nat_list_eq_equiv

alike : (x y : List ℕ) → bytes_eq x y ≡ true → x ≡ y
alike x y e = (bytes_eq-Decides x y).0 e

none_of : (x : List ℕ) (ys : List (List ℕ)) → AllByRecursion (λ y. bytes_eq x y ≡ false) ys → is_among x ys ≡ false
none_of x [] all = refl
none_of x (y ∷ ys) all = rw (all.0) (none_of x ys all.1)

-- ---- the sum

module _ (f : List ℕ → ℕ) where
  sum-step : (b : Bool) (x y : List ℕ) (ys : List (List ℕ)) → bytes_eq x y ≡ b → (b || is_among x ys) ≡ true
      → (is_among x ys ≡ true → sum_by f ys ≡ f x + sum_by f (without x ys)) → sum_by f (y ∷ ys) ≡ f x + sum_by f (cond b ys (y ∷ without x ys))
  sum-step true x y ys e among later = sum_by-cons f y ys ∙ ap (λ z. f z + sum_by f ys) (sym (alike x y e))
  sum-step false x y ys e among later = omega (arith, sum_by-cons f y ys, sum_by-cons f y (without x ys), later among)

  sum-without : (x : List ℕ) (ys : List (List ℕ)) → is_among x ys ≡ true → sum_by f ys ≡ f x + sum_by f (without x ys)
  sum-without x [] among = cc
  sum-without x (y ∷ ys) among = sum-step (bytes_eq x y) x y ys refl among (sum-without x ys)

-- ---- what is left

among-step : (b c : Bool) (q x y : List ℕ) (ys : List (List ℕ)) → bytes_eq x y ≡ b → bytes_eq x q ≡ c → AllByRecursion (λ z. bytes_eq y z ≡ false) ys
    → is_among q (without x ys) ≡ cond c false (is_among q ys) → is_among q (cond b ys (y ∷ without x ys)) ≡ cond c false (bytes_eq q y || is_among q ys)
among-step true true q x y ys e d all later =
    let is : y ≡ q = sym (alike x y e) ∙ alike x q d in
    subst (λ z. is_among z ys ≡ false) is (none_of y ys all)
among-step true false q x y ys e d all later =
    let other : bytes_eq q y ≡ false = laws.symm q y ∙ subst (λ z. bytes_eq z q ≡ false) (alike x y e) d in
    rw other refl
among-step false true q x y ys e d all later =
    let other : bytes_eq q y ≡ false = subst (λ z. bytes_eq z y ≡ false) (alike x q d) e in
    rw other later
among-step false false q x y ys e d all later = ap (λ b. bytes_eq q y || b) later

among-none : (c : Bool) → false ≡ cond c false false
among-none true = refl
among-none false = refl

among-without : (q x : List ℕ) (ys : List (List ℕ)) → IsDistinct bytes_eq ys → is_among q (without x ys) ≡ cond (bytes_eq x q) false (is_among q ys)
unfolding IsDistinct
among-without q x [] distinct = among-none (bytes_eq x q)
among-without q x (y ∷ ys) distinct = among-step (bytes_eq x y) (bytes_eq x q) q x y ys refl refl distinct.0 (among-without q x ys distinct.1)

all-step : (P : List ℕ → Type 0) (b : Bool) (y : List ℕ) (ys zs : List (List ℕ)) → P y → AllByRecursion P ys → AllByRecursion P zs → AllByRecursion P (cond b ys (y ∷ zs))
all-step P true y ys zs here all rest = all
all-step P false y ys zs here all rest = (here, rest)

all-without : (P : List ℕ → Type 0) (x : List ℕ) (ys : List (List ℕ)) → AllByRecursion P ys → AllByRecursion P (without x ys)
all-without P x [] all = tt
all-without P x (y ∷ ys) all = all-step P (bytes_eq x y) y ys (without x ys) all.0 all.1 (all-without P x ys all.1)

distinct-step : (b : Bool) (x y : List ℕ) (ys : List (List ℕ)) → IsDistinct bytes_eq (y ∷ ys) → IsDistinct bytes_eq (without x ys) → IsDistinct bytes_eq (cond b ys (y ∷ without x ys))
unfolding IsDistinct
distinct-step true x y ys distinct later = distinct.1
distinct-step false x y ys distinct later = (all-without (λ z. bytes_eq y z ≡ false) x ys distinct.0, later)

distinct-without : (x : List ℕ) (ys : List (List ℕ)) → IsDistinct bytes_eq ys → IsDistinct bytes_eq (without x ys)
unfolding IsDistinct
distinct-without x [] distinct = tt
distinct-without x (y ∷ ys) distinct = distinct-step (bytes_eq x y) x y ys distinct (distinct-without x ys distinct.1)

-- ---- both

rest-step : (c d : Bool) (q x : List ℕ) (xs ys : List (List ℕ)) → bytes_eq x q ≡ c → bytes_eq q x ≡ d → AllByRecursion (λ z. bytes_eq x z ≡ false) xs
    → (d || is_among q xs) ≡ is_among q ys → is_among q xs ≡ cond c false (is_among q ys)
rest-step true d q x xs ys e f all same = subst (λ z. is_among z xs ≡ false) (alike x q e) (none_of x xs all)
rest-step false true q x xs ys e f all same = let no : true ≡ false = sym f ∙ (laws.symm q x ∙ e) in cc
rest-step false false q x xs ys e f all same = same

nothing-among : (ys : List (List ℕ)) → ((q : List ℕ) → false ≡ is_among q ys) → ys ≡ []
nothing-among [] none = refl
nothing-among (y ∷ ys) none =
    let here : bytes_eq y y ≡ true = laws.refl y in
    let no : false ≡ true = none y ∙ ap (λ b. b || is_among y ys) here in
    cc

pub same_sum : (f : List ℕ → ℕ) (xs ys : List (List ℕ)) → IsDistinct bytes_eq xs → IsDistinct bytes_eq ys → ((q : List ℕ) → is_among q xs ≡ is_among q ys) → sum_by f xs ≡ sum_by f ys
unfolding IsDistinct
same_sum f [] ys one other same = ap (sum_by f) (sym (nothing-among ys same))
same_sum f (x ∷ xs) ys one other same =
    let there : is_among x ys ≡ true = sym (same x) ∙ ap (λ b. b || is_among x xs) (laws.refl x) in
    let rest : (q : List ℕ) → is_among q xs ≡ is_among q (without x ys) = λ q. rest-step (bytes_eq x q) (bytes_eq q x) q x xs ys refl refl one.0 (same q) ∙ sym (among-without q x ys other) in
    omega (arith, sum_by-cons f x xs, sum-without f x ys there, same_sum f xs (without x ys) one.1 (distinct-without x ys other) rest)
