-- Names that are chosen by their places.
use Rattle.std.proofs.Common.{◌≡◌, ℕ, zero, suc, ◌+◌, ◌<◌, ⊎_elim, List, [], ◌∷◌, ◌++◌, length, take, get_or, Bool, true, false, cond, refl, sym, ap, ◌∙◌, subst, arith}
use Rattle.std.specs.Cmp.Lexicographic.{slice_cmp}
use Rattle.std.specs.List.{All, AllByRecursion, Contains, list_any}
use Rattle.std.specs.List.Sorted.{IsStrictlySortedBy}
use Rattle.std.specs.Ordering.{nat_cmp}
use Rattle.std.specs.Str.{bytes_eq}
use Rattle.std.specs.declared.cmp.Ordering.TheVariants.{Less}
use Rattle.std.proofs.lemmas.Bool.{cases_Bool, cases_order, cond-true, cond-false, or_cases, or_left, or_right}
use Rattle.std.proofs.lemmas.Cmp.{nat_list_cmp_total}
use Rattle.std.proofs.lemmas.List.Elements.{All-nil, All-cons}
use Rattle.std.proofs.lemmas.Map.Keys.{Less-from_sorted, sorted_head, sorted_tail}
use Rattle.std.proofs.lemmas.Slice.Eq.{bytes_eq-Decides}
use Rattle.transport_core.specs.Deficient.{is_among}
use Rattle.transport_core.proofs.Keys.{not_below_itself}
use Rattle.transport_plan.specs.Chosen.{chosen}

pub chosen_from : (P : List ℕ → Bool) (names : List (List ℕ)) (mark : ℕ → Bool) → list_any P (chosen names mark) ≡ true → (v : ℕ) × (v < length names) × (mark v ≡ true) × (P (get_or names v []) ≡ true)
chosen_from P [] mark some = cc
chosen_from P (n ∷ names) mark some =
    let rest = chosen names (λ v. mark (suc v)) in
    let behind : list_any P rest ≡ true → (v : ℕ) × (v < length (n ∷ names)) × (mark v ≡ true) × (P (get_or (n ∷ names) v []) ≡ true) = λ h.
    let r = chosen_from P names (λ v. mark (suc v)) h in
    (suc (r.0), omega (arith, r.1), r.2, r.3)
    in
    ⊎_elim
    (λ (yes_is : mark 0 ≡ true).
    ⊎_elim
    (λ (here : P n ≡ true). (0, omega arith, yes_is, here))
    behind
    (or_cases (P n) (list_any P rest) (ap (list_any P) (sym (cond-true {A = List (List ℕ)} (mark 0) (n ∷ rest) rest yes_is)) ∙ some)))
    (λ (no_is : mark 0 ≡ false). behind (ap (list_any P) (sym (cond-false {A = List (List ℕ)} (mark 0) (n ∷ rest) rest no_is)) ∙ some))
    (cases_Bool (mark 0))

pub chosen_to : (P : List ℕ → Bool) (names : List (List ℕ)) (mark : ℕ → Bool) (v : ℕ) → v < length names → mark v ≡ true → P (get_or names v []) ≡ true → list_any P (chosen names mark) ≡ true
chosen_to P [] mark v within is passes = absurd (omega arith)
chosen_to P (n ∷ names) mark zero within is passes =
    let rest = chosen names (λ v. mark (suc v)) in
    ap (list_any P) (cond-true {A = List (List ℕ)} (mark 0) (n ∷ rest) rest is) ∙ or_left (P n) (list_any P rest) passes
chosen_to P (n ∷ names) mark (suc v) within is passes =
    let rest = chosen names (λ v. mark (suc v)) in
    let later = chosen_to P names (λ v. mark (suc v)) v (omega arith) is passes in
    ⊎_elim
    (λ (yes_is : mark 0 ≡ true). ap (list_any P) (cond-true {A = List (List ℕ)} (mark 0) (n ∷ rest) rest yes_is) ∙ or_right (P n) (list_any P rest) later)
    (λ (no_is : mark 0 ≡ false). ap (list_any P) (cond-false {A = List (List ℕ)} (mark 0) (n ∷ rest) rest no_is) ∙ later)
    (cases_Bool (mark 0))

-- a name stands once
once : (names : List (List ℕ)) (u v : ℕ) → IsStrictlySortedBy (slice_cmp nat_cmp) names → u < length names → v < length names → get_or names u [] ≡ get_or names v [] → u ≡ v
once names u v rise u_in v_in same =
    let never : (i j : ℕ) → get_or names i [] ≡ get_or names j [] → i < j → j < length names → ⊥ = λ i j equal low high.
    not_below_itself nat_list_cmp_total (get_or names i []) (subst (λ y. slice_cmp nat_cmp (get_or names i []) y ≡ Less) (sym equal) (Less-from_sorted (slice_cmp nat_cmp) names i j [] rise low high))
    in
    ⊎_elim (λ (is : u ≡ v). is) (⊎_elim (λ (low : u < v). absurd (never u v same low v_in)) (λ (high : v < u). absurd (never v u (sym same) high u_in))) (cases_order u v)

-- a name is among the chosen ones just where its place is marked
pub among_to : (names : List (List ℕ)) (mark : ℕ → Bool) (v : ℕ) → v < length names → mark v ≡ true → is_among (chosen names mark) (get_or names v []) ≡ true
among_to names mark v within is = chosen_to (bytes_eq (get_or names v [])) names mark v within is ((bytes_eq-Decides (get_or names v []) (get_or names v [])).1 refl)

pub among_from : (names : List (List ℕ)) (mark : ℕ → Bool) (v : ℕ) → IsStrictlySortedBy (slice_cmp nat_cmp) names → v < length names → is_among (chosen names mark) (get_or names v []) ≡ true → mark v ≡ true
among_from names mark v rise within among =
    let c = chosen_from (bytes_eq (get_or names v [])) names mark among in
    let place : v ≡ c.0 = once names v c.0 rise within c.1 ((bytes_eq-Decides (get_or names v []) (get_or names c.0 [])).0 c.3) in
    ap mark place ∙ c.2

more_names : (n : List ℕ) (names : List (List ℕ)) (x : List ℕ) → Contains names x → Contains (n ∷ names) x
more_names n names x c = (suc (c.0), omega (arith, c.1), c.2)

all_more : (n : List ℕ) (names xs : List (List ℕ)) → All (Contains names) xs → All (Contains (n ∷ names)) xs
all_more n names xs all = λ i d below. more_names n names (get_or xs i d) (all i d below)

pub chosen_listed : (names : List (List ℕ)) (mark : ℕ → Bool) → All (Contains names) (chosen names mark)
chosen_listed [] mark = All-nil (Contains [])
chosen_listed (n ∷ names) mark =
    let rest = chosen names (λ v. mark (suc v)) in
    let later = all_more n names rest (chosen_listed names (λ v. mark (suc v))) in
    ⊎_elim
    (λ (is : mark 0 ≡ true). subst (All (Contains (n ∷ names))) (sym (cond-true {A = List (List ℕ)} (mark 0) (n ∷ rest) rest is)) (All-cons (Contains (n ∷ names)) n rest (0, omega arith, refl) later))
    (λ (is : mark 0 ≡ false). subst (All (Contains (n ∷ names))) (sym (cond-false {A = List (List ℕ)} (mark 0) (n ∷ rest) rest is)) later)
    (cases_Bool (mark 0))

above_all : (x : List ℕ) (names : List (List ℕ)) (mark : ℕ → Bool) → AllByRecursion (λ y. slice_cmp nat_cmp x y ≡ Less) names → AllByRecursion (λ y. slice_cmp nat_cmp x y ≡ Less) (chosen names mark)
above_all x [] mark above = tt
above_all x (n ∷ names) mark above =
    let rest = chosen names (λ v. mark (suc v)) in
    let later = above_all x names (λ v. mark (suc v)) above.1 in
    let P : List (List ℕ) → Type 0 = AllByRecursion (λ y. slice_cmp nat_cmp x y ≡ Less) in
    ⊎_elim
    (λ (is : mark 0 ≡ true). subst P (sym (cond-true {A = List (List ℕ)} (mark 0) (n ∷ rest) rest is)) (above.0, later))
    (λ (is : mark 0 ≡ false). subst P (sym (cond-false {A = List (List ℕ)} (mark 0) (n ∷ rest) rest is)) later)
    (cases_Bool (mark 0))

rise-cons : (name : List ℕ) (names : List (List ℕ)) → AllByRecursion (λ y. slice_cmp nat_cmp name y ≡ Less) names → IsStrictlySortedBy (slice_cmp nat_cmp) names → IsStrictlySortedBy (slice_cmp nat_cmp) (name ∷ names)
unfolding IsStrictlySortedBy
rise-cons name names above rise = (above, rise)

pub chosen_rise : (names : List (List ℕ)) (mark : ℕ → Bool) → IsStrictlySortedBy (slice_cmp nat_cmp) names → IsStrictlySortedBy (slice_cmp nat_cmp) (chosen names mark)
chosen_rise [] mark rise = rise
chosen_rise (n ∷ names) mark rise =
    let rest = chosen names (λ v. mark (suc v)) in
    let later = chosen_rise names (λ v. mark (suc v)) (sorted_tail (slice_cmp nat_cmp) n names rise) in
    let above = above_all n names (λ v. mark (suc v)) (sorted_head (slice_cmp nat_cmp) n names rise) in
    ⊎_elim
    (λ (is : mark 0 ≡ true). subst (IsStrictlySortedBy (slice_cmp nat_cmp)) (sym (cond-true {A = List (List ℕ)} (mark 0) (n ∷ rest) rest is)) (rise-cons n rest above later))
    (λ (is : mark 0 ≡ false). subst (IsStrictlySortedBy (slice_cmp nat_cmp)) (sym (cond-false {A = List (List ℕ)} (mark 0) (n ∷ rest) rest is)) later)
    (cases_Bool (mark 0))

-- one name more
pub chosen_more : (names : List (List ℕ)) (mark : ℕ → Bool) (v : ℕ) → v < length names → chosen (take (v + 1) names) mark ≡ chosen (take v names) mark ++ cond (mark v) (get_or names v [] ∷ []) []
chosen_more [] mark v within = absurd (omega arith)
chosen_more (n ∷ names) mark zero within = refl
chosen_more (n ∷ names) mark (suc v) within =
    let next : suc v + 1 ≡ suc (v + 1) = omega arith in
    let later = chosen_more names (λ w. mark (suc w)) v (omega arith) in
    let one : List (List ℕ) = cond (mark (suc v)) (get_or names v [] ∷ []) [] in
    let front = chosen (take v names) (λ w. mark (suc w)) in
    ap (λ i. chosen (take i (n ∷ names)) mark) next
    ∙ (ap (λ xs. cond (mark 0) (n ∷ xs) xs) later ∙ joined (mark 0) front one)
  where
    joined : (b : Bool) (xs ys : List (List ℕ)) → cond b (n ∷ xs ++ ys) (xs ++ ys) ≡ cond b (n ∷ xs) xs ++ ys
    joined true xs ys = refl
    joined false xs ys = refl
