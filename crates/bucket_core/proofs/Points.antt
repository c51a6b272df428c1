-- The points of a rule, entry by entry.
use Rattle.std.proofs.Common.{◌≡◌, ℕ, zero, suc, ◌+◌, ◌-◌, ◌*◌, ◌<◌, ◌≤◌, List, [], ◌∷◌, ◌++◌, length, drop, replicate, sum_by, count_by, Bool, true, false, cond, Some, None, refl, ap, ◌∙◌, arith}
use Rattle.std.proofs.lemmas.Bool.{cond-true}
use Rattle.std.proofs.lemmas.Slice.Eq.{bytes_eq-Decides}
use Rattle.std.proofs.lemmas.List.{length-append, length-replicate}
use Rattle.std.proofs.lemmas.List.Sums.{sum_by-append, sum_by-cons}
use Rattle.std.proofs.lemmas.List.Folds.{sum_by-replicate}
use Rattle.std.specs.List.{slice_get}
use Rattle.std.specs.Str.{bytes_eq}
use Rattle.bucket_core.specs.Rule.{Entries, total_weight, points, at, total_of, IsAround}

-- ---- the weights

pub total_weight-cons : (e : List ℕ × ℕ) (es : Entries) → total_weight (e ∷ es) ≡ e.1 + total_weight es
total_weight-cons e es = sum_by-cons (λ (x : List ℕ × ℕ). x.1) e es

pub total_weight-append : (xs ys : Entries) → total_weight (xs ++ ys) ≡ total_weight xs + total_weight ys
total_weight-append xs ys = sum_by-append (λ (x : List ℕ × ℕ). x.1) xs ys

-- there are as many points as the weights sum to
pub length-points : (r : Entries) → length (points r) ≡ total_weight r
unfolding points
length-points [] = refl
length-points (e ∷ es) =
    omega (arith, length-append (replicate e.1 e.0) (points es), length-replicate e.1 e.0, length-points es, total_weight-cons e es)

-- ---- the name at a point

copies_here : (w : ℕ) (n : List ℕ) (rest : List (List ℕ)) (p : ℕ) → p < w → slice_get (replicate w n ++ rest) p ≡ Some n
copies_here zero n rest p h = absurd (omega arith)
copies_here (suc w) n rest zero h = refl
copies_here (suc w) n rest (suc p) h = copies_here w n rest p (omega arith)

copies_past : (w : ℕ) (n : List ℕ) (rest : List (List ℕ)) (p : ℕ) → w ≤ p → slice_get (replicate w n ++ rest) p ≡ slice_get rest (p - w)
copies_past zero n rest p h = ap (slice_get rest) (omega arith)
copies_past (suc w) n rest zero h = absurd (omega arith)
copies_past (suc w) n rest (suc p) h = let less : p - w ≡ suc p - suc w = omega arith in copies_past w n rest p (omega arith) ∙ ap (slice_get rest) less

pub at-nil : (p : ℕ) → at [] p ≡ None
unfolding points
at-nil p = refl

-- the first entry holds the points below its weight
pub at-here : (e : List ℕ × ℕ) (es : Entries) (p : ℕ) → p < e.1 → at (e ∷ es) p ≡ Some e.0
unfolding points
at-here e es p h = copies_here e.1 e.0 (points es) p h

-- the later entries hold the others
pub at-past : (e : List ℕ × ℕ) (es : Entries) (p : ℕ) → e.1 ≤ p → at (e ∷ es) p ≡ at es (p - e.1)
unfolding points
at-past e es p h = copies_past e.1 e.0 (points es) p h

pub at-append : (before es : Entries) (p : ℕ) → total_weight before ≤ p → at (before ++ es) p ≡ at es (p - total_weight before)
at-append [] es p h = ap (at es) (omega arith)
at-append (e ∷ before) es p h =
    let sum = total_weight-cons e before in
    at-past e (before ++ es) p (omega arith) ∙ (at-append before es (p - e.1) (omega arith) ∙ ap (at es) (omega arith))

-- the entry that lies around a point has its name
pub at_around : (r : Entries) (p : ℕ) (name : List ℕ) → IsAround r p name → at r p ≡ Some name
at_around r p name a =
    ap (λ es. at es p) a.parts ∙ (at-append a.before _ p a.from ∙ at-here (name, a.weight) a.after _ (omega (arith, a.from, a.to)))

-- below its length a list has an element
pub get_below : {X : Type 0} (xs : List X) (p : ℕ) → p < length xs → (x : X) × (slice_get xs p ≡ Some x)
get_below [] p h = absurd (omega arith)
get_below (x ∷ xs) zero h = (x, refl)
get_below (x ∷ xs) (suc p) h = get_below xs p (omega arith)

-- a point below the total has a name
pub at_below : (r : Entries) (p : ℕ) → p < total_weight r → (name : List ℕ) × (at r p ≡ Some name)
at_below r p h = get_below (points r) p (omega (arith, length-points r))

-- ---- points in a row with one name

copies_at : (xs : List (List ℕ)) (p k : ℕ) (name : List ℕ) → ((q : ℕ) → p ≤ q → q < p + k → slice_get xs q ≡ Some name) → drop p xs ≡ replicate k name ++ drop (p + k) xs
copies_at xs zero zero name same = refl
copies_at [] zero (suc k) name same = let none = same 0 (omega arith) (omega arith) in cc
copies_at (x ∷ xs) zero (suc k) name same =
    let first : x ≡ name = cc (same 0 (omega arith) (omega arith)) in
    let rest = copies_at xs 0 k name (λ q from to. same (suc q) (omega arith) (omega arith)) in
    let more : 0 + suc k ≡ suc k = omega arith in
    let less : 0 + k ≡ k = omega arith in
    rw (more, first) (ap (λ ys. name ∷ ys) (rw less at rest))
copies_at [] (suc p) zero name same = let more : suc p + 0 ≡ suc p = omega arith in rw more refl
copies_at [] (suc p) (suc k) name same = let none = same (suc p) (omega arith) (omega arith) in cc
copies_at (x ∷ xs) (suc p) k name same =
    let more : suc p + k ≡ suc (p + k) = omega arith in
    rw more (copies_at xs p k name (λ q from to. same (suc q) (omega arith) (omega arith)))

-- from p on they are copies of the name up to `end`, and then the points from there
pub points_in_row : (r : Entries) (p end : ℕ) (name : List ℕ) → p ≤ end → ((q : ℕ) → p ≤ q → q < end → at r q ≡ Some name) → drop p (points r) ≡ replicate (end - p) name ++ drop end (points r)
points_in_row r p end name le same =
    let whole : p + (end - p) ≡ end = omega arith in
    rw whole at (copies_at (points r) p (end - p) name (λ q from to. same q from (omega arith)))

-- ---- the points of a name

times : (b : Bool) (w : ℕ) → w * cond b 1 0 ≡ cond b w 0
times true w = omega arith
times false w = omega arith

pub total_of-nil : (name : List ℕ) → total_of [] name ≡ 0
unfolding points
total_of-nil name = refl

-- the first entry's points are all of its name
pub total_of-cons : (e : List ℕ × ℕ) (es : Entries) (name : List ℕ) → total_of (e ∷ es) name ≡ cond (bytes_eq e.0 name) e.1 0 + total_of es name
unfolding points
total_of-cons e es name =
    let f : List ℕ → ℕ = λ n. cond (bytes_eq n name) 1 0 in
    sum_by-append f (replicate e.1 e.0) (points es) ∙ ap (λ k. k + sum_by f (points es)) (sum_by-replicate f e.1 e.0 ∙ times (bytes_eq e.0 name) e.1)

part : (b : Bool) (w : ℕ) → cond b w 0 ≤ w
part true w = omega arith
part false w = omega arith

pub total_of-le : (r : Entries) (name : List ℕ) → total_of r name ≤ total_weight r
total_of-le [] name = rw (total_of-nil name) (omega arith)
total_of-le (e ∷ es) name =
    rw (total_of-cons e es name, total_weight-cons e es) (omega (arith, part (bytes_eq e.0 name) e.1, total_of-le es name))

counted : {X : Type 0} (test : X → Bool) (xs : List X) (p : ℕ) (x : X) → slice_get xs p ≡ Some x → test x ≡ true → 0 < count_by test xs
counted test [] p x is passes = cc
counted test (y ∷ ys) zero x is passes =
    let same : y ≡ x = cc in
    omega (arith, sum_by-cons (λ z. cond (test z) 1 0) y ys, cond-true {A = ℕ} (test y) 1 0 (ap test same ∙ passes))
counted test (y ∷ ys) (suc p) x is passes = omega (arith, sum_by-cons (λ z. cond (test z) 1 0) y ys, counted test ys p x is passes)

-- the name of a point has points
pub total_of-some : (r : Entries) (p : ℕ) (name : List ℕ) → at r p ≡ Some name → 0 < total_of r name
total_of-some r p name is = counted (λ n. bytes_eq n name) (points r) p name is ((bytes_eq-Decides name name).1 refl)
