-- The points of a rule: how many there are, and which names they have.
use Rattle.std.proofs.Common.{◌≡◌, ℕ, zero, suc, ◌*◌, ◌/◌, ◌%◌, ◌^◌, ◌<◌, bit_xor, List, [], ◌∷◌, length, replicate, Bool, true, cond, Some, count_by, refl, ap, ◌∙◌, arith, lit<, length-append}
use Rattle.std.proofs.lemmas.Bool.{cond-true}
use Rattle.std.proofs.lemmas.List.{length-replicate}
use Rattle.std.proofs.lemmas.List.Sums.{sum_by-cons}
use Rattle.std.proofs.lemmas.Slice.Eq.{bytes_eq-Decides}
use Rattle.std.proofs.Math.Nat.{mul-lt-mul_of_pos_right, div-le_self, div-lt_iff_lt-mul}
use Rattle.std.proofs.lemmas.Nat.{xor_of_32}
use Rattle.std.specs.List.{slice_get}
use Rattle.std.specs.Str.{bytes_eq}
use Rattle.murmur_core.specs.Murmur.{hash, folded, finished}
use Rattle.bucket_core.specs.Point.{point_of}
use Rattle.bucket_core.specs.Rule.{Entries, total_weight, points, at, total_of}

pub length-points : (r : Entries) → length (points r) ≡ total_weight r
unfolding points
length-points [] = refl
length-points (e ∷ es) =
    length-append (replicate e.1 e.0) (points es) ∙ omega (arith, length-replicate e.1 e.0, length-points es, sum_by-cons (λ (x : List ℕ × ℕ). x.1) e es)

-- below its length a list has an element
pub get_below : {X : Type 0} (xs : List X) (p : ℕ) → p < length xs → (x : X) × (slice_get xs p ≡ Some x)
get_below [] p h = absurd (omega arith)
get_below (x ∷ xs) zero h = (x, refl)
get_below (x ∷ xs) (suc p) h = get_below xs p (omega arith)

pub at_below : (r : Entries) (p : ℕ) → p < total_weight r → (name : List ℕ) × (at r p ≡ Some name)
at_below r p h = get_below (points r) p (omega (arith, length-points r))

-- what passes at one place is counted
pub counted : {X : Type 0} (test : X → Bool) (xs : List X) (p : ℕ) (x : X) → slice_get xs p ≡ Some x → test x ≡ true → 0 < count_by test xs
counted test [] p x is passes = cc
counted test (y ∷ ys) zero x is passes =
    let same : y ≡ x = cc in
    omega (arith, sum_by-cons (λ z. cond (test z) 1 0) y ys, cond-true {A = ℕ} (test y) 1 0 (ap test same ∙ passes))
counted test (y ∷ ys) (suc p) x is passes = omega (arith, sum_by-cons (λ z. cond (test z) 1 0) y ys, counted test ys p x is passes)

-- the name of a point has points
pub total_of-some : (r : Entries) (p : ℕ) (name : List ℕ) → at r p ≡ Some name → 0 < total_of r name
total_of-some r p name is = counted (λ n. bytes_eq n name) (points r) p name is ((bytes_eq-Decides name name).1 refl)

-- ---- a hash is below 2^32, so that its point is below the total

folded_below : (by h : ℕ) → h < 2 ^ 32 → folded by h < 2 ^ 32
folded_below by h below = xor_of_32 h (h / 2 ^ by) below (omega (arith, div-le_self h (2 ^ by)))

finished_below : (len h : ℕ) → finished len h < 2 ^ 32
unfolding finished
finished_below len h =
    let third = folded 13 (folded 16 (bit_xor h (len % 2 ^ 32)) * 0x85ebca6b % 2 ^ 32) * 0xc2b2ae35 in
    folded_below 16 (third % 2 ^ 32) (omega arith)

pub point_of-below : (total : ℕ) (key : List ℕ) → 0 < total → point_of total key < total
unfolding point_of
point_of-below total key some =
    let h = hash key 0 in
    let below : h < 2 ^ 32 = finished_below _ _ in
    let grows : h * total < 2 ^ 32 * total = mul-lt-mul_of_pos_right below some in
    let flip : h * total < total * 2 ^ 32 = omega (arith, grows) in
    (div-lt_iff_lt-mul {k = 2 ^ 32} {x = h * total} {y = total} (lit< tt)).1 flip
