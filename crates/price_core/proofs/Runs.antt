-- The first forbidden point, from run to run.
use Rattle.std.proofs.Common.{◌≡◌, ℕ, zero, suc, ◌<◌, ◌≤◌, ◌⊎◌, inl, inr, List, [], ◌∷◌, length, Bool, true, false, Some, None, refl, sym, ap, ◌∙◌, arith}
use Rattle.std.specs.List.{zip, slice_get, position, position_or_len}
use Rattle.std.proofs.lemmas.Option.{slice_get_within}
use Rattle.std.proofs.lemmas.Bool.{cases_lt, lt-ltb, le-ltb}
use Rattle.bucket_core.specs.Rule.{Entries, points, at, total_weight}
use Rattle.bucket_core.proofs.Points.{length-points}
use Rattle.price_core.specs.Pricing.{Pricing, is_forbidden}
use Rattle.price_core.specs.Cost.{changes_at, first_forbidden_of}

-- ---- the first place that passes

place_at : {X : Type 0} (P : X → Bool) (xs : List X) (i : ℕ) (x : X) → slice_get xs i ≡ Some x → P x ≡ true → ((k : ℕ) (y : X) → k < i → slice_get xs k ≡ Some y → P y ≡ false) → position_or_len P xs ≡ i
place_at P [] i x here passes before = cc
place_at P (y ∷ ys) zero x here passes before = let same : y ≡ x = cc in let yes : P y ≡ true = ap P same ∙ passes in rw yes refl
place_at P (y ∷ ys) (suc i) x here passes before =
    let no : P y ≡ false = before zero y (omega arith) refl in
    let rest = place_at P ys i x here passes (λ k z h at. before (suc k) z (omega arith) at) in
    rw no (omega (arith, rest))

no_place : {X : Type 0} (P : X → Bool) (xs : List X) → ((k : ℕ) (y : X) → slice_get xs k ≡ Some y → P y ≡ false) → position_or_len P xs ≡ length xs
no_place P [] none = refl
no_place P (y ∷ ys) none =
    let no : P y ≡ false = none zero y refl in
    let rest = no_place P ys (λ k z at. none (suc k) z at) in
    rw no (omega (arith, rest))

-- ---- two lists side by side

zip-at : {A B : Type 0} (xs : List A) (ys : List B) (i : ℕ) (a : A) (b : B) → slice_get xs i ≡ Some a → slice_get ys i ≡ Some b → slice_get (zip xs ys) i ≡ Some (a, b)
zip-at [] ys i a b here there = cc
zip-at (x ∷ xs) [] i a b here there = cc
zip-at (x ∷ xs) (y ∷ ys) zero a b here there = let first : x ≡ a = cc in let second : y ≡ b = cc in λ j. Some (first j, second j)
zip-at (x ∷ xs) (y ∷ ys) (suc i) a b here there = zip-at xs ys i a b here there

zip-parts : {A B : Type 0} (xs : List A) (ys : List B) (i : ℕ) (c : A × B) → slice_get (zip xs ys) i ≡ Some c → (slice_get xs i ≡ Some c.0) × (slice_get ys i ≡ Some c.1)
zip-parts [] ys i c here = cc
zip-parts (x ∷ xs) [] i c here = cc
zip-parts (x ∷ xs) (y ∷ ys) zero c here = let same : (x, y) ≡ c = cc in (ap (λ p. Some p.0) same, ap (λ p. Some p.1) same)
zip-parts (x ∷ xs) (y ∷ ys) (suc i) c here = zip-parts xs ys i c here

-- ---- the points before one are spared

abbrev pub AreSpared : Entries → Entries → Pricing → ℕ → Type 0
AreSpared old new pricing p = (q : ℕ) (a b : List ℕ) → q < p → at old q ≡ Some a → at new q ≡ Some b → is_forbidden pricing a b ≡ false

pub none_spared : (old new : Entries) (pricing : Pricing) → AreSpared old new pricing 0
none_spared old new pricing = λ q a b h. absurd (omega arith)

-- the points of a run have the names of the first one
pub run_spared : (old new : Entries) (pricing : Pricing) (p end : ℕ) (a b : List ℕ) → AreSpared old new pricing p → at old p ≡ Some a → at new p ≡ Some b → is_forbidden pricing a b ≡ false
    → ((q : ℕ) → p ≤ q → q < end → at old q ≡ at old p) → ((q : ℕ) → p ≤ q → q < end → at new q ≡ at new p) → AreSpared old new pricing end
run_spared old new pricing p end a b spared old_name new_name allowed old_run new_run = λ q c d h old_at new_at. by q c d h old_at new_at (cases_lt q p)
  where
    by : (q : ℕ) (c d : List ℕ) → q < end → at old q ≡ Some c → at new q ≡ Some d → (q < p) ⊎ (p ≤ q) → is_forbidden pricing c d ≡ false
    by q c d h old_at new_at (inl below) = spared q c d below old_at new_at
    by q c d h old_at new_at (inr from) =
        let eq_a : Some a ≡ Some c = sym old_name ∙ (sym (old_run q from h) ∙ old_at) in
        let eq_b : Some b ≡ Some d = sym new_name ∙ (sym (new_run q from h) ∙ new_at) in
        let is_a : a ≡ c = cc in
        let is_b : b ≡ d = cc in
        rw (sym is_a, sym is_b) allowed

-- the place as `position` gives it
position_at : {X : Type 0} (P : X → Bool) (xs : List X) (i : ℕ) → position_or_len P xs ≡ i → i < length xs → Some i ≡ position P xs
position_at P xs i place inside = rw place (rw (lt-ltb i (length xs) inside) refl)

position_none : {X : Type 0} (P : X → Bool) (xs : List X) → position_or_len P xs ≡ length xs → None ≡ position P xs
position_none P xs place = rw place (rw (le-ltb (length xs) (length xs) (omega arith)) refl)

pub first_found : (old new : Entries) (pricing : Pricing) (p : ℕ) (a b : List ℕ) → AreSpared old new pricing p → at old p ≡ Some a → at new p ≡ Some b → is_forbidden pricing a b ≡ true → Some p ≡ first_forbidden_of old new pricing
first_found old new pricing p a b spared old_name new_name barred =
    let here = zip-at (points old) (points new) p a b old_name new_name in
    let place = place_at (λ c. is_forbidden pricing c.0 c.1) (changes_at old new) p (a, b) here barred (λ k c h at. let parts = zip-parts (points old) (points new) k c at in spared k c.0 c.1 h parts.0 parts.1) in
    position_at (λ c. is_forbidden pricing c.0 c.1) (changes_at old new) p place (slice_get_within (changes_at old new) p (a, b) here)

pub none_found : (old new : Entries) (pricing : Pricing) (p : ℕ) → total_weight old ≤ p → AreSpared old new pricing p → None ≡ first_forbidden_of old new pricing
none_found old new pricing p all spared =
    position_none (λ c. is_forbidden pricing c.0 c.1) (changes_at old new) (no_place (λ c. is_forbidden pricing c.0 c.1) (changes_at old new) (λ k c at.
    let parts = zip-parts (points old) (points new) k c at in
    spared k c.0 c.1 (omega (arith, slice_get_within (points old) k c.0 parts.0, length-points old)) parts.0 parts.1))
