-- Subscribers by their ids: each id stands once.
use Rattle.std.proofs.Common.{◌≡◌, ℕ, ◌+◌, ◌<◌, Bool, true, false, cond, [], ◌∷◌, ◌++◌, Option, None, Some, refl, sym, ap, ◌∙◌, subst, arith}
use Rattle.std.specs.BTreeMap.{is_at}
use Rattle.std.specs.Cmp.{nat_cmp_is}
use Rattle.std.specs.List.{list_all}
use Rattle.std.specs.Map.{keys_of}
use Rattle.std.specs.Ordering.{nat_cmp, is_eq, is_lt}
use Rattle.std.specs.declared.cmp.Ordering.{Ordering}
use Rattle.std.specs.declared.cmp.Ordering.TheVariants.{Less, Equal, Greater}
use Rattle.std.proofs.lemmas.Bool.{and_from}
use Rattle.std.proofs.lemmas.Cmp.{nat_cmp_total}
use Rattle.std.proofs.lemmas.Map.Lookups.{exact_unsigned}
use Rattle.book_core.proofs.Taken.{insert_entry-above}
use Rattle.snap_core.specs.Hub.{Members, taken_by, with_member, with_taken, without}

is_equal : (o : Ordering) → is_eq o ≡ true → o ≡ Equal
is_equal Less h = absurd (cc)
is_equal Equal h = refl
is_equal Greater h = absurd (cc)

-- an id that is found is that id
pub same_id : (j k : ℕ) → is_at (nat_cmp j) k ≡ true → j ≡ k
same_id j k h = exact_unsigned j k (is_equal (nat_cmp j k) h)

less_is : (j k : ℕ) → j < k → nat_cmp j k ≡ Less
less_is j k h = sym (nat_cmp_is j k Less h)

-- an id below another is another
apart_id : (j k : ℕ) → j < k → is_at (nat_cmp j) k ≡ false
apart_id j k h = ap is_eq (less_is j k h)

-- no id stands twice, and each is below the next
abbrev pub Apart : Members → Type 0
Apart [] = Unit {0}
Apart (m ∷ ms) = (taken_by m.0 ms ≡ None) × Apart ms

abbrev pub Below : ℕ → Members → Type 0
Below next [] = Unit {0}
Below next (m ∷ ms) = (m.0 < next) × Below next ms

-- ---- one more

all_lower : (next : ℕ) (ms : Members) → Below next ms → list_all (λ q. is_lt (nat_cmp q next)) (keys_of ms) ≡ true
all_lower next [] below = refl
all_lower next (m ∷ ms) below = and_from _ _ (ap is_lt (less_is m.0 next below.0)) (all_lower next ms below.1)

pub joins_last : (next : ℕ) (ms : Members) → Below next ms → with_member next ms ≡ ms ++ (next, 0) ∷ []
joins_last next ms below = insert_entry-above nat_cmp_total ms next 0 (all_lower next ms below)

pub lookup-push : (id next : ℕ) (ms : Members) (n : ℕ) → taken_by id (ms ++ (next, 0) ∷ []) ≡ Some n → (b : Bool) → is_at (nat_cmp id) next ≡ b → taken_by id ms ≡ None → (id ≡ next) × (n ≡ 0)
lookup-push id next [] n h true e none = (same_id id next e, sym (zero n (ap (λ b. let o : Option ℕ = cond b (Some 0) None in o) (sym e) ∙ h)))
  where
    zero : (m : ℕ) → (let o : Option ℕ = Some 0 in o) ≡ Some m → 0 ≡ m
    zero m is = cc
lookup-push id next [] n h false e none = absurd (nothing (ap (λ b. let o : Option ℕ = cond b (Some 0) None in o) (sym e) ∙ h))
  where
    nothing : (let o : Option ℕ = None in o) ≡ Some n → ⊥
    nothing is = cc
lookup-push id next (m ∷ ms) n h b e none = by (lookup-push id next ms n) (is_at (nat_cmp id) m.0) h none
  where
    by : (taken_by id (ms ++ (next, 0) ∷ []) ≡ Some n → (b : Bool) → is_at (nat_cmp id) next ≡ b → taken_by id ms ≡ None → (id ≡ next) × (n ≡ 0))
        → (c : Bool) → cond c (Some m.1) (taken_by id (ms ++ (next, 0) ∷ [])) ≡ Some n → cond c (Some m.1) (taken_by id ms) ≡ None → (id ≡ next) × (n ≡ 0)
    by later true h none = absurd (cc)
    by later false h none = later h b e none

-- what is found stays found
pub lookup-push_found : (id next : ℕ) (ms : Members) (k : ℕ) → taken_by id ms ≡ Some k → taken_by id (ms ++ (next, 0) ∷ []) ≡ Some k
lookup-push_found id next [] k h = absurd (cc)
lookup-push_found id next (m ∷ ms) k h = by (lookup-push_found id next ms k) (is_at (nat_cmp id) m.0) h
  where
    by : (taken_by id ms ≡ Some k → taken_by id (ms ++ (next, 0) ∷ []) ≡ Some k) → (c : Bool) → cond c (Some m.1) (taken_by id ms) ≡ Some k → cond c (Some m.1) (taken_by id (ms ++ (next, 0) ∷ [])) ≡ Some k
    by later true h = h
    by later false h = later h

none-push : (id next : ℕ) (ms : Members) → is_at (nat_cmp id) next ≡ false → taken_by id ms ≡ None → taken_by id (ms ++ (next, 0) ∷ []) ≡ None
none-push id next [] apart none = rw apart refl
none-push id next (m ∷ ms) apart none = by (none-push id next ms apart) (is_at (nat_cmp id) m.0) none
  where
    by : (taken_by id ms ≡ None → taken_by id (ms ++ (next, 0) ∷ []) ≡ None) → (c : Bool) → cond c (Some m.1) (taken_by id ms) ≡ None → cond c (Some m.1) (taken_by id (ms ++ (next, 0) ∷ [])) ≡ None
    by later true h = absurd (cc)
    by later false h = later h

pub apart-push : (next : ℕ) (ms : Members) → Below next ms → Apart ms → Apart (ms ++ (next, 0) ∷ [])
apart-push next [] below apart = (refl, tt)
apart-push next (m ∷ ms) below apart = (none-push m.0 next ms (apart_id m.0 next below.0) apart.0, apart-push next ms below.1 apart.1)

pub below-push : (next : ℕ) (ms : Members) → Below next ms → Below (next + 1) (ms ++ (next, 0) ∷ [])
below-push next [] below = (omega arith, tt)
below-push next (m ∷ ms) below = (omega (arith, below.0), below-push next ms below.1)

-- ---- one that has taken

none-set : (id sub w : ℕ) (ms : Members) → taken_by id ms ≡ None → taken_by id (with_taken sub w ms) ≡ None
none-set id sub w [] h = refl
none-set id sub w (m ∷ ms) h = by (none-set id sub w ms) (is_at (nat_cmp sub) m.0) (is_at (nat_cmp id) m.0) refl h
  where
    by : (taken_by id ms ≡ None → taken_by id (with_taken sub w ms) ≡ None) → (c d : Bool) → is_at (nat_cmp id) m.0 ≡ d → cond d (Some m.1) (taken_by id ms) ≡ None → taken_by id (cond c ((m.0, w) ∷ ms) (m ∷ with_taken sub w ms)) ≡ None
    by later c true e h = absurd (cc)
    by later true false e h = rw e h
    by later false false e h = rw e (later h)

pub apart-set : (sub w : ℕ) (ms : Members) → Apart ms → Apart (with_taken sub w ms)
apart-set sub w [] apart = tt
apart-set sub w (m ∷ ms) apart = by (apart-set sub w ms apart.1) (is_at (nat_cmp sub) m.0)
  where
    by : Apart (with_taken sub w ms) → (c : Bool) → Apart (cond c ((m.0, w) ∷ ms) (m ∷ with_taken sub w ms))
    by later true = apart
    by later false = (none-set m.0 sub w ms apart.0, later)

pub below-set : (next sub w : ℕ) (ms : Members) → Below next ms → Below next (with_taken sub w ms)
below-set next sub w [] below = tt
below-set next sub w (m ∷ ms) below = by (below-set next sub w ms below.1) (is_at (nat_cmp sub) m.0)
  where
    by : Below next (with_taken sub w ms) → (c : Bool) → Below next (cond c ((m.0, w) ∷ ms) (m ∷ with_taken sub w ms))
    by later true = below
    by later false = (below.0, later)

-- the one that has taken has that number
pub set_found : (sub w n : ℕ) (ms : Members) → taken_by sub (with_taken sub w ms) ≡ Some n → n ≡ w
set_found sub w n [] h = absurd (cc)
set_found sub w n (m ∷ ms) h = by (set_found sub w n ms) (is_at (nat_cmp sub) m.0) refl h
  where
    by : (taken_by sub (with_taken sub w ms) ≡ Some n → n ≡ w) → (c : Bool) → is_at (nat_cmp sub) m.0 ≡ c → taken_by sub (cond c ((m.0, w) ∷ ms) (m ∷ with_taken sub w ms)) ≡ Some n → n ≡ w
    by later true e h =
        let is : (let o : Option ℕ = Some w in o) ≡ Some n = ap (λ b. let o : Option ℕ = cond b (Some w) (taken_by sub ms) in o) (sym e) ∙ h in
        cc
    by later false e h = later (ap (λ b. let o : Option ℕ = cond b (Some m.1) (taken_by sub (with_taken sub w ms)) in o) (sym e) ∙ h)

-- the others keep theirs
pub set_other : (id sub w n : ℕ) (ms : Members) → (sub ≡ id → ⊥) → taken_by id (with_taken sub w ms) ≡ Some n → taken_by id ms ≡ Some n
set_other id sub w n [] apart h = h
set_other id sub w n (m ∷ ms) apart h = by (set_other id sub w n ms apart) (is_at (nat_cmp sub) m.0) (is_at (nat_cmp id) m.0) refl refl h
  where
    by : (taken_by id (with_taken sub w ms) ≡ Some n → taken_by id ms ≡ Some n) → (c d : Bool) → is_at (nat_cmp sub) m.0 ≡ c → is_at (nat_cmp id) m.0 ≡ d
        → taken_by id (cond c ((m.0, w) ∷ ms) (m ∷ with_taken sub w ms)) ≡ Some n → cond d (Some m.1) (taken_by id ms) ≡ Some n
    by later true true e f h = absurd (apart (same_id sub m.0 e ∙ sym (same_id id m.0 f)))
    by later true false e f h = ap (λ b. let o : Option ℕ = cond b (Some w) (taken_by id ms) in o) (sym f) ∙ h
    by later false true e f h = ap (λ b. let o : Option ℕ = cond b (Some m.1) (taken_by id (with_taken sub w ms)) in o) (sym f) ∙ h
    by later false false e f h = later (ap (λ b. let o : Option ℕ = cond b (Some m.1) (taken_by id (with_taken sub w ms)) in o) (sym f) ∙ h)

-- ---- one that has left

-- what is found without one was found
pub without_found : (id sub n : ℕ) (ms : Members) → Apart ms → taken_by id (without sub ms) ≡ Some n → taken_by id ms ≡ Some n
without_found id sub n [] apart h = h
without_found id sub n (m ∷ ms) apart h = by (without_found id sub n ms apart.1) (is_at (nat_cmp sub) m.0) (is_at (nat_cmp id) m.0) refl h
  where
    by : (taken_by id (without sub ms) ≡ Some n → taken_by id ms ≡ Some n) → (c d : Bool) → is_at (nat_cmp id) m.0 ≡ d → taken_by id (cond c ms (m ∷ without sub ms)) ≡ Some n → cond d (Some m.1) (taken_by id ms) ≡ Some n
    by later true true f h =
        let none : taken_by id ms ≡ None = ap (λ j. taken_by j ms) (same_id id m.0 f) ∙ apart.0 in
        absurd (cc)
    by later true false f h = h
    by later false true f h = ap (λ b. let o : Option ℕ = cond b (Some m.1) (taken_by id (without sub ms)) in o) (sym f) ∙ h
    by later false false f h = later (ap (λ b. let o : Option ℕ = cond b (Some m.1) (taken_by id (without sub ms)) in o) (sym f) ∙ h)

none-without : (id sub : ℕ) (ms : Members) → taken_by id ms ≡ None → taken_by id (without sub ms) ≡ None
none-without id sub [] h = refl
none-without id sub (m ∷ ms) h = by (none-without id sub ms) (is_at (nat_cmp sub) m.0) (is_at (nat_cmp id) m.0) refl h
  where
    by : (taken_by id ms ≡ None → taken_by id (without sub ms) ≡ None) → (c d : Bool) → is_at (nat_cmp id) m.0 ≡ d → cond d (Some m.1) (taken_by id ms) ≡ None → taken_by id (cond c ms (m ∷ without sub ms)) ≡ None
    by later c true e h = absurd (cc)
    by later true false e h = h
    by later false false e h = rw e (later h)

pub apart-without : (sub : ℕ) (ms : Members) → Apart ms → Apart (without sub ms)
apart-without sub [] apart = tt
apart-without sub (m ∷ ms) apart = by (apart-without sub ms apart.1) (is_at (nat_cmp sub) m.0)
  where
    by : Apart (without sub ms) → (c : Bool) → Apart (cond c ms (m ∷ without sub ms))
    by later true = apart.1
    by later false = (none-without m.0 sub ms apart.0, later)

pub below-without : (next sub : ℕ) (ms : Members) → Below next ms → Below next (without sub ms)
below-without next sub [] below = tt
below-without next sub (m ∷ ms) below = by (below-without next sub ms below.1) (is_at (nat_cmp sub) m.0)
  where
    by : Below next (without sub ms) → (c : Bool) → Below next (cond c ms (m ∷ without sub ms))
    by later true = below.1
    by later false = (below.0, later)

-- a subscriber's id was given
pub id_below : (next id n : ℕ) (ms : Members) → Below next ms → taken_by id ms ≡ Some n → id < next
id_below next id n [] below h = absurd (cc)
id_below next id n (m ∷ ms) below h = by (id_below next id n ms below.1) (is_at (nat_cmp id) m.0) refl h
  where
    by : (taken_by id ms ≡ Some n → id < next) → (c : Bool) → is_at (nat_cmp id) m.0 ≡ c → cond c (Some m.1) (taken_by id ms) ≡ Some n → id < next
    by later true e h = subst (λ j. j < next) (sym (same_id id m.0 e)) below.0
    by later false e h = later h
