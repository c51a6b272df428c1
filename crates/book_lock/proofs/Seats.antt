-- Lists that only grow, and numbers added up over all views.
use Rattle.std.proofs.Common.{◌==◌, ◌≡◌, ◌≢◌, ℕ, zero, suc, ◌+◌, ◌≤◌, List, [], ◌∷◌, ◌++◌, Bool, true, false, cond, nat_lt, set, refl, sym, ap, ◌∙◌, arith, append_assoc, eq-eqb, ne_eqb}
use Rattle.std.proofs.lemmas.Bool.Decides.{nat_tests}
use mathlib.Core.Option.{some, some-injective, some-ne-none}
use lib.ListN.{get_elem?}
use Rattle.book_core.specs.Calls.{Call}
use Rattle.book_lock.specs.declared.call.Sight.{Sight}
use Rattle.book_lock.specs.declared.call.View.{View}
use Rattle.book_lock.specs.Seen.{StartsWith, calls_by, AllKnow, one_if, times, total, once_below, first_of, rest_of}

append_nil : (xs : List Call) → xs ++ [] ≡ xs
append_nil [] = refl
append_nil (x ∷ xs) = ap (λ ys. x ∷ ys) (append_nil xs)

pub starts_self : (all : List Call) → StartsWith all all
starts_self all = ([], sym (append_nil all))

pub starts_trans : (all more front : List Call) → StartsWith more all → StartsWith all front → StartsWith more front
starts_trans all more front s t = (t.0 ++ s.0, s.1 ∙ ap (λ l. l ++ s.0) t.1 ∙ append_assoc front t.0 s.0)

cond_append : (b : Bool) (c : Call) (xs ys : List Call) → cond b (c ∷ (xs ++ ys)) (xs ++ ys) ≡ cond b (c ∷ xs) xs ++ ys
cond_append true c xs ys = refl
cond_append false c xs ys = refl

pub calls_by-append : (k : ℕ) (xs ys : List Call) → calls_by k (xs ++ ys) ≡ calls_by k xs ++ calls_by k ys
calls_by-append k [] ys = refl
calls_by-append k (c ∷ cs) ys = ap (λ l. cond (k == c.seat) (c ∷ l) l) (calls_by-append k cs ys) ∙ cond_append (k == c.seat) c (calls_by k cs) (calls_by k ys)

-- a call of one seat is none of another's
pub other_call : (j : ℕ) (all : List Call) (c : Call) → j ≢ c.seat → calls_by j (all ++ c ∷ []) ≡ calls_by j all
other_call j all c ne =
    calls_by-append j all (c ∷ []) ∙ ap (λ b. calls_by j all ++ cond b (c ∷ []) []) (ne_eqb j c.seat ne) ∙ append_nil (calls_by j all)

-- a call of its own stands behind those that it had
pub own_call : (j : ℕ) (all : List Call) (c : Call) → j ≡ c.seat → calls_by j (all ++ c ∷ []) ≡ calls_by j all ++ c ∷ []
own_call j all c e = calls_by-append j all (c ∷ []) ∙ ap (λ b. calls_by j all ++ cond b (c ∷ []) []) (eq-eqb j c.seat e)

-- the list grew by calls of a seat that is none of these
pub know_more : (all next : List Call) (k : ℕ) (xs : List Sight) → StartsWith next all → ((j : ℕ) → j ≢ k → calls_by j next ≡ calls_by j all) → times k xs ≡ 0 → AllKnow all xs → AllKnow next xs
know_more all next k [] s o none h = tt
know_more all next k (x ∷ xs) s o none h =
    ((starts_trans all next x.seen s h.0.0, o x.number apart ∙ h.0.1), know_more all next k xs s o (omega (arith, none)) h.1)
  where
    apart : x.number ≢ k
    apart e = let one = ap one_if (eq-eqb k x.number (sym e)) in absurd (omega (arith, none, one))

pub know_append : (all : List Call) (xs ys : List Sight) → AllKnow all xs → AllKnow all ys → AllKnow all (xs ++ ys)
know_append all [] ys h k = k
know_append all (x ∷ xs) ys h k = (h.0, know_append all xs ys h.1 k)

pub know_first : (all : List Call) (xs : List Sight) → AllKnow all xs → AllKnow all (first_of xs)
know_first all [] h = tt
know_first all (x ∷ xs) h = (h.0, tt)

pub know_rest : (all : List Call) (xs : List Sight) → AllKnow all xs → AllKnow all (rest_of xs)
know_rest all [] h = tt
know_rest all (x ∷ xs) h = h.1

pub times-append : (k : ℕ) (xs ys : List Sight) → times k (xs ++ ys) ≡ times k xs + times k ys
times-append k [] ys = omega arith
times-append k (x ∷ xs) ys = let later = times-append k xs ys in omega (arith, later)

pub times-cut : (k : ℕ) (xs : List Sight) → times k (rest_of xs) + times k (first_of xs) ≡ times k xs
times-cut k [] = refl
times-cut k (x ∷ xs) = omega arith

-- ---- over all views

pub total_set : (f : View → ℕ) (views : List View) (i : ℕ) (v w : View) → get_elem? views i ≡ some v → total f (set views i w) + f v ≡ total f views + f w
total_set f [] i v w at = absurd (some-ne-none v (sym at))
total_set f (x ∷ xs) zero v w at = let same : f x ≡ f v = ap f (some-injective x v at) in omega (arith, same)
total_set f (x ∷ xs) (suc i) v w at = let later = total_set f xs i v w at in omega (arith, later)

pub total_snoc : (f : View → ℕ) (views : List View) (w : View) → total f (views ++ w ∷ []) ≡ total f views + f w
total_snoc f [] w = omega arith
total_snoc f (x ∷ xs) w = let later = total_snoc f xs w in omega (arith, later)

pub total_one : (f : View → ℕ) (views : List View) (i : ℕ) (v : View) → get_elem? views i ≡ some v → f v ≤ total f views
total_one f [] i v at = absurd (some-ne-none v (sym at))
total_one f (x ∷ xs) zero v at = let same : f x ≡ f v = ap f (some-injective x v at) in omega (arith, same)
total_one f (x ∷ xs) (suc i) v at = let later = total_one f xs i v at in omega (arith, later)

-- two views together have no more than all
pub total_two : (f : View → ℕ) (views : List View) (i j : ℕ) (v w : View) → get_elem? views i ≡ some v → get_elem? views j ≡ some w → i ≢ j → f v + f w ≤ total f views
total_two f [] i j v w at there apart = absurd (some-ne-none v (sym at))
total_two f (x ∷ xs) zero zero v w at there apart = absurd (apart refl)
total_two f (x ∷ xs) zero (suc j) v w at there apart = let same : f x ≡ f v = ap f (some-injective x v at) in let later = total_one f xs j w there in omega (arith, same, later)
total_two f (x ∷ xs) (suc i) zero v w at there apart = let same : f x ≡ f w = ap f (some-injective x w there) in let later = total_one f xs i v at in omega (arith, same, later)
total_two f (x ∷ xs) (suc i) (suc j) v w at there apart = let later = total_two f xs i j v w at there (λ e. apart (ap suc e)) in omega (arith, later)

at_most : (b : Bool) → one_if b ≤ 1
at_most true = omega arith
at_most false = omega arith

pub once_few : (k n : ℕ) → once_below k n ≤ 1
once_few k n = at_most (nat_lt k n)

pub once_none : (k n : ℕ) → n ≤ k → once_below k n ≡ 0
once_none k n above = let no : nat_lt k n ≡ false = grind (arith, nat_tests) in ap one_if no

pub there_set : (views : List View) (i : ℕ) (v w : View) → get_elem? views i ≡ some v → get_elem? (set views i w) i ≡ some w
there_set [] i v w at = absurd (some-ne-none v (sym at))
there_set (x ∷ xs) zero v w at = refl
there_set (x ∷ xs) (suc i) v w at = there_set xs i v w at
