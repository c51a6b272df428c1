-- The bytes behind the blanks, and that a front of what may begin a record may begin one.
use Rattle.std.proofs.Common.{◌≡◌, ℕ, zero, suc, ◌+◌, Bool, true, false, not, cond, ◌&&◌, ◌||◌, ◌==◌, nat_lt, List, [], ◌∷◌, length, take, drop, Some, None, refl, sym, ap, ◌∙◌, arith}
use Rattle.std.specs.List.{prefix_len}
use Rattle.std.proofs.lemmas.Bool.Decides.{nat_tests}
use Rattle.flag_text.proofs.Bools.{both, left, right}
use Rattle.flagops_shell.specs.Beginning.{is_mark, from_place, after_blanks, goes_on_as_tally, begins_name, begins_member, begins_object, may_begin_record}

-- ---- a byte at a time

pub after_blanks-nil : after_blanks [] ≡ []
unfolding after_blanks
after_blanks-nil = refl

some_byte : (n : ℕ) → nat_lt 0 (suc n) ≡ true
some_byte n = grind (arith, nat_tests)

at_mark : (b : Bool) (n m x : ℕ) (xs : List ℕ) → b ≡ true → from_place (cond (nat_lt (cond (not b) (1 + n) 0) (suc m)) (Some (cond (not b) (1 + n) 0)) None) (x ∷ xs) ≡ x ∷ xs
at_mark true n m x xs e = ap (λ b. from_place (cond b (Some 0) None) (x ∷ xs)) (some_byte m)
at_mark false n m x xs e = cc

pub after_blanks-mark : (x : ℕ) (xs : List ℕ) → is_mark x ≡ true → after_blanks (x ∷ xs) ≡ x ∷ xs
unfolding after_blanks
after_blanks-mark x xs e = at_mark (is_mark x) (prefix_len (λ y. not (is_mark y)) xs) (length xs) x xs e

one_more : (n m : ℕ) → nat_lt (1 + n) (suc m) ≡ nat_lt n m
one_more n m = grind (arith, nat_tests)

placed : (b : Bool) (n x : ℕ) (xs : List ℕ) → from_place (cond b (Some (1 + n)) None) (x ∷ xs) ≡ from_place (cond b (Some n) None) xs
placed true n x xs = let next : 1 + n ≡ suc n = omega arith in ap (λ k. drop k (x ∷ xs)) next
placed false n x xs = refl

at_blank : (b : Bool) (n m x : ℕ) (xs : List ℕ) → b ≡ false
    → from_place (cond (nat_lt (cond (not b) (1 + n) 0) (suc m)) (Some (cond (not b) (1 + n) 0)) None) (x ∷ xs) ≡ from_place (cond (nat_lt n m) (Some n) None) xs
at_blank true n m x xs e = cc
at_blank false n m x xs e = ap (λ b. from_place (cond b (Some (1 + n)) None) (x ∷ xs)) (one_more n m) ∙ placed (nat_lt n m) n x xs

pub after_blanks-blank : (x : ℕ) (xs : List ℕ) → is_mark x ≡ false → after_blanks (x ∷ xs) ≡ after_blanks xs
unfolding after_blanks
after_blanks-blank x xs e = at_blank (is_mark x) (prefix_len (λ y. not (is_mark y)) xs) (length xs) x xs e

-- ---- fronts

-- the one is a front of the other
abbrev pub IsFront : List ℕ → List ℕ → Type 0
IsFront front bytes = (n : ℕ) × (front ≡ take n bytes)

after_blanks-take : (n : ℕ) (bytes : List ℕ) → IsFront (after_blanks (take n bytes)) (after_blanks bytes)
after_blanks-take zero bytes = (0, after_blanks-nil)
after_blanks-take (suc n) [] = (0, after_blanks-nil)
after_blanks-take (suc n) (x ∷ xs) = go (is_mark x) refl (after_blanks-take n xs)
  where
    go : (b : Bool) → is_mark x ≡ b → IsFront (after_blanks (take n xs)) (after_blanks xs) → IsFront (after_blanks (x ∷ take n xs)) (after_blanks (x ∷ xs))
    go true e h = (suc n, after_blanks-mark x (take n xs) e ∙ ap (take (suc n)) (sym (after_blanks-mark x xs e)))
    go false e h = (h.0, after_blanks-blank x (take n xs) e ∙ h.1 ∙ ap (take h.0) (sym (after_blanks-blank x xs e)))

or_weaker : (a b c : Bool) → (b ≡ true → c ≡ true) → (a || b) ≡ true → (a || c) ≡ true
or_weaker true b c f h = refl
or_weaker false b c f h = f h

goes_on-take : (n : ℕ) (bytes : List ℕ) → goes_on_as_tally bytes ≡ true → goes_on_as_tally (take n bytes) ≡ true
goes_on-take zero bytes h = refl
goes_on-take (suc n) [] h = refl
goes_on-take (suc n) (x ∷ xs) h = h

name-take : (n : ℕ) (bytes : List ℕ) → begins_name bytes ≡ true → begins_name (take n bytes) ≡ true
name-take zero bytes h = refl
name-take (suc n) [] h = refl
name-take (suc n) (x ∷ xs) h =
    or_weaker (x == 98 || x == 92) (x == 116 && goes_on_as_tally xs) (x == 116 && goes_on_as_tally (take n xs)) (λ t. both (x == 116) (goes_on_as_tally (take n xs)) (left (x == 116) _ t) (goes_on-take n xs (right (x == 116) _ t))) h

member-take : (n : ℕ) (bytes : List ℕ) → begins_member bytes ≡ true → begins_member (take n bytes) ≡ true
member-take zero bytes h = refl
member-take (suc n) [] h = refl
member-take (suc n) (x ∷ xs) h = both (x == 34) _ (left (x == 34) _ h) (name-take n xs (right (x == 34) _ h))

member_front : (front bytes : List ℕ) → IsFront front bytes → begins_member bytes ≡ true → begins_member front ≡ true
member_front front bytes f h = ap begins_member f.1 ∙ member-take f.0 bytes h

object-take : (n : ℕ) (bytes : List ℕ) → begins_object bytes ≡ true → begins_object (take n bytes) ≡ true
object-take zero bytes h = refl
object-take (suc n) [] h = refl
object-take (suc n) (x ∷ xs) h = both (x == 123) _ (left (x == 123) _ h) (member_front (after_blanks (take n xs)) (after_blanks xs) (after_blanks-take n xs) (right (x == 123) _ h))

-- what is no record by its front is none by all of it
pub may_begin-take : (n : ℕ) (bytes : List ℕ) → may_begin_record bytes ≡ true → may_begin_record (take n bytes) ≡ true
unfolding may_begin_record
may_begin-take n bytes h = let f = after_blanks-take n bytes in ap begins_object f.1 ∙ object-take f.0 (after_blanks bytes) h
