-- How the table begins, and what is known once one place has all seats.
use Rattle.std.proofs.Common.{◌==◌, ◌≡◌, ◌≢◌, ℕ, zero, suc, ◌+◌, ◌-◌, append_assoc, ◌<◌, ◌≤◌, List, [], ◌∷◌, ◌++◌, Option, Some, Bool, true, false, true≢false, length, nat_lt, get_or, refl, sym, ap, ◌∙◌, subst, arith, eq-eqb}
use Rattle.std.proofs.lemmas.Bool.Decides.{nat_tests}
use mathlib.Core.Option.{some, some-injective, some-ne-none}
use mathlib.Core.Logic.{dite}
use native.Mathlib.Decide.{ℕ_discrete}
use lib.ListN.{get_elem?}
use Rattle.atomic_table.specs.Table.{opening, Final, Seen}
use Rattle.book_core.specs.Book.{Contents}
use Rattle.book_lock.specs.declared.call.Sight.{Sight}
use Rattle.book_lock.specs.declared.call.View.{View}
use Rattle.book_lock.specs.Seen.{AllKnow, one_if, once_below, sight, rest_of, times, unseen, view_of}
use Rattle.book_lock.specs.Rule.{St, Sat, Orderly, holding}
use Rattle.book_lock.specs.Sealed.{IsSealed}
use Rattle.book_lock.proofs.Seats.{starts_self, total_one, total_two, once_few}

-- ---- the beginning

know_unseen : (n : ℕ) → AllKnow [] (unseen n)
know_unseen zero = tt
know_unseen (suc n) = ((starts_self [], refl), know_unseen n)

-- one seat more
one_more : (k n : ℕ) (b c d : Bool) → (k == n) ≡ b → nat_lt k n ≡ c → nat_lt k (suc n) ≡ d → one_if b + one_if c ≡ one_if d
one_more k n true true d e f g = absurd (grind (arith, nat_tests))
one_more k n true false true e f g = refl
one_more k n true false false e f g = absurd (grind (arith, nat_tests))
one_more k n false true true e f g = refl
one_more k n false true false e f g = absurd (grind (arith, nat_tests))
one_more k n false false true e f g = absurd (grind (arith, nat_tests))
one_more k n false false false e f g = refl

none_below : (k : ℕ) → once_below k 0 ≡ 0
none_below k = let no : nat_lt k 0 ≡ false = grind (arith, nat_tests) in ap one_if no

times-unseen : (k n : ℕ) → times k (unseen n) ≡ once_below k n
times-unseen k zero = sym (none_below k)
times-unseen k (suc n) = let later = times-unseen k n in let more = one_more k n (k == n) (nat_lt k n) (nat_lt k (suc n)) refl refl refl in omega (arith, later, more)

only : (x v : View) (seat : ℕ) → get_elem? (x ∷ []) seat ≡ some v → x ≡ v
only x v zero at = some-injective x v at
only x v (suc seat) at = absurd (some-ne-none v (sym at))

off : {X : Type 0} (b : Bool) → b ≡ false → b ≡ true → X
off b nay aye = absurd (true≢false (sym aye ∙ nay))

opens_one : (n : ℕ) → Orderly n (opening (0 ∷ []) (Some [] ∷ []) (view_of false (unseen n)))
opens_one n =
    let first = view_of false (unseen n) in
    record {
      all = [];
      holder = 0;
      wide = refl;
      legal = (tt, refl);
      callers = λ k above. refl;
      free = λ z. ([], refl, refl);
      nobody = λ z seat v at. ap (λ (u : View). u.holds) (sym (only first v seat at));
      named = λ ne. absurd (ne refl);
      one = λ seat v at aye. off v.holds (ap (λ (u : View). u.holds) (sym (only first v seat at))) aye;
      seen = λ seat v at. subst (λ (u : View). AllKnow [] u.seats) (only first v seat at) (know_unseen n);
      numbers = λ k. (let one = times-unseen k n in omega (arith, one));
    }

pub opens : (n : ℕ) (xs : List (Option Contents)) → xs ≡ Some [] ∷ [] → Orderly n (opening (0 ∷ []) xs (view_of false (unseen n)))
opens n xs is = subst (λ (ys : List (Option Contents)). Orderly n (opening (0 ∷ []) ys (view_of false (unseen n)))) (sym is) (opens_one n)

pub unseen_step : (n m : ℕ) → n ≡ suc m → unseen n ≡ sight m [] ∷ unseen m
unseen_step n m is = ap unseen is

-- ---- as many seats as numbers, none twice: each once

abbrev below : (ℕ → ℕ) → ℕ → ℕ
below f zero = 0
below f (suc m) = below f m + f m

below_none : (n : ℕ) → below (λ k. 0) n ≡ 0
below_none zero = refl
below_none (suc n) = let later = below_none n in omega (arith, later)

below_add : (f g : ℕ → ℕ) (n : ℕ) → below (λ k. f k + g k) n ≡ below f n + below g n
below_add f g zero = refl
below_add f g (suc n) = let later = below_add f g n in omega (arith, later)

turned : (k y : ℕ) (b c : Bool) → (k == y) ≡ b → (y == k) ≡ c → one_if b ≡ one_if c
turned k y true true e f = refl
turned k y true false e f = absurd (grind (arith, nat_tests))
turned k y false true e f = absurd (grind (arith, nat_tests))
turned k y false false e f = refl

below_one : (y n : ℕ) → below (λ k. one_if (k == y)) n ≡ once_below y n
below_one y zero = sym (none_below y)
below_one y (suc n) =
    let later = below_one y n in
    let more = one_more y n (y == n) (nat_lt y n) (nat_lt y (suc n)) refl refl refl in
    let same = turned n y (n == y) (y == n) refl refl in
    omega (arith, later, more, same)

is_below : (y n : ℕ) (b : Bool) → nat_lt y n ≡ b → (n ≤ y → one_if b ≡ 1) → one_if b ≡ 1
is_below y n true e f = refl
is_below y n false e f = f (grind (arith, nat_tests))

below_times : (n : ℕ) (xs : List Sight) → ((k : ℕ) → n ≤ k → times k xs ≡ 0) → below (λ k. times k xs) n ≡ length xs
below_times n [] none = below_none n
below_times n (x ∷ xs) none =
    let y = x.number in
    let here : one_if (y == y) ≡ 1 = ap one_if (eq-eqb y y refl) in
    let one : once_below y n ≡ 1 = is_below y n (nat_lt y n) refl (λ above. (let no = none y above in absurd (omega (arith, no, here)))) in
    let later = below_times n xs (λ k above. (let no = none k above in omega (arith, no))) in
    let split = below_add (λ k. one_if (k == y)) (λ k. times k xs) n in
    let first = below_one y n in
    omega (arith, one, later, split, first)

below_le : (f : ℕ → ℕ) (n : ℕ) → ((k : ℕ) → f k ≤ 1) → below f n ≤ n
below_le f zero few = omega arith
below_le f (suc n) few = let later = below_le f n few in let this = few n in omega (arith, later, this)

below_full : (f : ℕ → ℕ) (n : ℕ) → ((k : ℕ) → f k ≤ 1) → below f n ≡ n → (k : ℕ) → k < n → f k ≡ 1
below_full f zero few full k low = absurd (omega arith)
below_full f (suc n) few full k low =
    let less = below_le f n few in
    let this = few n in
    let last : f n ≡ 1 = omega (arith, less, this, full) in
    dite (ℕ_discrete k n) (λ e. ap f e ∙ last) (λ ne. below_full f n few (omega (arith, less, this, full)) k (omega (arith, low, ne)))

by_test : (k n t : ℕ) (b : Bool) → nat_lt k n ≡ b → t ≤ one_if b → (k < n → t ≡ 1) → t ≡ one_if b
by_test k n t true e few f = f (grind (arith, nat_tests))
by_test k n t false e few f = omega (arith, few)

each_once : (n : ℕ) (xs : List Sight) → ((k : ℕ) → times k xs ≤ once_below k n) → length xs ≡ n → (k : ℕ) → times k xs ≡ once_below k n
each_once n xs few len k =
    by_test k n (times k xs) (nat_lt k n) refl (few k)
    (below_full (λ j. times j xs) n (λ j. (let a = few j in let b = once_few j n in omega (arith, a, b))) (below_times n xs (λ j above. none j above) ∙ len) k)
  where
    none : (j : ℕ) → n ≤ j → times j xs ≡ 0
    none j above = let a = few j in let no : nat_lt j n ≡ false = grind (arith, nat_tests) in let z : once_below j n ≡ 0 = ap one_if no in omega (arith, a, z)

-- ---- the end

pub closes : (n id : ℕ) (v : View) (ws : List ℕ) (xs : List (Option Contents)) (seats : List Sight) → Final (Seen (Orderly n) id v) ws xs → v ≡ view_of false seats → length seats ≡ n → (o : Option Contents) → get_elem? xs 0 ≡ some o
    → (book : Contents) × (o ≡ Some book) × IsSealed n seats book
closes n id v ws xs seats final is len o here =
    let t = ord.free word in
    (t.0, some-injective o (Some t.0) (sym here ∙ final.4 0 (Some t.0) t.1), record { all = ord.all; legal = ord.legal; left = t.2; seen = ord.seen id mine at; callers = ord.callers; numbers = all })
  where
    s : St
    s = final.0

    ord : Orderly n s
    ord = final.1.0

    mine : View
    mine = view_of false seats

    at : get_elem? s.views id ≡ some mine
    at = final.1.1 ∙ ap some is

    all : (k : ℕ) → times k seats ≡ once_below k n
    all = each_once n seats (λ k. (let one = total_one (λ u. times k u.seats) s.views id mine at in let sum = ord.numbers k in omega (arith, one, sum))) len

    apart : (j : ℕ) (u : View) → get_elem? s.views j ≡ some u → u.holds ≡ true → id ≢ j
    apart j u there aye e = off u.holds (ap (λ (y : View). y.holds) (sym (some-injective mine u (sym at ∙ ap (get_elem? s.views) e ∙ there)))) aye

    held : get_or s.words 0 0 ≢ 0 → get_or s.words 0 0 ≡ 0
    held ne =
        let t = ord.named ne in
        let u = ord.one ord.holder t.0 t.1 t.2 in
        let k = u.1.0 in
        let one : times k t.0.seats ≡ times k (holding k ord.all).seats = ap (λ (y : View). times k y.seats) u.1.2 in
        let own : one_if (k == k) ≡ 1 = ap one_if (eq-eqb k k refl) in
        let two = total_two (λ y. times k y.seats) s.views id ord.holder mine t.0 at t.1 (apart ord.holder t.0 t.1 t.2) in
        let sum = ord.numbers k in
        let each = all k in
        absurd (omega (arith, one, own, two, sum, each))

    word : get_or s.words 0 0 ≡ 0
    word = dite (ℕ_discrete (get_or s.words 0 0) 0) (λ e. e) held

-- the first seat is split off
pub split_off : (n : ℕ) (a b : Sat) → 0 < n → a ≡ (view_of false (unseen n), []) → b ≡ (view_of false (rest_of a.0.seats), []) → b ≡ (view_of false (unseen (n - 1)), [])
split_off n a b left at is =
    let step = unseen_step n (n - 1) (omega (arith, left)) in
    is ∙ ap (λ (l : List Sight). (view_of false l, [])) (ap (λ (m : Sat). rest_of m.0.seats) at ∙ ap rest_of step)

pub adds_seat : (n : ℕ) (xs ys all : List Sight) → 0 < n → xs ++ unseen n ≡ all → ys ≡ xs ++ sight (n - 1) [] ∷ [] → ys ++ unseen (n - 1) ≡ all
adds_seat n xs ys all left whole is =
    let step = unseen_step n (n - 1) (omega (arith, left)) in
    ap (λ (l : List Sight). l ++ unseen (n - 1)) is ∙ append_assoc xs (sight (n - 1) [] ∷ []) (unseen (n - 1)) ∙ ap (λ (l : List Sight). xs ++ l) (sym step) ∙ whole
