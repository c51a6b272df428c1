-- Cells that are added to rows, one by one.
use Rattle.std.proofs.Common.{◌≡◌, ℕ, ◌+◌, ◌<◌, ◌≤◌, ◌^◌, List, [], ◌∷◌, map, Bool, true, false, cond, Result, Ok, Err, IfOk, sum_by, refl, sym, ap, ◌∙◌, subst, arith}
use Rattle.std.specs.List.{All}
use Rattle.std.specs.List.Sorted.{IsStrictlySortedBy}
use Rattle.std.specs.Map.{keys_of}
use Rattle.std.proofs.lemmas.List.Sums.{sum_by-cons}
use Rattle.price_core.specs.Pricing.{Pair, lent_entry, lent_pair, pair_cmp}
use Rattle.rule_switches.specs.Counting.{AreRows, Counted, moves, names_in, passed, users_of}
use Rattle.rule_switches.specs.Switches.{Rows}
use Rattle.rule_switches.specs.declared.counting.Cell.{Cell}
use Rattle.rule_switches.proofs.Counts.{some_seen}
use Rattle.rule_switches.proofs.Listed.{Lent, amount-lent}

-- the rows and the cells that are left are all
pub record GoesOn (s : Counted) (rows : List (Lent × ℕ)) (rest : List Cell) : Type 0 where
  pub some : All (λ e. 0 < e.1) rows
  pub numbers : (test : Pair → Bool) → passed test (map lent_entry rows) + sum_by (λ c. cond (moves test (names_in s.before s.after c)) c.users 0) rest ≡ users_of s (moves test)
  pub few : sum_by (λ e. e.1) rows + sum_by (λ c. c.users) rest ≤ s.inputs

pub goes_none : (s : Counted) (rows : List (Lent × ℕ)) (rest : List Cell) → rows ≡ [] → rest ≡ s.cells → sum_by (λ c. c.users) s.cells ≡ s.inputs → GoesOn s rows rest
goes_none s rows rest none all whole = record {
  some = subst (λ (es : List (Lent × ℕ)). All (λ e. 0 < e.1) es) (sym none) (λ k d low. absurd (omega (arith, low)));
  numbers = λ test.
      let nothing : passed test (map lent_entry rows) ≡ 0 = ap (λ (es : List (Lent × ℕ)). passed test (map lent_entry es)) none in
      let same : sum_by (λ c. cond (moves test (names_in s.before s.after c)) c.users 0) rest ≡ users_of s (moves test) = ap (λ (cs : List Cell). sum_by (λ c. cond (moves test (names_in s.before s.after c)) c.users 0) cs) all in
      omega (arith, nothing, same);
  few =
      let nothing : sum_by (λ e. e.1) rows ≡ 0 = ap (λ (es : List (Lent × ℕ)). sum_by (λ e. e.1) es) none in
      let same : sum_by (λ c. c.users) rest ≡ sum_by (λ c. c.users) s.cells = ap (λ (cs : List Cell). sum_by (λ c. c.users) cs) all in
      omega (arith, nothing, same, whole);
}

part : (b : Bool) (n : ℕ) → cond b n 0 ≤ n
part true n = omega arith
part false n = omega arith

whole_lent : (rows : List (Lent × ℕ)) → passed (λ p. true) (map lent_entry rows) ≡ sum_by (λ e. e.1) rows
whole_lent rows = amount-lent (λ p. true) rows

pub goes_more : (s : Counted) (rows more : List (Lent × ℕ)) (c : Cell) (rest : List Cell) → GoesOn s rows (c ∷ rest) → (All (λ e. 0 < e.1) rows → All (λ e. 0 < e.1) more)
    → ((test : Pair → Bool) → passed test (map lent_entry more) ≡ passed test (map lent_entry rows) + cond (moves test (names_in s.before s.after c)) c.users 0) → GoesOn s more rest
goes_more s rows more c rest goes some numbers = record {
  some = some goes.some;
  numbers = λ test. omega (arith, goes.numbers test, numbers test, sum_by-cons (λ (d : Cell). cond (moves test (names_in s.before s.after d)) d.users 0) c rest);
  few = omega (arith, goes.few, numbers (λ p. true), whole_lent rows, whole_lent more, part (moves (λ p. true) (names_in s.before s.after c)) c.users, sum_by-cons (λ (d : Cell). d.users) c rest);
}

-- there is room for the first of the cells that are left
pub goes_room : (s : Counted) (rows : List (Lent × ℕ)) (c : Cell) (rest : List Cell) → GoesOn s rows (c ∷ rest) → s.inputs < 2 ^ 64 → sum_by (λ e. e.1) rows + c.users < 2 ^ 64
goes_room s rows c rest goes small = omega (arith, goes.few, small, sum_by-cons (λ (d : Cell). d.users) c rest)

pub goes_all : (s : Counted) (rows : List (Lent × ℕ)) (rest : List Cell) (list : Rows) → GoesOn s rows rest → rest ≡ [] → list ≡ map lent_entry rows → IsStrictlySortedBy pair_cmp (keys_of list) → AreRows s list
goes_all s rows rest list goes none is rise = record {
  rise = rise;
  some = subst (λ (es : Rows). All (λ e. 0 < e.1) es) (sym is) (some_seen lent_entry (λ e. refl) rows goes.some);
  counted = λ test.
      let nothing : sum_by (λ c. cond (moves test (names_in s.before s.after c)) c.users 0) rest ≡ 0 = ap (λ (cs : List Cell). sum_by (λ c. cond (moves test (names_in s.before s.after c)) c.users 0) cs) none in
      let same : passed test list ≡ passed test (map lent_entry rows) = ap (passed test) is in
      omega (arith, same, nothing, goes.numbers test);
}

-- what follows of a result from two things that are known of it
pub made : {X E : Type 0} (r : Result X E) (P Q R : X → Type 0) → IfOk r P → IfOk r Q → ((x : X) → P x → Q x → R x) → IfOk r R
made (Ok x) P Q R p q then = then x p q
made (Err e) P Q R p q then = tt
