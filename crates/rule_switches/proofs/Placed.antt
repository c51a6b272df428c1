-- The cells of a count: entries that one number falls on, told apart by the sum of their places.
use Rattle.std.proofs.Common.{◌≡◌, ◌≢◌, ◌⊎◌, inl, inr, ⊎_elim, ℕ, zero, suc, ◌+◌, ◌*◌, ◌/◌, ◌<◌, ◌≤◌, ◌^◌, List, [], ◌∷◌, ◌++◌, length, replicate, set, get_or, Bool, true, false, cond, sum_by, unwrap_or, refl, sym, ap, ◌∙◌, subst, length-append, arith}
use Rattle.std.specs.List.{slice_index_or}
use Rattle.std.proofs.lemmas.Bool.{cases_eq, cases_lt}
use Rattle.std.proofs.lemmas.List.{get_or-replicate, get_or-set_same, get_or-set_other, length-replicate, length-set, replicate-append-replicate}
use Rattle.std.proofs.lemmas.List.Sums.{sum_by-cons, sum_by-set}
use Rattle.std.proofs.lemmas.Nat.{le-div}
use Rattle.std.proofs.Math.Nat.{div-mul-le_self, mul-le-mul_right}
use Rattle.bucket_core.specs.Rule.{Entries, at, entry_at, entry_name, total_weight}
use Rattle.murmur_core.specs.Murmur.{hash}
use Rattle.bucket_core.specs.Point.{point_of, scale}
use Rattle.price_core.specs.Cost.{name_at, name_of_input}
use Rattle.price_core.specs.Pricing.{Pair}
use Rattle.price_core.proofs.Cursors.{entry_at_rises}
use Rattle.rule_switches.specs.Counting.{Adds, Counted, HasCounted, IsCounting, IsPlace, IsPlaced, names_in, names_of, no_cell, users_of}
use Rattle.rule_switches.specs.declared.counting.Cell.{Cell}

-- a larger number falls on no earlier point
point_rises : (x y total span : ℕ) → 0 < span → x ≤ y → x * total / span ≤ y * total / span
point_rises x y total span some order =
    let more : x * total ≤ y * total = mul-le-mul_right total order in
    le-div (x * total / span) (y * total) span some (omega (arith, div-mul-le_self (x * total) span, more))

-- cells at one place are of the same entries
same_by : (before after : Entries) (span i : ℕ) (c d : Cell) → 0 < span → (p : IsPlaced before after span i c) (q : IsPlaced before after span i d) → p.x ≤ q.x → (c.from ≡ d.from) × (c.to ≡ d.to)
same_by before after span i c d some p q order =
    let old = entry_at_rises before (p.x * total_weight before / span) (q.x * total_weight before / span) (point_rises p.x q.x (total_weight before) span some order) in
    let new = entry_at_rises after (p.x * total_weight after / span) (q.x * total_weight after / span) (point_rises p.x q.x (total_weight after) span some order) in
    (omega (arith, p.from, p.to, p.place, q.from, q.to, q.place, old, new), omega (arith, p.from, p.to, p.place, q.from, q.to, q.place, old, new))

pub same_entries : (before after : Entries) (span i : ℕ) (c d : Cell) → 0 < span → (p : IsPlaced before after span i c) (q : IsPlaced before after span i d) → (c.from ≡ d.from) × (c.to ≡ d.to)
same_entries before after span i c d some p q =
    ⊎_elim
    (λ (low : p.x < q.x). same_by before after span i c d some p q (omega (arith, low)))
    (λ (high : q.x ≤ p.x). let back = same_by before after span i d c some q p high in (sym back.0, sym back.1))
    (cases_lt p.x q.x)

both_parts : (b : Bool) (m n : ℕ) → cond b (m + n) 0 ≡ cond b m 0 + cond b n 0
both_parts true m n = refl
both_parts false m n = omega arith

no_part : (b : Bool) (n : ℕ) → n ≡ 0 → cond b n 0 ≡ 0
no_part true n none = none
no_part false n none = refl

-- one more at a cell, which has no inputs yet or is of the same entries
module _ (s : Counted) (spot users : ℕ) (c : Cell) (is : IsCounting s) (inside : spot < length s.cells) (here : IsPlaced s.before s.after s.span spot c) (more : c.users ≡ (slice_index_or s.cells spot no_cell).users + users) where
  abbrev amount : (Pair → Bool) → Cell → ℕ
  amount test d = cond (test (names_in s.before s.after d)) d.users 0

  -- what stood there has the names of the new one, or no inputs
  stood : (test : Pair → Bool) → amount test c ≡ amount test (slice_index_or s.cells spot no_cell) + cond (test (names_in s.before s.after c)) users 0
  stood test =
      let t = test (names_in s.before s.after c) in
      ⊎_elim
      (λ (none : (slice_index_or s.cells spot no_cell).users ≡ 0).
      let new : cond t c.users 0 ≡ cond t users 0 = ap (λ (n : ℕ). let k : ℕ = cond t n 0 in k) (omega (arith, more, none)) in
      let nothing : cond (test (names_in s.before s.after (slice_index_or s.cells spot no_cell))) (slice_index_or s.cells spot no_cell).users 0 ≡ 0 =
      no_part (test (names_in s.before s.after (slice_index_or s.cells spot no_cell))) (slice_index_or s.cells spot no_cell).users none in
      omega (arith, new, nothing))
      (λ (placed : IsPlaced s.before s.after s.span spot (slice_index_or s.cells spot no_cell)).
      let same = same_entries s.before s.after s.span spot c (slice_index_or s.cells spot no_cell) is.some here placed in
      let moved : cond t (slice_index_or s.cells spot no_cell).users 0 ≡ cond (test (names_in s.before s.after (slice_index_or s.cells spot no_cell))) (slice_index_or s.cells spot no_cell).users 0 =
      λ i. cond (test (names_in s.before s.after (record { from = same.0 i; to = same.1 i; users = 0 }))) (slice_index_or s.cells spot no_cell).users 0 in
      let new : cond t c.users 0 ≡ cond t ((slice_index_or s.cells spot no_cell).users + users) 0 = ap (λ (n : ℕ). let k : ℕ = cond t n 0 in k) more in
      omega (arith, new, both_parts t (slice_index_or s.cells spot no_cell).users users, moved))
      (is.placed spot inside)

  -- the numbers of inputs by their names
  pub more_users : (test : Pair → Bool) → sum_by (λ d. cond (test (names_in s.before s.after d)) d.users 0) (set s.cells spot c) ≡ users_of s test + cond (test (names_in s.before s.after c)) users 0
  more_users test =
      let set = sum_by-set (λ (d : Cell). cond (test (names_in s.before s.after d)) d.users 0) s.cells spot c no_cell inside in
      omega (arith, set, stood test)

  -- the count stays as one is
  pub still_counting : s.inputs + users < 2 ^ 64 → IsCounting (record { before = s.before; after = s.after; span = s.span; inputs = s.inputs + users; cells = set s.cells spot c })
  still_counting room = record {
    some = is.some;
    long = length-set s.cells spot c ∙ is.long;
    placed = λ i low.
        ⊎_elim
        (λ (same : i ≡ spot).
        let stands : slice_index_or (set s.cells spot c) i no_cell ≡ c = ap (λ k. slice_index_or (set s.cells spot c) k no_cell) same ∙ get_or-set_same s.cells spot c no_cell inside in
        inr (subst (λ k. IsPlaced s.before s.after s.span k (slice_index_or (set s.cells spot c) i no_cell)) (sym same) (subst (λ d. IsPlaced s.before s.after s.span spot d) (sym stands) here)))
        (λ (other : i ≢ spot).
        let stands : slice_index_or (set s.cells spot c) i no_cell ≡ slice_index_or s.cells i no_cell = get_or-set_other s.cells spot i c no_cell other in
        subst (λ d. (d.users ≡ 0) ⊎ IsPlaced s.before s.after s.span i d) (sym stands) (is.placed i (omega (arith, low, length-set s.cells spot c))))
        (cases_eq i spot);
    whole = omega (arith, sum_by-set (λ (d : Cell). d.users) s.cells spot c no_cell inside, more, is.whole);
    few = room;
  }

  -- so many more, of the names of the new cell
  pub adds_more : (names : Pair) → names_in s.before s.after c ≡ names → Adds s (record { before = s.before; after = s.after; span = s.span; inputs = s.inputs + users; cells = set s.cells spot c }) names users
  adds_more names named = record {
    before = refl;
    after = refl;
    span = refl;
    inputs = refl;
    counted = λ test. more_users test ∙ ap (λ (p : Pair). let n : ℕ = users_of s test + cond (test p) users 0 in n) named;
  }

-- a cell of the entries that a number falls on
pub placed_by : (s : Counted) (p q from to users : ℕ) → IsPlace s p q → from ≡ entry_at s.before p → to ≡ entry_at s.after q → from < length s.before → to < length s.after → IsPlaced s.before s.after s.span (from + to) (record { from = from; to = to; users = users })
placed_by s p q from to users place old new old_inside new_inside = record {
  x = place.x;
  from = old ∙ ap (entry_at s.before) place.before;
  to = new ∙ ap (entry_at s.after) place.after;
  place = refl;
  from_inside = old_inside;
  to_inside = new_inside;
}

-- the names of such a cell
pub named_by : (before after : Entries) (p q from to users : ℕ) → at before p ≡ entry_name before from → at after q ≡ entry_name after to → names_in before after (record { from = from; to = to; users = users }) ≡ (name_at before p, name_at after q)
named_by before after p q from to users old new = λ i. (unwrap_or ((sym old) i) [], unwrap_or ((sym new) i) [])

-- the users of a cell are some of all
pub one_of_all : (cells : List Cell) (i : ℕ) → (slice_index_or cells i no_cell).users ≤ sum_by (λ c. c.users) cells
one_of_all [] i = omega arith
one_of_all (c ∷ cs) zero = omega (arith, sum_by-cons (λ (d : Cell). d.users) c cs)
one_of_all (c ∷ cs) (suc i) = omega (arith, sum_by-cons (λ (d : Cell). d.users) c cs, one_of_all cs i)

-- ---- no inputs yet

no_users : (f : Cell → ℕ) (cells : List Cell) → ((i : ℕ) → i < length cells → f (get_or cells i no_cell) ≡ 0) → sum_by f cells ≡ 0
no_users f [] none = refl
no_users f (c ∷ cs) none = omega (arith, sum_by-cons f c cs, none 0 (omega arith), no_users f cs (λ i low. none (suc i) (omega (arith, low))))

module _ (before after : Entries) (span : ℕ) (cells : List Cell) (is : cells ≡ replicate (length before) no_cell ++ replicate (length after) no_cell) where
  each : (i : ℕ) → i < length cells → get_or cells i no_cell ≡ no_cell
  each i low =
      let whole : cells ≡ replicate (length before + length after) no_cell = is ∙ replicate-append-replicate (length before) (length after) no_cell in
      ap (λ cs. get_or cs i no_cell) whole ∙ get_or-replicate (length before + length after) i no_cell no_cell (omega (arith, low, ap length whole, length-replicate (length before + length after) no_cell))

  pub no_counting : 0 < span → IsCounting (record { before = before; after = after; span = span; inputs = 0; cells = cells })
  no_counting some = record {
    some = some;
    long = ap length is ∙ (length-append (replicate (length before) no_cell) (replicate (length after) no_cell) ∙ omega (arith, length-replicate (length before) no_cell, length-replicate (length after) no_cell));
    placed = λ i low. inl (ap (λ (c : Cell). c.users) (each i low));
    whole = no_users (λ (c : Cell). c.users) cells (λ i low. ap (λ (c : Cell). c.users) (each i low));
    few = omega arith;
  }

  pub none_counted : HasCounted (record { before = before; after = after; span = span; inputs = 0; cells = cells }) []
  none_counted = record {
    number = refl;
    users = λ test. no_users (λ c. cond (test (names_in before after c)) c.users 0) cells (λ i low. no_part (test (names_in before after (get_or cells i no_cell))) (get_or cells i no_cell).users (ap (λ (c : Cell). c.users) (each i low)));
  }

-- ---- an input

-- the name at the point that a hash is scaled to
pub named_input : (r : Entries) (total h p : ℕ) (input : List ℕ) → total ≡ total_weight r → h ≡ hash input 0 → p ≡ scale total h → name_at r p ≡ name_of_input r input
unfolding point_of
named_input r total h p input weight hashed is = ap (name_at r) (is ∙ (ap (λ n. scale n h) weight ∙ ap (scale (total_weight r)) hashed))

pub input_added : (s t : Counted) (input : List ℕ) (p q : ℕ) → Adds s t (name_at s.before p, name_at s.after q) 1 → name_at s.before p ≡ name_of_input s.before input → name_at s.after q ≡ name_of_input s.after input
    → Adds s t (names_of s.before s.after input) 1
input_added s t input p q adds old new = record {
  before = adds.before;
  after = adds.after;
  span = adds.span;
  inputs = adds.inputs;
  counted = λ test. adds.counted test ∙ (λ i. users_of s test + cond {A = ℕ} (test (old i, new i)) 1 0);
}
