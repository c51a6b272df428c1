-- A table that is filled run by run.
use Rattle.std.proofs.Common.{◌≡◌, ◌≢◌, ℕ, ◌+◌, ◌*◌, ◌/◌, ◌%◌, ◌<◌, ◌≤◌, ⊎_elim, Bool, true, false, cond, List, [], ◌∷◌, length, set, get_or, replicate, sum_by, refl, sym, ap, ◌∙◌, subst, drop, add-one, drop-cons, arith}
use Rattle.std.specs.List.{AllPairs, slice_index_or}
use Rattle.std.proofs.lemmas.Bool.{cases_eq}
use Rattle.std.proofs.lemmas.List.{get_or-set_same, get_or-set_other, get_or-replicate, get_or_default, length-set, length-replicate}
use Rattle.std.proofs.lemmas.List.Sums.{sum_by-cons}
use Rattle.std.proofs.lemmas.Nat.{div-mul-add, mod-mul-add}
use Rattle.limits.specs.Limits.{tally_inputs}
use Rattle.rule_switches.specs.Runs.{Run, AreFew, run_view, runs_view}
use Rattle.rule_switches.specs.declared.change.Run as program
use Rattle.rule_switches.specs.Table.{AreSmall, HasRun, IsTableOf, is_between, is_of_place, name_of, no_switch, run_points, run_users}
use Rattle.rule_switches.specs.declared.table.PairSwitches.{PairSwitches}
use Rattle.rule_switches.proofs.TablePlacing.{below, elsewhere, own_place}

-- the points and users of a place, of these runs
abbrev pub place_points : List (List ℕ) → ℕ → List Run → ℕ
place_points names c rs = run_points (name_of names (c / length names)) (name_of names (c % length names)) rs

abbrev pub place_users : List (List ℕ) → ℕ → List Run → ℕ
place_users names c rs = run_users (name_of names (c / length names)) (name_of names (c % length names)) rs

-- with those that are left, the table has the points and users of all runs
pub record IsFilled (names : List (List ℕ)) (rs rest : List Run) (xs : List PairSwitches) : Type 0 where
  pub long : length xs ≡ length names * length names
  pub points : (c : ℕ) → c < length xs → (slice_index_or xs c no_switch).points + place_points names c rest ≡ place_points names c rs
  pub users : (c : ℕ) → c < length xs → (slice_index_or xs c no_switch).users + place_users names c rest ≡ place_users names c rs
  pub few : sum_by (λ r. r.users) rest ≤ sum_by (λ r. r.users) rs

pub filled_none : (names : List (List ℕ)) (rs : List Run) (xs : List PairSwitches) → xs ≡ replicate (length names * length names) no_switch → IsFilled names rs rs xs
filled_none names rs xs is =
    let n = length names * length names in
    let long : length xs ≡ n = ap length is ∙ length-replicate n no_switch in
    let each : (c : ℕ) → c < length xs → slice_index_or xs c no_switch ≡ no_switch = λ c low. ap (λ ys. slice_index_or ys c no_switch) is ∙ get_or-replicate n c no_switch no_switch (omega (arith, low, long)) in
    record {
      long = long;
      points = λ c low. omega (arith, ap (λ s. s.points) (each c low));
      users = λ c low. omega (arith, ap (λ s. s.users) (each c low));
      few = omega arith;
    }

part_le : (test : Run → Bool) (f : Run → ℕ) (rs : List Run) → sum_by (λ r. cond (test r) (f r) 0) rs ≤ sum_by f rs
part_le test f [] = omega arith
part_le test f (r ∷ rs) = omega (arith, sum_by-cons (λ x. cond (test x) (f x) 0) r rs, sum_by-cons f r rs, part_le test f rs, one_le (test r) (f r))
  where
    one_le : (b : Bool) (n : ℕ) → cond b n 0 ≤ n
    one_le true n = omega arith
    one_le false n = omega arith

pub filled_small : (names : List (List ℕ)) (rs rest : List Run) (xs : List PairSwitches) → AreFew rs → IsFilled names rs rest xs → AreSmall xs
filled_small names rs rest xs few filled = λ c low.
    let a = name_of names (c / length names) in
    let b = name_of names (c % length names) in (
      omega (arith, filled.points c low, part_le (is_between a b) (λ r. r.points) rs, few.points),
      omega (arith, filled.users c low, part_le (is_between a b) (λ r. r.users) rs, few.users),
    )

pub first_few : (names : List (List ℕ)) (rs left : List Run) (r : Run) (xs : List PairSwitches) → AreFew rs → IsFilled names rs (r ∷ left) xs → r.users ≤ tally_inputs
first_few names rs left r xs few filled = omega (arith, sum_by-cons (λ (x : Run). x.users) r left, filled.few, few.users)

pub filled_more : (names : List (List ℕ)) (rs left : List Run) (r : Run) (xs ys : List PairSwitches) → IsFilled names rs (r ∷ left) xs → HasRun names r xs ys → IsFilled names rs left ys
filled_more names rs left r xs ys filled has = record {
  long = has.long ∙ filled.long;
  points = λ c low.
      let inside : c < length xs = omega (arith, low, has.long) in
      let b = is_of_place names c r in
      omega (arith, has.points c inside, filled.points c inside, sum_by-cons (λ x. cond (is_of_place names c x) x.points 0) r left);
  users = λ c low.
      let inside : c < length xs = omega (arith, low, has.long) in
      omega (arith, has.users c inside, filled.users c inside, sum_by-cons (λ x. cond (is_of_place names c x) x.users 0) r left);
  few = omega (arith, sum_by-cons (λ (x : Run). x.users) r left, filled.few);
}

pub filled_all : (names : List (List ℕ)) (rs : List Run) (w : ℕ) (xs : List PairSwitches) → w ≡ length names → IsFilled names rs [] xs → IsTableOf names rs (w, xs)
filled_all names rs w xs width filled = record {
  width = width;
  points = λ i j first second.
      let n = length names in
      let low : i * n + j < length xs = omega (arith, below n i j first second, filled.long) in
      let row = div-mul-add i n j second in
      let column = mod-mul-add i n j second in
      let told : (slice_index_or xs (i * n + j) no_switch).points ≡ place_points names (i * n + j) rs = omega (arith, filled.points (i * n + j) low) in
      ap (λ k. (slice_index_or xs (i * k + j) no_switch).points) width ∙ (told ∙ (ap (λ k. run_points (name_of names k) (name_of names ((i * n + j) % n)) rs) row ∙ ap (λ k. run_points (name_of names i) (name_of names k) rs) column));
  users = λ i j first second.
      let n = length names in
      let low : i * n + j < length xs = omega (arith, below n i j first second, filled.long) in
      let row = div-mul-add i n j second in
      let column = mod-mul-add i n j second in
      let told : (slice_index_or xs (i * n + j) no_switch).users ≡ place_users names (i * n + j) rs = omega (arith, filled.users (i * n + j) low) in
      ap (λ k. (slice_index_or xs (i * k + j) no_switch).users) width ∙ (told ∙ (ap (λ k. run_users (name_of names k) (name_of names ((i * n + j) % n)) rs) row ∙ ap (λ k. run_users (name_of names i) (name_of names k) rs) column));
}

pub next_run : (runs : List program.Run) (i : ℕ) (d : program.Run) → i < length runs → runs_view (drop i runs) ≡ run_view (get_or runs i d) ∷ runs_view (drop (i + 1) runs)
next_run runs i d low =
    let front : drop i runs ≡ get_or runs i d ∷ drop (i + 1) runs = rw add-one (drop-cons runs i d low) in
    ap runs_view front

-- ---- one run

pub unchanged : (names : List (List ℕ)) (r : Run) (xs : List PairSwitches) → length xs ≡ length names * length names → ((c : ℕ) → c < length names * length names → is_of_place names c r ≡ false) → HasRun names r xs xs
unchanged names r xs square none = record {
  long = refl;
  points = λ c low. omega (arith, ap (λ (b : Bool). cond b r.points 0) (none c (omega (arith, low, square))));
  users = λ c low. omega (arith, ap (λ (b : Bool). cond b r.users 0) (none c (omega (arith, low, square))));
}

pub added : (names : List (List ℕ)) (r : Run) (xs : List PairSwitches) (i j at : ℕ) (d have : PairSwitches) → length xs ≡ length names * length names → AllPairs (λ x y. x ≢ y) names
    → i < length names → j < length names → name_of names i ≡ r.from → name_of names j ≡ r.to → at ≡ i * length names + j
    → have.points ≡ (get_or xs at d).points + r.points → have.users ≡ (get_or xs at d).users + r.users → HasRun names r xs (set xs at have)
added names r xs i j at d have square pairs first second from to is points users =
    let n = length names in
    let low : at < length xs = omega (arith, below n i j first second, square, is) in
    let mine : is_of_place names at r ≡ true = ap (λ c. is_of_place names c r) is ∙ own_place names r i j second from to in
    let old : slice_index_or xs at no_switch ≡ get_or xs at d = get_or_default xs at no_switch d low in
    let now : slice_index_or (set xs at have) at no_switch ≡ have = get_or-set_same xs at have no_switch low in
    let other : (c : ℕ) → c < length xs → c ≢ at → is_of_place names c r ≡ false = λ c inside ne. elsewhere names r i j c pairs first second from to (omega (arith, inside, square)) (λ e. ne (e ∙ sym is)) in
    record {
      long = length-set xs at have;
      points = λ c inside. ⊎_elim
          (λ (e : c ≡ at). subst (λ k. (slice_index_or (set xs at have) k no_switch).points ≡ (slice_index_or xs k no_switch).points + cond (is_of_place names k r) r.points 0) (sym e)
          (ap (λ s. s.points) now ∙ (points ∙ (ap (λ (s : PairSwitches). s.points + r.points) (sym old) ∙ ap (λ (b : Bool). (slice_index_or xs at no_switch).points + cond b r.points 0) (sym mine)))))
          (λ ne. ap (λ s. s.points) (get_or-set_other xs at c have no_switch ne) ∙ omega (arith, ap (λ (b : Bool). cond b r.points 0) (other c inside ne)))
          (cases_eq c at);
      users = λ c inside. ⊎_elim
          (λ (e : c ≡ at). subst (λ k. (slice_index_or (set xs at have) k no_switch).users ≡ (slice_index_or xs k no_switch).users + cond (is_of_place names k r) r.users 0) (sym e)
          (ap (λ s. s.users) now ∙ (users ∙ (ap (λ (s : PairSwitches). s.users + r.users) (sym old) ∙ ap (λ (b : Bool). (slice_index_or xs at no_switch).users + cond b r.users 0) (sym mine)))))
          (λ ne. ap (λ s. s.users) (get_or-set_other xs at c have no_switch ne) ∙ omega (arith, ap (λ (b : Bool). cond b r.users 0) (other c inside ne)))
          (cases_eq c at);
    }
