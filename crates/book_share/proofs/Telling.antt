-- What holds of each ask that was answered, in the turns of one worker and then of all.
use Rattle.std.proofs.Common.{◌≡◌, ℕ, zero, suc, ◌+◌, ◌*◌, ◌/◌, ◌%◌, ◌<◌, ◌≤◌, true, false, nat_lt, List, ◌∷◌, Result, Ok, Err, ⊎_elim, sym, ap, ◌∙◌, subst, arith}
use Rattle.std.specs.Prelude.{IfOk, IfSome, slice_get}
use Rattle.std.proofs.Math.Nat.{mod-add-div, mod-lt, mul-suc, mul-le-mul_left}
use Rattle.std.proofs.lemmas.Bool.{cases_Bool}
use borrow.Author.Tests.{ltb-true, ltb-false}
use Rattle.book_share.specs.Gated.{EachAsk, EachTurn, FailsAfter, SomeTurn}
use Rattle.book_share.specs.declared.drive_fault.DriveFault.{DriveFault}

-- it holds of each ask of a worker before this one
pub record IsToldSoFar (P : ℕ → Type 0) (step first ask : ℕ) : Type 0 where
  pub turns : ℕ
  pub is : ask ≡ first + step * turns
  pub each : (turn : ℕ) → turn < turns → P (first + step * turn)

pub told_none : (P : ℕ → Type 0) (step first : ℕ) → IsToldSoFar P step first first
told_none P step first = record {
  turns = 0;
  is = omega arith;
  each = λ turn lt. absurd (omega (arith, lt));
}

pub told_more : (P : ℕ → Type 0) (step first ask next : ℕ) → next ≡ ask + step → P ask → IsToldSoFar P step first ask → IsToldSoFar P step first next
told_more P step first ask next next_is here so_far =
    let more = mul-suc step so_far.turns in
    let is = so_far.is in record {
      turns = suc so_far.turns;
      is = omega (arith, more, is, next_is);
      each = λ turn lt. ⊎_elim
          (λ (e : nat_lt turn so_far.turns ≡ true). so_far.each turn (ltb-true _ _ e))
          (λ (e : nat_lt turn so_far.turns ≡ false).
          let past = ltb-false _ _ e in
          let same : turn ≡ so_far.turns = omega (arith, lt, past) in
          subst P (is ∙ ap (λ t. first + step * t) (sym same)) here)
          (cases_Bool (nat_lt turn so_far.turns));
    }

pub told_done : (P : ℕ → Type 0) (step first ask n : ℕ) → n ≤ ask → IsToldSoFar P step first ask → EachTurn P step first n
told_done P step first ask n past so_far turn within =
    ⊎_elim
    (λ (e : nat_lt turn so_far.turns ≡ true). so_far.each turn (ltb-true _ _ e))
    (λ (e : nat_lt turn so_far.turns ≡ false).
    let later = mul-le-mul_left step (ltb-false _ _ e) in
    let is = so_far.is in
    absurd (omega (arith, later, is, past, within)))
    (cases_Bool (nat_lt turn so_far.turns))

-- the ask that comes next is one of the worker's
pub begun_at : (P Q : ℕ → Type 0) (step first ask n : ℕ) → ask < n → Q ask → IsToldSoFar P step first ask → SomeTurn Q step first n
begun_at P Q step first ask n within here so_far = (so_far.turns, subst (λ a. a < n) so_far.is within, subst Q so_far.is here)

-- and where one was begun, a worker may be refused
pub fails_begun : {X : Type 0} (P : ℕ → Type 0) (step first n : ℕ) (r : Result X DriveFault) → SomeTurn P step first n → FailsAfter P step first n r
fails_begun P step first n (Ok x) turn = tt
fails_begun P step first n (Err e) turn = λ _. turn

-- ---- several workers

-- each ask is one of a worker
pub told_all : (P : ℕ → Type 0) (workers n : ℕ) → 0 < workers → ((w : ℕ) → w < workers → EachTurn P workers w n) → EachAsk P n
told_all P workers n some all ask within =
    let is = mod-add-div ask workers in
    subst P is (all (ask % workers) (mod-lt ask some) (ask / workers) (subst (λ a. a < n) (sym is) within))

-- of the parts that are left, and of the first ones
abbrev pub EachLater : {X : Type 0} → (ℕ → Type 0) → ℕ → ℕ → ℕ → List (Result X DriveFault) → Type 0
EachLater P workers n done parts = (w : ℕ) → IfSome (slice_get parts w) (λ r. IfOk r (λ _. EachTurn P workers (done + w) n))

pub later_none : {X : Type 0} (Q : ℕ → X → Type 0) (done : ℕ) (all rest : List X) → done ≡ 0 → rest ≡ all → ((w : ℕ) → IfSome (slice_get all w) (Q w)) → (w : ℕ) → IfSome (slice_get rest w) (Q (done + w))
later_none {X} Q done all rest none same each w =
    let is : done + w ≡ w = omega (arith, none) in
    subst (λ n. IfSome (slice_get rest w) (Q n)) (sym is) (subst (λ (l : List X). IfSome (slice_get l w) (Q w)) (sym same) (each w))

pub later_more : {X : Type 0} (Q : ℕ → X → Type 0) (done next : ℕ) (x : X) (rest later : List X) → rest ≡ x ∷ later → next ≡ suc done → ((w : ℕ) → IfSome (slice_get rest w) (Q (done + w)))
    → ((w : ℕ) → IfSome (slice_get later w) (Q (next + w))) × Q done x
later_more {X} Q done next x rest later same one each =
    let left : (w : ℕ) → IfSome (slice_get (x ∷ later) w) (Q (done + w)) = λ w. subst (λ (l : List X). IfSome (slice_get l w) (Q (done + w))) same (each w) in (
      (λ w. subst (λ n. IfSome (slice_get later w) (Q n)) (let e : done + suc w ≡ next + w = omega (arith, one) in e) (left (suc w))),
      subst (λ n. Q n x) (let e : done + 0 ≡ done = omega arith in e) (left zero),
    )

pub done_more : (T : ℕ → Type 0) (done next : ℕ) → next ≡ suc done → ((w : ℕ) → w < done → T w) → T done → (w : ℕ) → w < next → T w
done_more T done next one each here w within =
    ⊎_elim
    (λ (e : nat_lt w done ≡ true). each w (ltb-true _ _ e))
    (λ (e : nat_lt w done ≡ false).
    let past = ltb-false _ _ e in
    let same : done ≡ w = omega (arith, past, within, one) in
    subst T same here)
    (cases_Bool (nat_lt w done))
