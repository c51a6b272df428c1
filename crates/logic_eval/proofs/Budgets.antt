-- Paying for a run piece by piece.
use Rattle.std.proofs.Common.{◌≡◌, ℕ, ◌+◌, ◌-◌, ◌<◌, ◌≤◌, true, false, List, [], ◌∷◌, ◌++◌, Result, Ok, Err, refl, sym, ap, ◌∙◌, arith, append_assoc, append-nil, inl, inr}
use Rattle.std.proofs.lemmas.Bool.{cases_Bool, cases_lt}
use Rattle.std.specs.Prelude.{nat_lt, if◌then◌else◌}
use Rattle.logic_values.specs.declared.fault.EvalFault.{EvalFault}
use Rattle.logic_values.specs.declared.fault.EvalFault.TheVariants.{TooLong}
use Rattle.logic_eval.specs.Budget.{Progress, with_progress, paid, if_paid}
use Rattle.logic_eval.specs.Run.{Reach, Entry, cost, reach, Run, ends, gives, faults, spends, after, after_trace, ◌>>=◌, units_of, reached_of}

pub units_of-append : (t u : List Entry) → units_of (t ++ u) ≡ units_of t + units_of u
units_of-append [] u = omega arith
units_of-append (cost n ∷ t) u = ap (λ m. n + m) (units_of-append t u) ∙ omega arith
units_of-append (reach r ∷ t) u = units_of-append t u

pub reached_of-append : (t u : List Entry) → reached_of (t ++ u) ≡ reached_of t ++ reached_of u
reached_of-append [] u = refl
reached_of-append (cost n ∷ t) u = reached_of-append t u
reached_of-append (reach r ∷ t) u = ap (λ rs. r ∷ rs) (reached_of-append t u)

-- paying for m and then for n is paying for both
pay_both : {X : Type 0} (l m n : ℕ) (x : X) (f : ℕ → X) → (if nat_lt l (m + n) then x else f (l - (m + n))) ≡ (if nat_lt l m then x else (if nat_lt (l - m) n then x else f (l - m - n)))
pay_both l m n x f = elim (cases_Bool (nat_lt l m)) [
  | inl e ↦ let k : nat_lt l (m + n) ≡ true = grind arith in rw (e, k) refl
  | inr e ↦ elim (cases_Bool (nat_lt (l - m) n)) [
    | inl g ↦ let k : nat_lt l (m + n) ≡ true = grind arith in rw (e, g, k) refl
    | inr g ↦ let k : nat_lt l (m + n) ≡ false = grind arith in let j : l - (m + n) ≡ l - m - n = omega arith in rw (e, g, k, j) refl
  ]
]

-- a run that gives a value, and the next
paid-continues : {A B : Type 0} (p : Progress) (t : List Entry) (v : A) (f : A → Run B)
    → paid p (after_trace t (f v)) ≡ if_paid (paid p (let r : Run A = record { trace = t; ending = Ok v } in r)) (λ w q. paid q (f w))
unfolding paid
paid-continues p t v f =
    let s = f v in
    let rest : List Reach → ℕ → Result (_ × Progress) EvalFault = λ rs l. with_progress l rs s.ending in
    rw (units_of-append t s.trace, reached_of-append t s.trace, ← append_assoc p.1 (reached_of t) (reached_of s.trace))
    (pay_both p.0 (units_of t) (units_of s.trace) (Err TooLong) (rest ((p.1 ++ reached_of t) ++ reached_of s.trace))
    ∙ elim (cases_Bool (nat_lt p.0 (units_of t))) [ inl e ↦ rw e refl | inr e ↦ rw e refl ])

pub paid-bind : {A B : Type 0} (p : Progress) (r : Run A) (f : A → Run B) → paid p (r >>= f) ≡ if_paid (paid p r) (λ v q. paid q (f v))
unfolding paid ◌>>=◌
paid-bind {A} {B} p r f = go r.trace r.ending
  where
    go : (t : List Entry) (e : Result A EvalFault) → paid p ((let s : Run A = record { trace = t; ending = e } in s) >>= f) ≡ if_paid (paid p (let s : Run A = record { trace = t; ending = e } in s)) (λ v q. paid q (f v))
    go t (Ok v) = paid-continues p t v f
    go t (Err e) = elim (cases_Bool (nat_lt p.0 (units_of t))) [ inl g ↦ rw g refl | inr g ↦ rw g refl ]

pub paid-cost : {A : Type 0} (p : Progress) (n : ℕ) (r : Run A) → paid p (after (cost n) r) ≡ (if nat_lt p.0 n then Err TooLong else paid (p.0 - n, p.1) r)
unfolding paid after
paid-cost p n r = pay_both p.0 n (units_of r.trace) (Err TooLong) (λ l. with_progress l (p.1 ++ reached_of r.trace) r.ending)

pub paid-reach : {A : Type 0} (p : Progress) (x : Reach) (r : Run A) → paid p (after (reach x) r) ≡ paid (p.0, p.1 ++ x ∷ []) r
unfolding paid after
paid-reach p x r = rw (append_assoc p.1 (x ∷ []) (reached_of r.trace)) refl

pub paid-ends : {A : Type 0} (p : Progress) (r : Result A EvalFault) → paid p (ends r) ≡ with_progress p.0 p.1 r
unfolding paid ends
paid-ends p r = let k : nat_lt p.0 0 ≡ false = grind arith in let z : p.0 - 0 ≡ p.0 = omega arith in rw (k, z, append-nil p.1) refl

-- a first step that was paid for, or was not
pub bind_ok : {A B : Type 0} (p : Progress) (r : Run A) (f : A → Run B) (v : A) (q : Progress) → paid p r ≡ Ok (v, q) → paid p (r >>= f) ≡ paid q (f v)
bind_ok {A} {B} p r f v q e = paid-bind p r f ∙ ap (λ (x : Result (A × Progress) EvalFault). if_paid x (λ w s. paid s (f w))) e

pub bind_err : {A B : Type 0} (p : Progress) (r : Run A) (f : A → Run B) (e : EvalFault) → paid p r ≡ Err e → paid p (r >>= f) ≡ Err e
bind_err {A} {B} p r f e h = paid-bind p r f ∙ ap (λ (x : Result (A × Progress) EvalFault). if_paid x (λ w s. paid s (f w))) h

-- a cost that was paid, or was not
pub cost_ok : {A : Type 0} (p : Progress) (n : ℕ) (r : Run A) (u : Unit {0}) (q : Progress) → paid p (spends n) ≡ Ok (u, q) → paid p (after (cost n) r) ≡ paid q r
unfolding after ◌>>=◌
cost_ok p n r u q e = bind_ok p (spends n) (λ _. r) u q e

pub cost_err : {A : Type 0} (p : Progress) (n : ℕ) (r : Run A) (e : EvalFault) → paid p (spends n) ≡ Err e → paid p (after (cost n) r) ≡ Err e
unfolding after ◌>>=◌
cost_err p n r e h = bind_err p (spends n) (λ _. r) e h

pub paid-gives : {A : Type 0} (p : Progress) (v : A) → paid p (gives v) ≡ Ok (v, p)
paid-gives p v = paid-ends p (Ok v)

pub paid-faults : {A : Type 0} (p : Progress) (e : EvalFault) → paid p (let r : Run A = faults e in r) ≡ Err e
paid-faults p e = paid-ends p (Err e)

-- what a cost that is within the budget leaves, and one above it
pub spends_within : (p : Progress) (n : ℕ) → n ≤ p.0 → paid p (spends n) ≡ Ok (tt, (p.0 - n, p.1))
unfolding paid
spends_within p n h =
    let k : nat_lt p.0 (n + 0) ≡ false = grind arith in
    let z : p.0 - (n + 0) ≡ p.0 - n = omega arith in
    rw (k, z, append-nil p.1) refl

pub spends_above : (p : Progress) (n : ℕ) → p.0 < n → paid p (spends n) ≡ Err TooLong
unfolding paid
spends_above p n h = let k : nat_lt p.0 (n + 0) ≡ true = grind arith in rw k refl

two_within : (p : Progress) (m n : ℕ) → m ≤ p.0 → paid p (spends (m + n)) ≡ paid (p.0 - m, p.1) (spends n)
two_within p m n h = elim (cases_lt (p.0 - m) n) [
  | inl a ↦ spends_above p (m + n) (omega arith) ∙ sym (spends_above (p.0 - m, p.1) n a)
  | inr b ↦
      let z : p.0 - (m + n) ≡ p.0 - m - n = omega arith in
      spends_within p (m + n) (omega arith) ∙ (rw z refl ∙ sym (spends_within (p.0 - m, p.1) n b))
]

-- two costs are paid one after the other
pub spends-sum : (p : Progress) (m n : ℕ) → paid p (spends (m + n)) ≡ if_paid (paid p (spends m)) (λ u q. paid q (spends n))
spends-sum p m n = elim (cases_lt p.0 m) [
  | inl a ↦ spends_above p (m + n) (omega arith) ∙ sym (ap (λ (x : Result (Unit {0} × Progress) EvalFault). if_paid x (λ w s. paid s (spends n))) (spends_above p m a))
  | inr b ↦ two_within p m n b ∙ sym (ap (λ (x : Result (Unit {0} × Progress) EvalFault). if_paid x (λ w s. paid s (spends n))) (spends_within p m b))
]

pub spends_ok : (p : Progress) (m n : ℕ) (u : Unit {0}) (q : Progress) → paid p (spends m) ≡ Ok (u, q) → paid p (spends (m + n)) ≡ paid q (spends n)
spends_ok p m n u q e = spends-sum p m n ∙ ap (λ (x : Result (Unit {0} × Progress) EvalFault). if_paid x (λ w s. paid s (spends n))) e

pub spends_err : (p : Progress) (m n : ℕ) (e : EvalFault) → paid p (spends m) ≡ Err e → paid p (spends (m + n)) ≡ Err e
spends_err p m n e h = spends-sum p m n ∙ ap (λ (x : Result (Unit {0} × Progress) EvalFault). if_paid x (λ w s. paid s (spends n))) h

pub spends_none : (p : Progress) → paid p (spends 0) ≡ Ok (tt, p)
spends_none p = let z : p.0 - 0 ≡ p.0 = omega arith in spends_within p 0 (omega arith) ∙ rw z refl

pub ends_ok : {A : Type 0} (p : Progress) (r : Result A EvalFault) (v : A) → r ≡ Ok v → paid p (ends r) ≡ Ok (v, p)
ends_ok p r v e = paid-ends p r ∙ ap (with_progress p.0 p.1) e

pub ends_err : {A : Type 0} (p : Progress) (r : Result A EvalFault) (f : EvalFault) → r ≡ Err f → paid p (ends r) ≡ Err f
ends_err p r f e = paid-ends p r ∙ ap (with_progress p.0 p.1) e
