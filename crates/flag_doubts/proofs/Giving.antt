-- What a run gives, and what is among outcomes.
use Rattle.std.proofs.Common.{◌≡◌, inl, inr, Bool, true, false, cond, List, [], ◌∷◌, ◌++◌, Result, Ok, Err, IfOk}
use Rattle.std.proofs.lemmas.List.Elements.{All-nil, All-cons}
use Rattle.std.proofs.lemmas.Result.{IfOk-weaker}
use Rattle.std.specs.List.{All}
use Rattle.flag_text.specs.Shape.{Shape, null}
use Rattle.logic_eval.proofs.Runs.{Runs}
use Rattle.logic_eval.specs.Run.{Reach, Run, reached_of}
use Rattle.logic_values.specs.declared.fault.EvalFault.{EvalFault}
use Rattle.flag_doubts.specs.Laws.{IsAmong}
use Rattle.flag_doubts.specs.Outcomes.{Outcome, computed}

abbrev pub Anything : {A : Type 0} → A → Type 0
Anything v = Unit {0}

abbrev pub Gives : {A : Type 0} → (A → Type 0) → Run A → Type 0
Gives P r = Runs P Anything r

-- ---- among outcomes

pub among_null : (os : List Outcome) (v : Shape) → v ≡ null → IsAmong os v
among_null [] v e = e
among_null (o ∷ os) v e = inr (among_null os v e)

pub among_left : (os ps : List Outcome) (v : Shape) → IsAmong os v → IsAmong (os ++ ps) v
among_left [] ps v h = among_null ps v h
among_left (o ∷ os) ps v (inl h) = inl h
among_left (o ∷ os) ps v (inr h) = inr (among_left os ps v h)

pub among_right : (os ps : List Outcome) (v : Shape) → IsAmong ps v → IsAmong (os ++ ps) v
among_right [] ps v h = h
among_right (o ∷ os) ps v h = inr (among_right os ps v h)

-- ---- runs

all_reached : (rs : List Reach) → All Anything rs
all_reached [] = All-nil Anything
all_reached (r ∷ rs) = All-cons Anything r rs tt (all_reached rs)

pub any : {A : Type 0} (r : Run A) → Gives Anything r
any {A} r = record { value = go r.ending; reached = all_reached (reached_of r.trace) }
  where
    go : (e : Result A EvalFault) → IfOk e Anything
    go (Ok v) = tt
    go (Err f) = tt

pub weaker : {A : Type 0} (P R : A → Type 0) (r : Run A) → ((v : A) → P v → R v) → Gives P r → Gives R r
weaker P R r f h = record { value = IfOk-weaker r.ending P R f h.value; reached = h.reached }

pub either : {A : Type 0} (P : A → Type 0) (b : Bool) (r s : Run A) → Gives P r → Gives P s → Gives P (cond b r s)
either P true r s h k = h
either P false r s h k = k

pub gives_computed : (r : Run Shape) → Gives (IsAmong (computed ∷ [])) r
gives_computed r = weaker Anything (IsAmong (computed ∷ [])) r (λ v _. inl tt) (any r)

pub both : {A : Type 0} (P R : A → Type 0) (r : Run A) → Gives P r → Gives R r → Gives (λ v. P v × R v) r
both {A} P R r h k = record { value = go r.ending h.value k.value; reached = h.reached }
  where
    go : (e : Result A EvalFault) → IfOk e P → IfOk e R → IfOk e (λ v. P v × R v)
    go (Ok v) p q = (p, q)
    go (Err f) p q = tt
