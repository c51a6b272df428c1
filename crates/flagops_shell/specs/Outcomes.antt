-- What is come to that may be refused, whatever the refusals are of.
use Rattle.std.specs.Prelude.{◌≡◌, ℕ, Bool, true, false, List, Result, Ok, Err, IfErr}
use Rattle.flagops_shell.specs.Report.{Report}
use Rattle.flagops_shell.specs.declared.refused.Refused.{Refused}

-- what comes next, where nothing was refused
infixl 10 ◌>>=◌
abbrev pub ◌>>=◌ : {X Y E : Type 0} → Result X E → (X → Result Y E) → Result Y E
Err e >>= next = Err e
Ok x >>= next = next x

-- a fault of a call, as the refusal of that call
abbrev pub refused_by : {X E R : Type 0} → (E → R) → Result X E → Result X R
refused_by f (Ok x) = Ok x
refused_by f (Err e) = Err (f e)

-- one of these, where each refusal is that of another family
abbrev pub Lifts : {X E R : Type 0} → (E → R) → (Result X E → Type 0) → Result X R → Type 0
Lifts f Is r = (given : Result _ _) × Is given × (r ≡ refused_by f given)

-- what a command that went well reports
abbrev pub done : {R : Type 0} → List ℕ → Result Report R
done text = Ok (record { text = text; status = 0; is_told = false })

-- the same report, where a person is told something beside it, or nothing
abbrev pub beside : {R : Type 0} → Bool → Result Report R → Result Report R
beside told (Ok r) = Ok (record r { is_told = told })
beside told (Err e) = Err e

-- what a command may come to
abbrev pub Outcomes : Type 0 → Type 1
Outcomes R = Result Report R → Type 0

-- a refusal comes from one of these calls
abbrev pub ComesFrom : {X R C : Type 0} → (R → C) → (C → Bool) → Result X (Refused R) → Type 0
ComesFrom call_of calls r = IfErr r (λ e. calls (call_of e.refusal) ≡ true)

-- a name of one of these calls
abbrev pub IsCallOf : {C : Type 0} → (C → List ℕ) → (C → Bool) → List ℕ → Type 0
IsCallOf call_name calls name = (c : _) × (calls c ≡ true) × (name ≡ call_name c)
