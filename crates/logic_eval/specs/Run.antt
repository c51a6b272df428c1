-- What an evaluation gives: a trace of what it costs and of the sites that it reaches, and how it ends.
use Rattle.std.specs.Prelude.{ℕ, ◌+◌, List, [], ◌∷◌, ◌++◌, nat_lt, if◌then◌else◌, Result, Ok, Err}
use Rattle.logic_values.specs.declared.fault.EvalFault.{EvalFault}
use Rattle.logic_values.specs.declared.fault.EvalFault.TheVariants.{TooLong}

-- a reached site: its number, the hash input and the total weight of its rule
pub record Reach : Type 0 where
  pub site : ℕ
  pub input : List ℕ
  pub total : ℕ

pub data Entry : Type 0 where
  cost : ℕ → Entry
  reach : Reach → Entry

-- The trace up to the end, and the end: a value, or the fault that is the trace's last entry.
pub record Run (A : Type 0) : Type 0 where
  pub trace : List Entry
  pub ending : Result A EvalFault

-- nothing more is done, and this is the end
unfoldable pub ends : {A : Type 0} → Result A EvalFault → Run A
ends r = record { trace = []; ending = r }

abbrev pub gives : {A : Type 0} → A → Run A
gives v = ends (Ok v)

abbrev pub faults : {A : Type 0} → EvalFault → Run A
faults f = ends (Err f)

-- nothing but this cost
abbrev pub spends : ℕ → Run (Unit {0})
spends n = record { trace = cost n ∷ []; ending = Ok tt }

-- the same after one more entry
unfoldable pub after : {A : Type 0} → Entry → Run A → Run A
after e r = record { trace = e ∷ r.trace; ending = r.ending }

abbrev pub after_trace : {A : Type 0} → List Entry → Run A → Run A
after_trace t r = record { trace = t ++ r.trace; ending = r.ending }

abbrev pub continues : {A B : Type 0} → List Entry → Result A EvalFault → (A → Run B) → Run B
continues t (Ok v) f = after_trace t (f v)
continues t (Err e) f = record { trace = t; ending = Err e }

-- the first run, and where it gives a value the next: the two traces are joined
infixl 10 ◌>>=◌
unfoldable pub ◌>>=◌ : {A B : Type 0} → Run A → (A → Run B) → Run B
r >>= f = continues r.trace r.ending f

-- what the costs of a trace sum to
abbrev pub units_of : List Entry → ℕ
units_of [] = 0
units_of (cost n ∷ t) = n + units_of t
units_of (reach r ∷ t) = units_of t

-- the reached sites, in their order
abbrev pub reached_of : List Entry → List Reach
reached_of [] = []
reached_of (cost n ∷ t) = reached_of t
reached_of (reach r ∷ t) = r ∷ reached_of t

abbrev pub most_units : ℕ
most_units = 100000

abbrev pub with_reached : {A : Type 0} → List Reach → Result A EvalFault → Result (A × List Reach) EvalFault
with_reached rs (Ok v) = Ok (v, rs)
with_reached rs (Err f) = Err f

-- Too long where all that came before the end costs more than the limit; else the fault, or the value and what was reached.
abbrev pub result_of : {A : Type 0} → Run A → Result (A × List Reach) EvalFault
result_of r = if nat_lt most_units (units_of r.trace) then Err TooLong else with_reached (reached_of r.trace) r.ending
