-- What a person is told of a refusal, whatever the refusals are of.
use Rattle.std.specs.Prelude.{◌≡◌, ◌⊎◌, ℕ, Bool, true, false, List, [], ◌∷◌, map, Result, Ok, Err}
use Rattle.file_diagnostics.specs.Named.{Names, NamesWord}
use Rattle.flagops_shell.specs.Diagnostic.{Says}
use Rattle.flagops_shell.specs.declared.refused.Refused.{Refused}
use Rattle.flagops_shell.specs.declared.refused.Remark.{Remark}

-- what is refused: the file at a path, or a word of the command
pub data Subject : Type 0 where
  file : List ℕ → Subject
  word : List ℕ → Subject

-- lines name it
abbrev pub NamesSubject : Subject → List ℕ → Type 0
NamesSubject (file path) lines = Names path lines
NamesSubject (word name) lines = NamesWord name lines

-- what may be refused, each with the refusals that are of it
abbrev pub Subjects : Type 0 → Type 0
Subjects R = List (Subject × (R → Bool))

-- a remark on a refusal names one of the subjects that it may be of
abbrev pub NamesOne : {R : Type 0} → Subjects R → R → Remark → Type 0
NamesOne [] e remark = ⊥
NamesOne (s ∷ more) e remark = ((s.1 e ≡ true) × Says (NamesSubject s.0) remark) ⊎ NamesOne more e remark

-- ---- of several things that a command attempts in turn, the first that is refused

-- something that a command attempts: the file or the word that it is about, how it may be refused, and that it succeeds
pub record Attempt (R : Type 0) : Type 1 where
  pub subject : Subject
  pub Refuses : R → Type 0
  pub Succeeds : Type 0

-- one that gives one of these, as a file that is read
abbrev pub attempt : {X R : Type 0} → Subject → (Result X R → Type 0) → Attempt R
attempt {X} subject Gives = record { subject = subject; Refuses = λ e. Gives (Err e); Succeeds = (x : X) × Gives (Ok x) }

-- one that gives this
abbrev pub attempt_of : {X R : Type 0} → Subject → Result X R → Attempt R
attempt_of {X} subject given = record { subject = subject; Refuses = λ e. given ≡ Err e; Succeeds = (x : X) × (given ≡ Ok x) }

-- one whose refusals are known by their kind, where nothing else that is attempted has refusals of that kind; and several
abbrev pub attempt_by : {R : Type 0} → Subject → (R → Bool) → Attempt R
attempt_by subject is_of = record { subject = subject; Refuses = λ e. is_of e ≡ true; Succeeds = Unit {0} }

abbrev pub by_kind : {R : Type 0} → Subjects R → List (Attempt R)
by_kind subjects = map (λ s. attempt_by s.0 s.1) subjects

-- the same, where each refusal is that of another family
abbrev pub within : {E R : Type 0} → (E → R) → Attempt E → Attempt R
within {E} f a = record { subject = a.subject; Refuses = λ r. (e : E) × a.Refuses e × (r ≡ f e); Succeeds = a.Succeeds }

abbrev pub AllSucceed : {R : Type 0} → List (Attempt R) → Type 0
AllSucceed [] = Unit {0}
AllSucceed (a ∷ more) = a.Succeeds × AllSucceed more

-- all before one of them succeed, that one is refused so, and a remark names what it is about
abbrev pub NamesFirst : {R : Type 0} → List (Attempt R) → R → Remark → Type 0
NamesFirst [] e remark = ⊥
NamesFirst (a ∷ more) e remark = (a.Refuses e × Says (NamesSubject a.subject) remark) ⊎ (a.Succeeds × NamesFirst more e remark)

module _ {R : Type 0} (is_want : R → Bool) where
  -- a refusal is told by the name of what is refused
  abbrev pub TellsOf : {X : Type 0} → Subject → Result X (Refused R) → Type 0
  TellsOf subject (Ok x) = Unit {0}
  TellsOf subject (Err r) = is_want r.refusal ≡ false → Says (NamesSubject subject) r.remark

  -- a refusal is told by the name of one of them
  abbrev pub TellsOfOne : {X : Type 0} → Subjects R → Result X (Refused R) → Type 0
  TellsOfOne subjects (Ok x) = Unit {0}
  TellsOfOne subjects (Err r) = is_want r.refusal ≡ false → NamesOne subjects r.refusal r.remark

  -- a refusal is that of the first of them that is refused, and is told by the name of what that is about
  abbrev pub TellsOfFirst : {X : Type 0} → List (Attempt R) → Result X (Refused R) → Type 0
  TellsOfFirst attempts (Ok x) = Unit {0}
  TellsOfFirst attempts (Err r) = is_want r.refusal ≡ false → NamesFirst attempts r.refusal r.remark
