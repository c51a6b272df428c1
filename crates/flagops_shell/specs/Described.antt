-- What is known of a command of which a want of memory is reported of the call that it came from.
use Rattle.std.specs.Prelude.{◌≡◌, ℕ, Bool, List, Option}
use Rattle.clap.specs.Kinds.{Kinds}
use Rattle.clap.specs.Walk.{Text}
use Rattle.flagops_shell.specs.Diagnostic.{RemarksOf}
use Rattle.flagops_shell.specs.Files.{Holding}
use Rattle.flagops_shell.specs.Outcomes.{IsCallOf, Outcomes}
use Rattle.flagops_shell.specs.Running.{Description}

-- By the names of calls and the call of each refusal: what its words ask for and their mistakes, what it may come to, what a person may
-- be told of that, the calls that it makes, and how it may leave the files.
abbrev pub described : {A R C : Type 0} → (C → List ℕ) → (R → C) → (List Text → Option A) → (List Text → Kinds) → (A → Holding → Option Holding → Outcomes R) → (A → Holding → RemarksOf R) → (A → C → Bool)
    → (A → Option Holding → Option Holding → Type 0) → Description A R
described call_name call_of asked_by faults_of MayCome MayTell calls MayLeave = record {
  asked_by = asked_by;
  faults_of = faults_of;
  MayCome = MayCome;
  MayTell = MayTell;
  call_of = λ a e. call_name (call_of e);
  MayWant = λ a. IsCallOf call_name (calls a);
  MayLeave = MayLeave;
  IsDone = λ status. status ≡ 0;
}
