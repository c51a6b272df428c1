-- What keeps a desk from answering.
use Rattle.std.specs.Prelude.{◌⊎◌, ◌<◌, ◌≤◌, ◌+◌, ℕ, length}
use Rattle.control_desk.specs.declared.obstacles.Obstacles as program

-- what was met so far, by how often: another had the turn, or waited for it already; what is known of the documents of a snapshot was not set
-- yet, or a later one was published; a log that had been listed was gone
pub record Met : Type 0 where
  pub taken : ℕ
  pub awaited : ℕ
  pub unset : ℕ
  pub outdated : ℕ
  pub gone : ℕ

-- nothing is forgotten of it
pub record Grows (old new : Met) : Type 0 where
  pub taken : old.taken ≤ new.taken
  pub awaited : old.awaited ≤ new.awaited
  pub unset : old.unset ≤ new.unset
  pub outdated : old.outdated ≤ new.outdated
  pub gone : old.gone ≤ new.gone

-- another had the turn each of the 501 times that it was tried, over ten seconds; or another had it, and a third waited for it
abbrev pub IsTaken : Met → Met → Type 0
IsTaken old new = (old.taken + 501 ≤ new.taken) ⊎ ((old.taken < new.taken) × (old.awaited < new.awaited))

-- nothing was set of the snapshot each of the 50 times that it was looked for, over a second; or a later one was published
abbrev pub IsUnknown : Met → Met → Type 0
IsUnknown old new = (old.unset + 50 ≤ new.unset) ⊎ (old.outdated < new.outdated)

abbrev pub IsKept : Met → Met → Type 0
IsKept old new = IsTaken old new ⊎ IsUnknown old new

-- ten times a log was gone by the time that it was read
abbrev pub AreGone : Met → Met → Type 0
AreGone old new = old.gone + 10 ≤ new.gone

-- ---- of the program

abbrev pub met_by : program.Obstacles → Met
met_by o = record { taken = length o.taken.items; awaited = length o.awaited.items; unset = length o.unset.items; outdated = length o.outdated.items; gone = length o.gone.items }
