-- Why a line is refused.
use Rattle.std.specs.Prelude.{◌≡◌, ◌≢◌, ℕ, List, Ok, Err}
use Rattle.note_tallies.specs.Lines.{IsSaid, Said, Tallied, said_line, with_said}
use Rattle.note_tallies.specs.declared.fault.LineTallyFault.{LineTallyFault}
use Rattle.note_tallies.specs.declared.fault.LineTallyFault.TheVariants.{WantOfMemory, Line, Order, TooMany, Mixed}

-- the line says something, which changes this
abbrev pub TakesSaid : Tallied → List ℕ → Tallied → Type 0
TakesSaid old line new = (said : Said) × IsSaid said × (line ≡ said_line said) × (with_said old said ≡ Ok new)

-- the line says something that is refused for this
abbrev pub RefusesSaid : Tallied → List ℕ → LineTallyFault → Type 0
RefusesSaid t line fault = (said : Said) × IsSaid said × (line ≡ said_line said) × (with_said t said ≡ Err fault)

-- it is the line of no note, with an input or without
abbrev pub SaysNothing : List ℕ → Type 0
SaysNothing line = (said : Said) → IsSaid said → line ≢ said_line said

-- Line where it is the line of no note, and else what is wrong with its note
abbrev pub Refuses : Tallied → List ℕ → LineTallyFault → Type 0
Refuses t line WantOfMemory = Unit {0}
Refuses t line Line = SaysNothing line
Refuses t line Order = RefusesSaid t line Order
Refuses t line TooMany = RefusesSaid t line TooMany
Refuses t line Mixed = RefusesSaid t line Mixed
