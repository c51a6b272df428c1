-- The tally of the lines of a stream, with the number of the line that is refused.
use Rattle.std.specs.Prelude.{◌≡◌, ◌≢◌, ◌<◌, ◌⊎◌, ℕ, ◌+◌, List, [], ◌∷◌, ◌++◌, map, true, false, Result, Ok, Err}
use Rattle.book_core.specs.Page.{PageName}
use Rattle.note_lines.specs.Hashed.{Hashed}
use Rattle.note_lines.specs.Note.{Noted}
use Rattle.note_tallies.specs.Law.{IsTallyOfHashedNotes, IsTallyOfNotes}
use Rattle.note_tallies.specs.Lines.{IsSaid, Said, Tallied, of_hash, of_input, said_line, untallied}
use Rattle.note_tallies.specs.Refusals.{Refuses, TakesSaid}
use Rattle.note_tallies.specs.declared.fault.LineTallyFault.{LineTallyFault}
use Rattle.note_tallies.specs.declared.fault.LineTallyFault.TheVariants as line
use Rattle.note_tallies.specs.Blank.{is_blank}
use Rattle.note_tallies.specs.declared.filter_fault.FilterFault.{FilterFault}
use Rattle.note_tallies.specs.declared.filter_fault.FilterFault.TheVariants.{WantOfMemory, Line, Order, TooMany, Mixed}

-- what was tallied, and the number of lines
pub record Filtered : Type 0 where
  pub tally : Tallied
  pub lines : ℕ

-- the fault of the line of this number
abbrev pub numbered : LineTallyFault → ℕ → FilterFault
numbered line.WantOfMemory n = WantOfMemory
numbered line.Line n = Line n
numbered line.Order n = Order n
numbered line.TooMany n = TooMany
numbered line.Mixed n = Mixed n

abbrev pub numbered_answer : Result (Unit {0}) LineTallyFault → ℕ → Result (Unit {0}) FilterFault
numbered_answer (Ok u) n = Ok u
numbered_answer (Err fault) n = Err (numbered fault n)

-- a blank line changes nothing, and another one is that of a note, with an input or a hash, that is tallied
abbrev pub Takes : Tallied → List ℕ → Tallied → Type 0
Takes old line new = ((is_blank line ≡ true) × (new ≡ old)) ⊎ ((is_blank line ≡ false) × TakesSaid old line new)

-- the line at fault is not blank, and has the number behind those before; nothing was tallied of it
pub record RefusesLine (old : Filtered) (line : List ℕ) (fault : FilterFault) (new : Filtered) : Type 0 where
  pub some : is_blank line ≡ false
  pub why : (cause : LineTallyFault) × (fault ≡ numbered cause (old.lines + 1)) × Refuses old.tally line cause
  pub same : new.tally ≡ old.tally

-- what the next line changes, or why it is refused
abbrev pub TakesLine : Filtered → List ℕ → Result (Unit {0}) FilterFault → Filtered → Type 0
TakesLine old line (Ok u) new = (new.lines ≡ old.lines + 1) × Takes old.tally line new.tally
TakesLine old line (Err fault) new = RefusesLine old line fault new

-- ---- streams

-- the lines are taken one after another
abbrev pub TakesAll : Tallied → List (List ℕ) → Tallied → Type 0
TakesAll old [] new = new ≡ old
TakesAll old (line ∷ lines) new = (next : Tallied) × Takes old line next × TakesAll next lines new

-- each line that is not blank says this, in turn
abbrev pub AreLinesOf : List (List ℕ) → List Said → Type 0
AreLinesOf [] saids = saids ≡ []
AreLinesOf (line ∷ lines) saids = ((is_blank line ≡ true) × AreLinesOf lines saids) ⊎ ((said : Said) × (rest : List Said) × (saids ≡ said ∷ rest) × IsSaid said × (line ≡ said_line said) × AreLinesOf lines rest)

-- the lines are those of notes, and the tally is that of the page's inputs among them
abbrev pub AreTalliedInputs : PageName → List (List ℕ) → Tallied → Type 0
AreTalliedInputs page lines t = (notes : List Noted) × AreLinesOf lines (map of_input notes) × IsTallyOfNotes page notes t

-- the lines are those of notes without inputs, and the tally is that of the page's hashes among them
abbrev pub AreTalliedHashes : PageName → List (List ℕ) → Tallied → Type 0
AreTalliedHashes page lines t = (notes : List Hashed) × AreLinesOf lines (map of_hash notes) × IsTallyOfHashedNotes page notes t

-- where no line is refused, all have inputs or all have hashes, and the tally is that of the page's among them
abbrev pub StreamIsTallied : Type 0
StreamIsTallied = (page : PageName) (total : ℕ) (lines : List (List ℕ)) (t : Tallied) → 0 < total → TakesAll (untallied page total) lines t → AreTalliedInputs page lines t ⊎ AreTalliedHashes page lines t
