-- What is joined, a file after the other.
use Rattle.std.specs.Prelude.{◌≡◌, ◌⊎◌, ℕ, List, Result, Ok, Err}
use Rattle.flagops_shell.specs.Files.{Holding}
use Rattle.flagops_shell.specs.Given.{GivesOne}
use Rattle.note_tallies.specs.Join.{Joins}
use Rattle.note_tallies.specs.Tally.{PageTally}
use Rattle.note_tallies.specs.declared.joining.JoinFault.{JoinFault}
use Rattle.flagops_filters.specs.Join.{IsTallyOf}
use Rattle.flagops_filters.specs.Refusal.{is_want}
use Rattle.flagops_filters.specs.declared.refusal.FilterRefusal.{FilterRefusal}
use Rattle.flagops_filters.specs.declared.refusal.FilterRefusal.TheVariants.{Join}
use Rattle.flagops_filters.specs.Report.{Told}

-- what was returned is one of these, unless memory ran out
abbrev pub JoinsUnless : Result PageTally Told → (Result PageTally FilterRefusal → Type 0) → Type 0
JoinsUnless r Wanted = GivesOne is_want (λ t. t) r Wanted

abbrev pub JoinsTwo : PageTally → PageTally → Result PageTally FilterRefusal → Type 0
JoinsTwo one other (Ok both) = Joins one other (Ok both)
JoinsTwo one other (Err e) = (fault : JoinFault) × Joins one other (Err fault) × (e ≡ Join fault)

-- one and the tally of the file at a path, or why they are not joined
abbrev pub JoinsNext : Holding → PageTally → List ℕ → Result PageTally FilterRefusal → Type 0
JoinsNext at one path (Ok both) = (next : PageTally) × IsTallyOf at path (Ok next) × JoinsTwo one next (Ok both)
JoinsNext at one path (Err e) = ((next : PageTally) × IsTallyOf at path (Ok next) × JoinsTwo one next (Err e)) ⊎ IsTallyOf at path (Err e)
