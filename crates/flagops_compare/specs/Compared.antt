-- What an edit does to what was recorded.
use Rattle.std.specs.Prelude.{◌≡◌, ℕ, List, Option, Result, Ok}
use Rattle.flag_defs.specs.Document.{Definitions}
use Rattle.flagops_compare.specs.Loaded.{Loaded}
use Rattle.flagops_files.specs.declared.evidence.Evidence.{Evidence}
use Rattle.flagops_files.specs.declared.evidence.Evidence.TheVariants.{Book, Tally}
use Rattle.rule_switches.specs.Found.{AreFound, PageFound, asked}
use Rattle.rule_switches.specs.Tallied.{AreTallyFound}
use Rattle.rule_switches.specs.declared.fault.TallyFault.{TallyFault}

-- on each page of the book that is asked for, or on that of the tally
abbrev pub IsComparedBy : Definitions → Definitions → Option (List ℕ) → Evidence → Result (List PageFound) TallyFault → Type 0
IsComparedBy old new only (Book book) r = (pages : List PageFound) × AreFound old new (asked only book) pages × (r ≡ Ok pages)
IsComparedBy old new only (Tally t) r = AreTallyFound old new only t r

abbrev pub IsComparedOn : Loaded → Option (List ℕ) → Result (List PageFound) TallyFault → Type 0
IsComparedOn l only r = IsComparedBy l.old l.new only l.evidence r
