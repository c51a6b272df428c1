-- What an edit does to the inputs of a tally.
use Rattle.std.specs.Prelude.{◌≡◌, ℕ, ◌%◌, ◌==◌, ◌&&◌, Bool, true, false, List, [], ◌∷◌, Option, Result, Ok, Err}
use Rattle.book_core.specs.Book.{Inputs}
use Rattle.book_core.specs.Counts.{counts_of}
use Rattle.bucket_core.specs.Rule.{Entries, total_weight}
use Rattle.flag_defs.specs.Document.{Definitions}
use Rattle.rule_switches.specs.Found.{AreSums, Found, PageFound, counted, found_view, is_asked, left, pages_view, users_in}
use Rattle.rule_switches.specs.Rules as rules
use Rattle.rule_switches.specs.Rules.{Rules, rules_on}
use Rattle.rule_switches.specs.declared.comparison.Comparison.{Comparison}
use Rattle.rule_switches.specs.declared.comparison.Found as program
use Rattle.rule_switches.specs.declared.fault.TallyFault.{TallyFault}
use Rattle.rule_switches.specs.declared.fault.TallyFault.TheVariants.{OtherTally, WantOfMemory}
use Rattle.rule_switches.specs.Switches.{AreSwitches, Rows}
use Rattle.note_tallies.specs.Tally.{PageTally}

-- the totals of both rules divide the tally's, so that its numbers tell what each point of either has
abbrev pub fits : PageTally → Entries → Entries → Bool
fits t before after = (t.total % total_weight before == 0) && (t.total % total_weight after == 0)

-- the changes are those of all inputs of which so many fall on each point
abbrev pub AreTallied : Entries → Entries → PageTally → Rows → Type 0
AreTallied before after t rows = (inputs : Inputs) → t.counts ≡ counts_of inputs t.total → AreSwitches before after inputs rows

abbrev pub IsWhereFits : Bool → Entries → Entries → PageTally → Result Found TallyFault → Type 0
IsWhereFits true before after t r = (rows : Rows) × AreTallied before after t rows × (r ≡ Ok (counted t.inputs (users_in rows) rows))
IsWhereFits false before after t r = r ≡ Err OtherTally

-- what two rules do to the inputs of a tally, or why there are not two; or the tally is of another total
abbrev pub IsTallyFound : Rules → PageTally → Result Found TallyFault → Type 0
IsTallyFound (rules.none side reason) t r = r ≡ Ok (left side reason)
IsTallyFound (rules.both before after) t r = IsWhereFits (fits t before after) before after t r

abbrev pub on_page : PageTally → Result Found TallyFault → Result (List PageFound) TallyFault
on_page t (Ok found) = Ok (record { page = t.page; found = found } ∷ [])
on_page t (Err e) = Err e

abbrev pub AreWhereAsked : Bool → Definitions → Definitions → PageTally → Result (List PageFound) TallyFault → Type 0
AreWhereAsked true old new t r = (found : Result Found TallyFault) × IsTallyFound (rules_on old new t.page) t found × (r ≡ on_page t found)
AreWhereAsked false old new t r = r ≡ Ok []

-- what an edit does on the page of a tally, where it is asked for
unfoldable pub AreTallyFound : Definitions → Definitions → Option (List ℕ) → PageTally → Result (List PageFound) TallyFault → Type 0
AreTallyFound old new only t r = AreWhereAsked (is_asked only t.page) old new t r

-- what was returned is that with the sums, or its refusal, unless memory ran out
abbrev pub ComparesTally : (Result (List PageFound) TallyFault → Type 0) → Result Comparison TallyFault → Type 0
ComparesTally Wanted (Ok c) = Wanted (Ok (pages_view c.pages.items)) × AreSums c
ComparesTally Wanted (Err WantOfMemory) = Unit {0}
ComparesTally Wanted (Err OtherTally) = Wanted (Err OtherTally)

-- the same of one page
abbrev pub GivesFound : Result program.Found TallyFault → (Result Found TallyFault → Type 0) → Type 0
GivesFound (Ok f) Wanted = Wanted (Ok (found_view f))
GivesFound (Err WantOfMemory) Wanted = Unit {0}
GivesFound (Err OtherTally) Wanted = Wanted (Err OtherTally)
