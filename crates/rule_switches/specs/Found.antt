-- What an edit does on the pages of a book.
use Rattle.std.specs.Prelude.{◌≡◌, ℕ, Bool, true, false, List, [], ◌∷◌, count_by, filter, length, map, sum_by, Option, Some, None}
use Rattle.std.specs.Str.{bytes_eq}
use Rattle.book_core.specs.Book.{Contents, Inputs}
use Rattle.book_core.specs.Page.{PageName}
use Rattle.flag_defs.specs.Document.{Definitions}
use Rattle.rule_switches.specs.Switches.{AreSwitches, Rows, rows_view}
use Rattle.rule_switches.specs.Rules as rules
use Rattle.rule_switches.specs.Rules.{Rules, rules_on}
use Rattle.rule_switches.specs.declared.comparison.Comparison.{Comparison}
use Rattle.rule_switches.specs.declared.comparison.Found as program
use Rattle.rule_switches.specs.declared.comparison.Found.TheVariants as code
use Rattle.rule_switches.specs.declared.comparison.PageFound as program_page
use Rattle.rule_switches.specs.declared.page_edit.Side.{Side}
use Rattle.rule_switches.specs.declared.fault.NoRule.{NoRule}

-- the number of a page's inputs, how many of them switch, and how many from each name to each other one; or the document that has no
-- rule, and why
pub data Found : Type 0 where
  counted : ℕ → ℕ → Rows → Found
  left : Side → NoRule → Found

pub record PageFound : Type 0 where
  pub page : PageName
  pub found : Found

-- how many inputs change in all
abbrev pub users_in : Rows → ℕ
users_in rows = sum_by (λ r. r.1) rows

-- what two rules do to inputs, or why there are not two
abbrev pub IsFound : Rules → Inputs → Found → Type 0
IsFound (rules.none side reason) inputs found = found ≡ left side reason
IsFound (rules.both before after) inputs found = (rows : Rows) × AreSwitches before after inputs rows × (found ≡ counted (length inputs) (users_in rows) rows)

-- on each of these pages, in their order
abbrev pub AreFound : Definitions → Definitions → Contents → List PageFound → Type 0
AreFound old new [] found = found ≡ []
AreFound old new (e ∷ es) found = (first : Found) × (more : List PageFound) × IsFound (rules_on old new e.0) e.1 first × AreFound old new es more × (found ≡ record { page = e.0; found = first } ∷ more)

-- the pages of one flag, or all
abbrev pub is_asked : Option (List ℕ) → PageName → Bool
is_asked None page = true
is_asked (Some key) page = bytes_eq page.flag key

abbrev pub asked : Option (List ℕ) → Contents → Contents
asked only book = filter (λ e. is_asked only e.0) book

-- ---- sums

abbrev pub inputs_in : Found → ℕ
inputs_in (counted inputs users rows) = inputs
inputs_in (left side reason) = 0

abbrev pub switches_in : Found → ℕ
switches_in (counted inputs users rows) = users
switches_in (left side reason) = 0

abbrev pub is_left : Found → Bool
is_left (counted inputs users rows) = false
is_left (left side reason) = true

-- the inputs of the pages that were compared, how many of them switch, and how many pages were not compared
abbrev pub all_inputs : List PageFound → ℕ
all_inputs pages = sum_by (λ p. inputs_in p.found) pages

abbrev pub all_switches : List PageFound → ℕ
all_switches pages = sum_by (λ p. switches_in p.found) pages

abbrev pub all_left : List PageFound → ℕ
all_left pages = count_by (λ p. is_left p.found) pages

-- ---- of the program

abbrev pub found_view : program.Found → Found
found_view (code.Counted inputs users rows) = counted inputs users (rows_view rows.items)
found_view (code.Left side reason) = left side reason

abbrev pub page_view : program_page.PageFound → PageFound
page_view p = record { page = p.page; found = found_view p.found }

abbrev pub pages_view : List program_page.PageFound → List PageFound
pages_view pages = map page_view pages

-- the sums of a comparison are those of its pages
pub record AreSums (c : Comparison) : Type 0 where
  pub inputs : c.inputs ≡ all_inputs (pages_view c.pages.items)
  pub switched : c.switched ≡ all_switches (pages_view c.pages.items)
  pub left : c.left ≡ all_left (pages_view c.pages.items)

-- a comparison has what the edit does on each of these pages, and the sums
pub record Compares (old new : Definitions) (book : Contents) (c : Comparison) : Type 0 where
  pub found : AreFound old new book (pages_view c.pages.items)
  pub sums : AreSums c
