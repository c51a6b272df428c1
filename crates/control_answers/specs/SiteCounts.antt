-- How many notes log files hold of the sites of flags.
use Rattle.std.specs.Prelude.{◌≡◌, ℕ, List, [], Option, Some, None, if◌then◌else◌}
use Rattle.std.specs.List.{Contains, flat_map, list_any}
use Rattle.book_core.specs.Page.{PageName, page_eq}
use Rattle.flag_defs.specs.Definition.{Definition}
use Rattle.flag_defs.specs.Document.{Definitions}
use Rattle.flag_defs.specs.Flag.{targeting_in}
use Rattle.note_streams.specs.Counts.{IsCountOf, counted_on}
use Rattle.logic_ast.specs.Expression.{Expression}
use Rattle.control_flags.specs.Sites.{Recorded, pages_in, recorded_on}

-- the pages of the sites of a flag, by its targeting
abbrev pub pages_by : List ℕ → Option Expression → List PageName
pages_by key None = []
pages_by key (Some targeting) = pages_in key targeting

abbrev pub pages_of_flag : List ℕ × Definition → List PageName
pages_of_flag flag = pages_by flag.0 (targeting_in flag.1)

-- those of flags
abbrev pub site_pages : Definitions → List PageName
site_pages flags = flat_map pages_of_flag flags

-- a page that is told no number is that of no site
abbrev pub IsSiteCount : Definitions → List (List ℕ) → PageName → Option ℕ → Type 0
IsSiteCount flags files page None = ¬ (Contains (site_pages flags) page)
IsSiteCount flags files page (Some n) = IsCountOf files page n

-- The page of each site is told how many notes the files hold of it, and no page is told another number.
abbrev pub AreSiteCounts : Definitions → List (List ℕ) → Recorded → Type 0
AreSiteCounts flags files recorded = (page : PageName) → IsSiteCount flags files page (recorded_on recorded page)

-- ---- for private clauses

-- the number of a page, 0 for each of these that had none
abbrev pub filled : Recorded → List PageName → PageName → Option ℕ
filled old pages page = if list_any (λ p. page_eq p page) pages then Some (counted_on old page) else recorded_on old page

abbrev pub Fills : Recorded → List PageName → Recorded → Type 0
Fills old pages new = (page : PageName) → recorded_on new page ≡ filled old pages page
