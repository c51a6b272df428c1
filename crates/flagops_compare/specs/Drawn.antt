-- The picture of an edit.
use Rattle.std.specs.Prelude.{◌≡◌, ◌⊎◌, ℕ, List, [], ◌∷◌, flat_map, Option, Some, None}
use Rattle.book_core.specs.Page.{PageName}
use Rattle.clap.specs.Walk.{Text}
use Rattle.flag_defs.specs.Document.{Definitions}
use Rattle.flagops_shell.specs.Files.{Holding, KeepsOthers, Stores}
use Rattle.rule_switches.specs.Found.{Found, PageFound, counted, left}
use Rattle.rule_switches.specs.Rules as rules
use Rattle.rule_switches.specs.Rules.{Rules, rules_on}
use Rattle.picture.specs.Edits.{edit_height, edit_told, no_page_height, no_page_told}
use Rattle.picture.specs.Spelling.{IsPicture, Pictures}
use Rattle.picture.specs.declared.words.Title.TheVariants as title

-- of a page that was compared both rules and what goes from each name to each other one, and of another page nothing
abbrev pub page_drawn : Rules → PageName → Found → Pictures
page_drawn (rules.both before after) page (counted inputs users rows) = (edit_height before after rows, edit_told page.flag page.site inputs users before after rows) ∷ []
page_drawn (rules.both before after) page (left side reason) = []
page_drawn (rules.none side reason) page found = []

abbrev pub drawn_on : Definitions → Definitions → PageFound → Pictures
drawn_on old new p = page_drawn (rules_on old new p.page) p.page p.found

-- each page's, in their order
abbrev pub compared_drawn : Definitions → Definitions → List PageFound → Pictures
compared_drawn old new pages = flat_map (drawn_on old new) pages

-- these pictures, or where there is none, that no page was compared
abbrev pub or_no_page : Pictures → Pictures
or_no_page [] = (no_page_height, no_page_told ∷ []) ∷ []
or_no_page (p ∷ ps) = p ∷ ps

abbrev pub pages_drawn : Definitions → Definitions → List PageFound → Pictures
pages_drawn old new pages = or_no_page (compared_drawn old new pages)

-- ---- its file

-- the file at the path has these pictures, and every other file is as it was
abbrev pub Draws : Pictures → List ℕ → Option Holding → Option Holding → Type 0
Draws ps path old new = (bytes : List ℕ) × IsPicture title.Edit ps bytes × Stores old new path bytes × KeepsOthers old new path

-- the same where there is a path, and else all files are as they were
abbrev pub DrawsAt : Pictures → Option Text → Option Holding → Option Holding → Type 0
DrawsAt ps None old new = new ≡ old
DrawsAt ps (Some path) old new = Draws ps path old new

-- all files are as they were, but for one at the path, where there is one
abbrev pub LeavesBut : Option Text → Option Holding → Option Holding → Type 0
LeavesBut None old new = new ≡ old
LeavesBut (Some path) old new = (new ≡ old) ⊎ KeepsOthers old new path
