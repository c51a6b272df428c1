-- What a person is told of pages that have no rules to compare, and of a flag without a page.
use Rattle.std.specs.Prelude.{ℕ, nat_eq, is_some, List, [], ◌++◌, codes, decimal, flat_map, length, Option, Some, None, if◌then◌else◌}
use Rattle.std.specs.Map.{lookup}
use Rattle.std.specs.Str.{bytes_eq}
use Rattle.book_core.specs.Page.{PageName}
use Rattle.clap.specs.Walk.{Text}
use Rattle.flag_defs.specs.Document.{Definitions}
use Rattle.flagops_compare.specs.Printed.{quoted}
use Rattle.flagops_compare.specs.Reasons.{reason_name, reason_words}
use Rattle.flagops_compare.specs.Words.{Comparing}
use Rattle.flagops_files.specs.Known.{known_words}
use Rattle.rule_switches.specs.Found.{Found, PageFound, counted, left}
use Rattle.rule_switches.specs.declared.page_edit.Side.{Side}
use Rattle.rule_switches.specs.declared.page_edit.Side.TheVariants.{Old, New}
use Rattle.rule_switches.specs.declared.fault.NoRule.{NoRule}

-- the path of the one document or of the other
abbrev pub path_of : List ℕ → List ℕ → Side → List ℕ
path_of old new Old = old
path_of old new New = new

-- the path of the document and the key of the flag as JSON texts, the site, and why, in words and by its name
abbrev pub note_line : List ℕ → PageName → NoRule → List ℕ
note_line path page reason =
    codes "note: " ++ (quoted path ++ (codes ": flag " ++ (quoted page.flag ++ (codes " site " ++ (decimal page.site ++ (codes " is not compared: " ++ (reason_words reason ++ (codes " (" ++ (reason_name reason ++ codes ")\n")))))))))

abbrev pub note_on : List ℕ → List ℕ → PageName → Found → List ℕ
note_on old new page (counted inputs users rows) = []
note_on old new page (left side reason) = note_line (path_of old new side) page reason

-- a line for each page that was not compared, in their order
abbrev pub note_lines : List ℕ → List ℕ → List PageFound → List ℕ
note_lines old new pages = flat_map (λ p. note_on old new p.page p.found) pages

-- the keys that may be meant, where the document before the edit has no flag of this one
abbrev pub known_line : List ℕ → Definitions → List ℕ
known_line key old = if is_some (lookup (bytes_eq key) old) then [] else codes "  " ++ (known_words key old ++ codes "\n")

-- the path of the book and the key of the flag as JSON texts, and the keys that may be meant
abbrev pub no_page_lines : List ℕ → List ℕ → Definitions → List ℕ
no_page_lines path key old = codes "note: " ++ (quoted path ++ (codes ": flag " ++ (quoted key ++ (codes " is not compared: there is no page of it (NoPage)\n" ++ known_line key old))))

-- such lines where a flag is asked for that no page is of
abbrev pub unmatched_lines : List ℕ → Definitions → Option Text → List PageFound → List ℕ
unmatched_lines path old None pages = []
unmatched_lines path old (Some key) pages = if nat_eq (length pages) 0 then no_page_lines path key old else []

-- all that is told
abbrev pub told_lines : Comparing → Definitions → List PageFound → List ℕ
told_lines a old pages = note_lines a.old a.new pages ++ unmatched_lines a.book old a.flag pages
