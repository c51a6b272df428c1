-- What `compare` prints of pages.
use Rattle.std.specs.Prelude.{ℕ, Bool, true, false, List, [], ◌∷◌, ◌++◌, ◌==◌, codes, decimal, flat_map, if◌then◌else◌}
use Rattle.book_core.specs.Page.{PageName}
use Rattle.flag_text.specs.Printing.{text_of}
use Rattle.flag_text.specs.Shape.{text}
use Rattle.flagops_compare.specs.Reasons.{reason_name, side_name}
use Rattle.rule_switches.specs.Found.{Found, PageFound, all_inputs, all_left, all_switches, counted, left}
use Rattle.rule_switches.specs.declared.page_edit.Side.{Side}
use Rattle.rule_switches.specs.declared.fault.NoRule.{NoRule}
use Rattle.price_core.specs.Pricing.{Pair}
use Rattle.rule_switches.specs.Switches.{Rows}

abbrev pub quoted : List ℕ → List ℕ
quoted name = text_of (text name)

-- ---- as lines

-- the key as a JSON text, the site, how many inputs there are and how many switch
abbrev pub page_line : PageName → ℕ → ℕ → List ℕ
page_line page inputs users = quoted page.flag ++ (codes " " ++ (decimal page.site ++ (codes " inputs " ++ (decimal inputs ++ (codes " switch " ++ (decimal users ++ codes "\n"))))))

-- both names as JSON texts, and how many go from the one to the other
abbrev pub row_line : Pair × ℕ → List ℕ
row_line r = codes "  " ++ (quoted r.0.0 ++ (codes " " ++ (quoted r.0.1 ++ (codes " " ++ (decimal r.1 ++ codes "\n")))))

abbrev pub row_lines : Rows → List ℕ
row_lines rows = flat_map row_line rows

-- a page that was compared, with a line for each change; of another page nothing
abbrev pub lines_on : PageName → Found → List ℕ
lines_on page (counted inputs users rows) = page_line page inputs users ++ row_lines rows
lines_on page (left side reason) = []

-- the pages that were not compared are counted where there are any
abbrev pub left_line : ℕ → List ℕ
left_line n = if n == 0 then [] else codes "left " ++ (decimal n ++ codes "\n")

abbrev pub sum_lines : ℕ → ℕ → ℕ → List ℕ
sum_lines inputs users left_out = codes "switch " ++ (decimal users ++ (codes " of " ++ (decimal inputs ++ (codes "\n" ++ left_line left_out))))

-- ---- as JSON, a text a line

abbrev pub row_object : Pair × ℕ → List ℕ
row_object r = codes "{\"from\":" ++ (quoted r.0.0 ++ (codes ",\"inputs\":" ++ (decimal r.1 ++ (codes ",\"to\":" ++ (quoted r.0.1 ++ codes "}")))))

-- each behind a comma but for the first of a list
abbrev pub comma_if : Bool → List ℕ
comma_if later = if later then codes "," else []

abbrev pub row_objects : Bool → Rows → List ℕ
row_objects later [] = []
row_objects later (r ∷ rs) = comma_if later ++ (row_object r ++ row_objects true rs)

abbrev pub page_opening : PageName → ℕ → ℕ → List ℕ
page_opening page inputs users =
    codes "{\"flag\":" ++ (quoted page.flag ++ (codes ",\"inputs\":" ++ (decimal inputs ++ (codes ",\"site\":" ++ (decimal page.site ++ (codes ",\"switch\":" ++ (decimal users ++ codes ",\"switches\":[")))))))

abbrev pub left_object : PageName → Side → NoRule → List ℕ
left_object page side reason =
    codes "{\"document\":\"" ++ (side_name side ++ (codes "\",\"flag\":" ++ (quoted page.flag ++ (codes ",\"reason\":\"" ++ (reason_name reason ++ (codes "\",\"site\":" ++ (decimal page.site ++ codes "}\n")))))))

abbrev pub object_on : PageName → Found → List ℕ
object_on page (counted inputs users rows) = page_opening page inputs users ++ (row_objects false rows ++ codes "]}\n")
object_on page (left side reason) = left_object page side reason

abbrev pub sum_object : ℕ → ℕ → ℕ → List ℕ
sum_object inputs users left_out = codes "{\"inputs\":" ++ (decimal inputs ++ (codes ",\"left\":" ++ (decimal left_out ++ (codes ",\"switch\":" ++ (decimal users ++ codes "}\n")))))

-- ---- the whole

abbrev pub page_text : Bool → PageFound → List ℕ
page_text json p = if json then object_on p.page p.found else lines_on p.page p.found

abbrev pub sum_text : Bool → ℕ → ℕ → ℕ → List ℕ
sum_text json inputs users left_out = if json then sum_object inputs users left_out else sum_lines inputs users left_out

-- the pages in their order, and the sums over those that were compared
unfoldable pub report_text : Bool → List PageFound → List ℕ
report_text json pages = flat_map (page_text json) pages ++ sum_text json (all_inputs pages) (all_switches pages) (all_left pages)
