-- How the fold goes from line to line and from page to page.
use Rattle.std.proofs.Common.{◌≡◌, ◌<◌, ◌≤◌, ◌+◌, ℕ, Bool, true, false, if◌then◌else◌, length, option_to_list, List, [], ◌∷◌, Option, Some, None, Err, sym, ap, ◌∙◌, arith}
use Rattle.std.specs.Prelude.{MatchOption}
use Rattle.std.proofs.lemmas.List.{length-replicate}
use Rattle.book_core.specs.Page.{PageName, page_eq}
use Rattle.book_core.specs.Reading.{FileLine, begins, page_fault}
use Rattle.book_core.specs.declared.fault.BookFileFault.{BookFileFault}
use Rattle.page_tally.specs.Folding.{Kept, begun, starting, passing, or_fault, standing, tally_from, tally_after}
use Rattle.page_tally.specs.Lines.{line_view, with_line, with_page}
use Rattle.page_tally.specs.declared.line.Line.{Line}

taken_lines : (r : Option Line) (before after : List FileLine) → MatchOption r (before ≡ []) (λ line. before ≡ line_view line ∷ after) → before ≡ with_line r after
taken_lines None before after e = e
taken_lines (Some line) before after e = e

-- a line was taken, where there is one
pub next_line : (r : Option Line) (before after : List FileLine) (n m : ℕ) (P : Type 0) (wanted page : PageName) (total : ℕ) (last : Option (List ℕ)) (k : Kept) → MatchOption r (before ≡ []) (λ line. before ≡ line_view line ∷ after) → MatchOption r P (λ line. m ≡ n + 1)
    → tally_from wanted total (Some page) (n + 1) last k before ≡ tally_from wanted total (Some page) m last k (with_line r after)
next_line None before after n m P wanted page total last k next number = ap (λ ls. tally_from wanted total (Some page) (n + 1) last k ls) next
next_line (Some line) before after n m P wanted page total last k next number =
    ap (λ ls. tally_from wanted total (Some page) (n + 1) last k ls) next ∙ ap (λ i. tally_from wanted total (Some page) i last k (line_view line ∷ after)) (sym number)

-- a page begins that is not at fault
pub page_begins : (r : Option Line) (ls after : List FileLine) (n m : ℕ) (P : Type 0) (before : Option PageName) (page wanted : PageName) (total : ℕ) (counts : List ℕ) → MatchOption r (ls ≡ []) (λ line. ls ≡ line_view line ∷ after) → MatchOption r P (λ line. m ≡ n + 1)
    → page_fault n (standing before) page (with_line r after) ≡ None → tally_after wanted total before n counts (begins page ∷ ls) ≡ tally_from wanted total (Some page) m None (begun wanted total page counts) (with_line r after)
page_begins r ls after n m P before page wanted total counts next number good =
    let later = tally_from wanted total (Some page) (n + 1) None (begun wanted total page counts) ls in
    ap (λ xs. or_fault (page_fault n (standing before) page xs) later) (taken_lines r ls after next)
    ∙ ap (λ o. or_fault o later) good
    ∙ next_line r ls after n m P wanted page total None (begun wanted total page counts) next number

-- a page begins that is at fault
pub page_at_fault : (r : Option Line) (ls after : List FileLine) (n : ℕ) (before : Option PageName) (page wanted : PageName) (total : ℕ) (counts : List ℕ) (e : BookFileFault) → MatchOption r (ls ≡ []) (λ line. ls ≡ line_view line ∷ after)
    → page_fault n (standing before) page (with_line r after) ≡ Some e → tally_after wanted total before n counts (begins page ∷ ls) ≡ Err e
page_at_fault r ls after n before page wanted total counts e next bad =
    let later = tally_from wanted total (Some page) (n + 1) None (begun wanted total page counts) ls in
    ap (λ xs. or_fault (page_fault n (standing before) page xs) later) (taken_lines r ls after next) ∙ ap (λ o. or_fault o later) bad

-- the first page, where there is one
pub first_line : (next : Option PageName) (before after : List FileLine) (n m : ℕ) (P : Type 0) (wanted : PageName) (total : ℕ) (counts : List ℕ) → before ≡ with_page next after → MatchOption next P (λ page. m ≡ n + 1) → n ≡ 1
    → tally_after wanted total None m counts (with_page next after) ≡ tally_after wanted total None 2 counts before
first_line None before after n m P wanted total counts taken number one = ap (λ ls. tally_after wanted total None 2 counts ls) (sym taken)
first_line (Some page) before after n m P wanted total counts taken number one =
    let second : m ≡ 2 = omega (arith, number, one) in
    ap (λ i. tally_after wanted total None i counts (begins page ∷ after)) second ∙ ap (λ ls. tally_after wanted total None 2 counts ls) (sym taken)

length-begun : (same : Bool) (total : ℕ) (counts : List ℕ) → length counts ≡ total → length (let k : Kept = if same then starting total else passing counts in k.counts) ≡ total
length-begun true total counts whole = length-replicate {A = ℕ} total 0
length-begun false total counts whole = whole

-- as many counts as before
pub whole_begun : (wanted : PageName) (total : ℕ) (page : PageName) (counts : List ℕ) (k : Kept) → k ≡ begun wanted total page counts → length counts ≡ total → length k.counts ≡ total
whole_begun wanted total page counts k is whole = ap (λ (j : Kept). length j.counts) is ∙ length-begun (page_eq page wanted) total counts whole

-- a page that is not at fault has a line behind it
pub line_behind : (r : Option Line) (after : List FileLine) (n : ℕ) (before : Option PageName) (page : PageName) (P : Type 0) (a b : ℕ) → page_fault n (standing before) page (with_line r after) ≡ None → MatchOption r P (λ line. a < b) → a < b
line_behind None after n before page P a b good shorter = cc
line_behind (Some line) after n before page P a b good shorter = shorter

pub at_most_one : (next : Option PageName) → length (option_to_list {X = PageName} next) ≤ 1
at_most_one None = omega arith
at_most_one (Some page) = omega arith
