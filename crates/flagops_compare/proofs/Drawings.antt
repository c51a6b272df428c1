-- The pictures of pages, one below the other.
use Rattle.std.proofs.Common.{◌≡◌, ◌≢◌, ◌+◌, ◌<◌, ◌≤◌, ℕ, List, [], ◌∷◌, drop, get_or, length, map, refl, sym, ap, ◌∙◌, subst}
use Rattle.std.proofs.Common.{Result, Ok, Err, add-one, drop-cons}
use Rattle.std.specs.Prelude.{IfOk, OnOk}
use Rattle.std.proofs.lemmas.List.{drop_all}
use Rattle.book_core.specs.Page.{PageName}
use Rattle.bucket_core.specs.Rule.{Entries}
use Rattle.rule_switches.specs.Found.{counted}
use Rattle.rule_switches.specs.Rules.{Rules, both}
use Rattle.rule_switches.specs.Switches.{Rows}
use Rattle.picture.specs.Edits.{edit_height, edit_told, no_page_height, no_page_told}
use Rattle.picture.specs.Spelling.{Adds, Continues, IsBody, Pictures, depth}
use Rattle.picture.specs.Told.{down}
use Rattle.picture.proofs.Bodies.{alone, continues_one, unwritten, written}
use Rattle.flagops_compare.specs.Drawn.{or_no_page, page_drawn}

-- that of a page with two rules, where it was drawn
pub drawn_so : {E : Type 0} (rules : Rules) (page : PageName) (flag : List ℕ) (site : ℕ) (before after : Entries) (inputs users : ℕ) (rows : Rows) (y : ℕ) (a b : List ℕ) (r : Result ℕ E)
    → OnOk r (Adds y (edit_told flag site inputs users before after rows) a b) → IfOk r (λ end. end ≡ down y (edit_height before after rows)) → rules ≡ both before after → flag ≡ page.flag → site ≡ page.site
    → IfOk r (λ end. Continues (page_drawn rules page (counted inputs users rows)) y end a b)
drawn_so rules page flag site before after inputs users rows y a b (Ok end) adds below is same at =
    subst (λ (rs : Rules). Continues (page_drawn rs page (counted inputs users rows)) y end a b) (sym is)
    (subst (λ (f : List ℕ). Continues ((edit_height before after rows, edit_told f page.site inputs users before after rows) ∷ []) y end a b) same
    (subst (λ (n : ℕ). Continues ((edit_height before after rows, edit_told flag n inputs users before after rows) ∷ []) y end a b) at
    (continues_one (edit_height before after rows) (edit_told flag site inputs users before after rows) y end a b adds below)))
drawn_so rules page flag site before after inputs users rows y a b (Err e) adds below is same at = tt

-- ---- no page

-- that no page was compared, where nothing was written
pub none_there : {E : Type 0} (top : ℕ) (before after : List ℕ) (r : Result ℕ E) → before ≡ [] → OnOk r (Adds 0 (no_page_told ∷ []) before after) → IfOk r (λ end. end ≡ down 0 no_page_height)
    → IfOk r (λ end. (ps : Pictures) → IsBody ps before → top ≡ depth ps → IsBody (or_no_page ps) after × (end ≡ depth (or_no_page ps)))
none_there top before after (Ok end) none adds below = λ ps body ends.
    subst (λ (qs : Pictures). IsBody (or_no_page qs) after × (end ≡ depth (or_no_page qs))) (sym (unwritten ps before body none)) (alone (no_page_height, no_page_told ∷ []) before after none adds, below)
none_there top before after (Err e) none adds below = tt

-- and else the pictures that were written
pub some_there : (ps : Pictures) (bytes : List ℕ) (end : ℕ) → IsBody ps bytes → bytes ≢ [] → end ≡ depth ps → IsBody (or_no_page ps) bytes × (end ≡ depth (or_no_page ps))
some_there [] bytes end body some ends = absurd (some (written [] bytes body refl))
some_there (p ∷ ps) bytes end body some ends = (body, ends)

-- ---- pages in a list

pub front : {A B : Type 0} (view : B → A) (bs : List B) (i : ℕ) (b : B) → i < length bs → b ≡ get_or bs i b → map view (drop i bs) ≡ view b ∷ map view (drop (i + 1) bs)
front view bs i b low is =
    let cut : drop i bs ≡ get_or bs i b ∷ drop (i + 1) bs = rw add-one (drop-cons bs i b low) in
    ap (map view) (cut ∙ ap (λ x. x ∷ drop (i + 1) bs) (sym is))

pub ended : {A B : Type 0} (view : B → A) (bs : List B) (i : ℕ) → length bs ≤ i → map view (drop i bs) ≡ []
ended view bs i all = ap (map view) (drop_all i bs all)
