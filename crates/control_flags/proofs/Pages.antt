-- The pages of a targeting are those of its sites in preorder.
use Rattle.std.proofs.Common.{◌≡◌, ◌+◌, ◌∙◌, ℕ, suc, List, [], ◌∷◌, Ok, Err, Result, ap, arith, refl, slice_get, sym}
use Rattle.book_core.specs.Page.{PageName}
use Rattle.book_core.specs.Site.{page_at, with_by}
use Rattle.logic_ast.specs.Expression.{Expression}
use Rattle.logic_ast.specs.Sites.{Site, if_site, preorder}
use Rattle.logic_ast.specs.Writing.{by_text}
use Rattle.logic_ast.specs.declared.fault.LogicFault.{LogicFault}
use Rattle.logic_ast.specs.declared.fault.LogicFault.TheVariants.{NoSite}
use Rattle.site_pages.specs.Pages.{ArePages, or_no_site}
use Rattle.control_flags.specs.Sites.{pages_from, pages_in}

-- the page of the site that stands at a place among some, of which the first has this number
abbrev page_among : List ℕ → ℕ → List Site → ℕ → Result PageName LogicFault
page_among key n ss i = with_by key (n + i) (if_site (slice_get ss i) (λ s. Ok (by_text s.bucketing)))

same_page : (p q : PageName) → ◌≡◌ {A = Result PageName LogicFault} (Ok p) (Ok q) → p ≡ q
same_page p q e = cc

no_page : (p : PageName) → ◌≡◌ {A = Result PageName LogicFault} (Ok p) (Err NoSite) → ⊥
no_page p e = cc

are_from : (key : List ℕ) (n : ℕ) (ss : List Site) (pages : List PageName) → ((i : ℕ) → or_no_site (slice_get pages i) ≡ page_among key n ss i) → pages ≡ pages_from key n ss
are_from key n [] [] at = refl
are_from key n [] (p ∷ ps) at = absurd (no_page p (at 0))
are_from key n (s ∷ ss) [] at = absurd (no_page _ (sym (at 0)))
are_from key n (s ∷ ss) (p ∷ ps) at =
    let one : PageName = record { flag = key; site = n; by = by_text s.bucketing } in
    let whole : n + 0 ≡ n = omega arith in
    let first : p ≡ one = same_page p one (at 0 ∙ ap (λ (k : ℕ). with_by key k (Ok (by_text s.bucketing))) whole) in
    let rest : ps ≡ pages_from key (suc n) ss = are_from key (suc n) ss ps (λ i. let next : n + suc i ≡ suc n + i = omega arith in at (suc i) ∙ ap (λ (k : ℕ). with_by key k (if_site (slice_get ss i) (λ s. Ok (by_text s.bucketing)))) next) in
    λ j. first j ∷ rest j

pub are_pages_in : (key : List ℕ) (targeting : Expression) (pages : List PageName) → ArePages key targeting pages → pages ≡ pages_in key targeting
unfolding page_at
are_pages_in key targeting pages are =
    are_from key 0 (preorder targeting) pages
    (λ i. let same : i ≡ 0 + i = omega arith in are i ∙ ap (λ (k : ℕ). with_by key k (if_site (slice_get (preorder targeting) i) (λ s. Ok (by_text s.bucketing)))) same)
