-- Each page of a site is given a number, and no number changes.
use Rattle.std.proofs.Common.{◌≡◌, ◌∙◌, ℕ, Bool, true, false, cond, unwrap_or, List, [], ◌∷◌, ◌++◌, Option, Some, None, refl, sym, ap, subst, ⊎_elim}
use Rattle.std.specs.Prelude.{◌||◌}
use Rattle.std.specs.BTreeMap.{is_at}
use Rattle.std.specs.Cmp.{tied_itself}
use Rattle.std.specs.List.{Contains, list_any}
use Rattle.std.specs.Map.{lookup}
use Rattle.std.specs.Ordering.{is_eq}
use Rattle.std.proofs.lemmas.Bool.{cases_Bool}
use Rattle.std.proofs.lemmas.List.Folds.{list_any-append, list_any_at}
use Rattle.book_core.specs.Page.{PageName, page_cmp, page_eq}
use Rattle.book_core.specs.PageOrder.{pages_total}
use Rattle.flag_defs.specs.Document.{Definitions}
use Rattle.note_streams.specs.Counts.{AreCounts, IsCountOf, counted_on}
use Rattle.note_tallies.proofs.Pages.{same_page}
use Rattle.control_flags.specs.Sites.{Recorded, recorded_on}
use Rattle.control_answers.specs.SiteCounts.{AreSiteCounts, Fills, IsSiteCount, site_pages}

abbrev among : PageName → List PageName → Bool
among page pages = list_any (λ p. page_eq p page) pages

page_itself : (page : PageName) → page_eq page page ≡ true
page_itself page = ap is_eq (tied_itself pages_total page)

-- ---- one page after another

pub fills_none : (m : Recorded) → Fills m [] m
fills_none m page = refl

module _ (old : Recorded) (page : PageName) (count : ℕ) (is : count ≡ counted_on old page) where
  by_page : (q : PageName) (b : Bool) → page_eq page q ≡ b → cond b (Some count) (recorded_on old q) ≡ cond (b || false) (Some (counted_on old q)) (recorded_on old q)
  by_page q true same = ap Some (is ∙ ap (counted_on old) (same_page page q same))
  by_page q false other = refl

  pub fills_one : (new : Recorded) → ((q : PageName) → lookup (is_at (page_cmp q)) new ≡ cond (page_eq page q) (Some count) (lookup (is_at (page_cmp q)) old)) → Fills old (page ∷ []) new
  fills_one new all q = all q ∙ by_page q (page_eq page q) refl

kept_by : (o : Option ℕ) (b : Bool) → unwrap_or (cond b (Some (unwrap_or o 0)) o) 0 ≡ unwrap_or o 0
kept_by o true = refl
kept_by o false = refl

-- no number changes
kept : (old new : Recorded) (pages : List PageName) → Fills old pages new → (page : PageName) → counted_on new page ≡ counted_on old page
kept old new pages fills page = ap (λ (o : Option ℕ). unwrap_or o 0) (fills page) ∙ kept_by (recorded_on old page) (among page pages)

either : (a b : Bool) (x y : Option ℕ) → cond b x (cond a x y) ≡ cond (a || b) x y
either true true x y = refl
either true false x y = refl
either false true x y = refl
either false false x y = refl

pub fills_more : (old mid new : Recorded) (some more : List PageName) → Fills old some mid → Fills mid more new → Fills old (some ++ more) new
fills_more old mid new some more first second page =
    let x : Option ℕ = Some (counted_on old page) in
    second page
    ∙ ap (λ (n : ℕ). cond (among page more) (Some n) (recorded_on mid page)) (kept old mid some first page)
    ∙ ap (λ (o : Option ℕ). cond (among page more) x o) (first page)
    ∙ either (among page some) (among page more) x (recorded_on old page)
    ∙ ap (λ (b : Bool). cond b x (recorded_on old page)) (sym (list_any-append (λ (p : PageName). page_eq p page) some more))

-- ---- all of them

contained : (pages : List PageName) (page : PageName) → Contains pages page → among page pages ≡ true
contained pages page there = list_any_at (λ (p : PageName). page_eq p page) pages there.0 page there.1 (ap (λ (p : PageName). page_eq p page) there.2 ∙ page_itself page)

module _ (flags : Definitions) (files : List (List ℕ)) where
  not_among : (page : PageName) → among page (site_pages flags) ≡ false → Contains (site_pages flags) page → ⊥
  not_among page none there = let yes = contained (site_pages flags) page there in cc

  by_number : (page : PageName) → among page (site_pages flags) ≡ false → (o : Option ℕ) → IsCountOf files page (unwrap_or o 0) → IsSiteCount flags files page o
  by_number page none None is = not_among page none
  by_number page none (Some n) is = is

  pub site_counted : (old new : Recorded) → AreCounts files old → Fills old (site_pages flags) new → AreSiteCounts flags files new
  site_counted old new are fills page =
      ⊎_elim
      (λ (there : among page (site_pages flags) ≡ true). subst (IsSiteCount flags files page) (sym (fills page ∙ ap (λ (b : Bool). cond b (Some (counted_on old page)) (recorded_on old page)) there)) (are page))
      (λ (none : among page (site_pages flags) ≡ false). subst (IsSiteCount flags files page) (sym (fills page ∙ ap (λ (b : Bool). cond b (Some (counted_on old page)) (recorded_on old page)) none)) (by_number page none (recorded_on old page) (are page)))
      (cases_Bool (among page (site_pages flags)))
