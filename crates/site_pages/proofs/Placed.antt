-- The page of each site, from the sites that a walk found.
use Rattle.std.proofs.Common.{◌≡◌, ℕ, zero, suc, true, not, List, [], ◌∷◌, ◌++◌, map, get_or, Option, Some, None, option_map, Ok, refl, sym, ap, ◌∙◌, arith}
use Rattle.std.proofs.lemmas.Option.{slice_get-get_or}
use Rattle.std.specs.Prelude.{All, IfSome, slice_get}
use Rattle.logic_ast.specs.Expression.{Expression, By, no_by, by}
use Rattle.logic_ast.specs.Formed.{is_list, is_formed, by_is_formed, is_well_formed}
use Rattle.logic_ast.specs.Parts.{site_parts}
use Rattle.logic_ast.specs.Sites.{Site, preorder, site_at, if_site}
use Rattle.logic_ast.specs.Writing.{by_text}
use Rattle.logic_ast.proofs.Inner.{by-formed}
use Rattle.logic_ast.proofs.Numbered.{number-at, numbered-preorder}
use Rattle.logic_ast.proofs.Places.{found-at}
use Rattle.logic_ast.proofs.WellFormed.{is_whole-written}
use Rattle.logic_ast.proofs.Written.{left, right}
use Rattle.book_core.specs.Page.{PageName}
use Rattle.book_core.specs.Site.{page_at, with_by}
use Rattle.site_pages.specs.Pages.{ArePages, or_no_site, page_with}
use Rattle.site_pages.specs.Sites.{by_view, place_of, place_view}
use Rattle.site_pages.specs.Text.{by_is_whole}
use Rattle.site_pages.specs.declared.sites.Place.{Place}

get_map : {X Y : Type 0} (f : X → Y) (xs : List X) (n : ℕ) → slice_get (map f xs) n ≡ option_map f (slice_get xs n)
get_map f [] n = refl
get_map f (x ∷ xs) zero = refl
get_map f (x ∷ xs) (suc n) = get_map f xs n

pub formed_of : (e : Expression) → is_well_formed e ≡ true → is_formed 0 e ≡ true
formed_of e h = left (is_formed 0 e) _ h

-- ---- whole numbers

by_whole : (k : ℕ) (b : By) → by_is_formed k b ≡ true → by_is_whole b ≡ true
by_whole k no_by h = refl
by_whole k (by e) h = is_whole-written k e (right (not (is_list e)) _ h)

site_whole : (e : Expression) (n : ℕ) (s : Site) → is_formed 0 e ≡ true → site_at n e ≡ Some s → by_is_whole s.bucketing ≡ true
site_whole e n s h at = by_whole (suc n) s.bucketing (by-formed n e s.bucketing s.buckets h (ap (option_map site_parts) (found-at n e h ∙ at)))

-- the site of the definition at the place of one that was found
same_by : (e : Expression) (n : ℕ) (o : Option Site) (x : Place) → is_formed 0 e ≡ true → site_at n e ≡ o → option_map place_of o ≡ Some (place_view x) → by_is_whole (by_view x.by) ≡ true
same_by e n None x h at is = cc
same_by e n (Some s) x h at is =
    let same : s.bucketing ≡ by_view x.by = ap (λ p. p.1) (some_is (place_of s) (place_view x) is) in
    ap by_is_whole (sym same) ∙ site_whole e n s h at
  where
    some_is : (p q : ℕ × By) → Some p ≡ Some q → p ≡ q
    some_is p q e = cc

pub places_are_whole : (e : Expression) (places : List Place) → is_formed 0 e ≡ true → map place_view places ≡ map place_of (preorder e) → All (λ place. by_is_whole (by_view place.by) ≡ true) places
places_are_whole e places h is = λ k d within.
    let x = get_or places k d in
    let found : slice_get places k ≡ Some x = slice_get-get_or places k d within in
    let seen : slice_get (map place_view places) k ≡ Some (place_view x) = get_map place_view places k ∙ ap (option_map place_view) found in
    same_by e k (site_at k e) x h refl (sym (get_map place_of (preorder e) k) ∙ sym (ap (λ l. slice_get l k) is) ∙ seen)

-- ---- the pages

-- the page of a site, or none
of_site : (flag : List ℕ) (n : ℕ) (o : Option Site) → IfSome o (λ s. s.number ≡ n) → or_no_site (option_map (page_with flag) (option_map place_of o)) ≡ with_by flag n (if_site o (λ s. Ok (by_text s.bucketing)))
of_site flag n None h = refl
of_site flag n (Some s) h = ap (λ k. Ok (record { flag = flag; site = k; by = by_text s.bucketing })) h

pub are_pages : (flag : List ℕ) (e : Expression) (places : List Place) (pages : List PageName) → is_formed 0 e ≡ true → map place_view places ≡ map place_of (preorder e)
    → pages ≡ map (λ (place : Place). page_with flag (place_view place)) places → ArePages flag e pages
unfolding page_at
are_pages flag e places pages h is made = λ n.
    let places_at : option_map place_view (slice_get places n) ≡ option_map place_of (site_at n e) = sym (get_map place_view places n) ∙ ap (λ l. slice_get l n) is ∙ get_map place_of (preorder e) n in
    let page : slice_get pages n ≡ option_map (page_with flag) (option_map place_of (site_at n e)) =
    ap (λ l. slice_get l n) made ∙ get_map (λ (place : Place). page_with flag (place_view place)) places n ∙ twice (slice_get places n) ∙ ap (option_map (page_with flag)) places_at in
    ap or_no_site page ∙ of_site flag n (site_at n e) (number-at 0 n n (preorder e) (numbered-preorder 0 e h) (omega arith))
  where
    twice : (o : Option Place) → option_map (λ (place : Place). page_with flag (place_view place)) o ≡ option_map (page_with flag) (option_map place_view o)
    twice None = refl
    twice (Some x) = refl

-- what a walk found that began with nothing
pub all_found : (e n : Expression) (old new : List Place) → old ≡ [] → n ≡ e → map place_view new ≡ map place_view old ++ map place_of (preorder n) → map place_view new ≡ map place_of (preorder e)
all_found e n old new none same is = is ∙ ap (λ l. map place_view l ++ map place_of (preorder n)) none ∙ ap (λ x. map place_of (preorder x)) same
