-- The pages that are known are those of their flags' sites.
use Rattle.std.proofs.Common.{◌≡◌, ℕ, zero, suc, ◌<◌, Bool, true, false, cond, List, [], ◌∷◌, length, get_or, Ordering, Less, Equal, Greater, Option, Some, None, Result, Ok, Err, String, Vec, Global, Bor, string_bytes, refl, sym, ap, ◌∙◌, subst}
use Rattle.std.specs.Prelude.{IfSome, slice_get}
use Rattle.std.specs.Cmp.Lexicographic.{slice_cmp}
use Rattle.std.specs.Ordering.{is_eq, match_ordering, nat_cmp}
use Rattle.std.specs.Option.{option_copied}
use Rattle.std.specs.Map.{lookup}
use Rattle.std.specs.BTreeMap.{insert_entry, is_at}
use Rattle.std.proofs.lemmas.Map.Text.{is_eq-slice_cmp}
use Rattle.std.proofs.lemmas.Option.{slice_get-get_or}
use Rattle.std.proofs.lemmas.Slice.Eq.{bytes_eq-Decides}
use Rattle.flag_defs.specs.Document.{Definitions}
use Rattle.logic_ast.specs.Expression.{Expression}
use Rattle.logic_ast.specs.Writing.{by_text_at}
use Rattle.logic_ast.specs.declared.fault.LogicFault.{LogicFault}
use Rattle.book_core.specs.Page.{PageName}
use Rattle.book_core.specs.Site.{page_at, with_by}
use Rattle.site_pages.specs.Pages.{ArePages, or_no_site}
use Rattle.site_pages.specs.Keyed.{page_of, targeting_of, text_in}
use Rattle.book_share.specs.Known.{AreKnown, AreSitePages, Entry}

key_is : (a b : List ℕ) → is_eq (slice_cmp nat_cmp a b) ≡ true → a ≡ b
key_is a b e = (bytes_eq-Decides a b).0 (sym (is_eq-slice_cmp a b) ∙ e)

-- ---- what a look-up finds

known_in : (flags : Definitions) (key : List ℕ) (es : List Entry) → AreKnown flags es → IfSome (lookup (is_at (λ (k : String Global). slice_cmp nat_cmp key (string_bytes k))) es) (λ pages. AreSitePages flags key pages.items)
known_in flags key [] h = tt
known_in flags key (e ∷ es) h = by (is_eq (slice_cmp nat_cmp key (string_bytes e.0))) refl (known_in flags key es (λ i. h (suc i)))
  where
    later : Option (Vec PageName Global)
    later = lookup (is_at (λ (k : String Global). slice_cmp nat_cmp key (string_bytes k))) es

    by : (b : Bool) → is_eq (slice_cmp nat_cmp key (string_bytes e.0)) ≡ b → IfSome later (λ pages. AreSitePages flags key pages.items) → IfSome (cond b (Some e.1) later) (λ pages. AreSitePages flags key pages.items)
    by true same rest = subst (λ k. AreSitePages flags k e.1.items) (sym (key_is key (string_bytes e.0) same)) (h zero e refl)
    by false other rest = rest

pub known_at : (flags : Definitions) (key : List ℕ) (es : List Entry) (o : Option (Bor (Vec PageName Global))) (pages : Bor (Vec PageName Global)) → AreKnown flags es
    → option_copied o ≡ lookup (is_at (λ (k : String Global). slice_cmp nat_cmp key (string_bytes k))) es → o ≡ Some pages → AreSitePages flags key pages.now.items
known_at flags key es o pages h found is =
    subst (λ (x : Option (Vec PageName Global)). IfSome x (λ v. AreSitePages flags key v.items)) (sym found ∙ ap option_copied is) (known_in flags key es h)

pub known_page : (flags : Definitions) (key : List ℕ) (pages : List PageName) (n : ℕ) (page : PageName) → AreSitePages flags key pages → n < length pages → page ≡ get_or pages n page → page ≡ page_of key (targeting_of flags key) n
known_page flags key pages n page h within is = h n page (slice_get-get_or pages n page within ∙ ap Some (sym is))

pub no_pages : (flags : Definitions) (key : List ℕ) → AreSitePages flags key []
no_pages flags key n page is = cc

pub none_known : (flags : Definitions) (es : List Entry) → es ≡ [] → AreKnown flags es
none_known flags es none i e at n page is = let gone : None ≡ Some e = sym (ap (λ (l : List Entry). slice_get l i) none) ∙ at in cc

-- ---- one flag more

entry_is : (x y : Entry) → Some x ≡ Some y → x ≡ y
entry_is x y e = cc

-- one entry in front of others
in_front : (flags : Definitions) (e : Entry) (es : List Entry) → AreSitePages flags (string_bytes e.0) e.1.items → AreKnown flags es → AreKnown flags (e ∷ es)
in_front flags e es one h zero x is = subst (λ (y : Entry). AreSitePages flags (string_bytes y.0) y.1.items) (entry_is e x is) one
in_front flags e es one h (suc i) x is = h i x is

pub known_more : (flags : Definitions) (es : List Entry) (k : String Global) (v : Vec PageName Global) → AreKnown flags es → AreSitePages flags (string_bytes k) v.items
    → AreKnown flags (insert_entry (λ (a b : String Global). slice_cmp nat_cmp (string_bytes a) (string_bytes b)) es k v)
known_more flags [] k v h pages = in_front flags (k, v) [] pages h
known_more flags (e ∷ es) k v h pages = by (slice_cmp nat_cmp (string_bytes k) (string_bytes e.0)) refl (known_more flags es k v (λ i. h (suc i)) pages)
  where
    later : List Entry
    later = insert_entry (λ (a b : String Global). slice_cmp nat_cmp (string_bytes a) (string_bytes b)) es k v

    by : (r : Ordering) → slice_cmp nat_cmp (string_bytes k) (string_bytes e.0) ≡ r → AreKnown flags later → AreKnown flags (match_ordering r ((k, v) ∷ e ∷ es) ((e.0, v) ∷ es) (e ∷ later))
    by Less is rest = in_front flags (k, v) (e ∷ es) pages h
    by Equal is rest = in_front flags (e.0, v) es (subst (λ x. AreSitePages flags x v.items) (key_is (string_bytes k) (string_bytes e.0) (ap is_eq is)) pages) (λ i. h (suc i))
    by Greater is rest = in_front flags e later (h zero e refl) rest

-- the page of a site is the one that the site has in its flag
of_page : (key : List ℕ) (n : ℕ) (r : Result (Option (List ℕ)) LogicFault) (page : PageName) → Ok page ≡ with_by key n r → page ≡ record { flag = key; site = n; by = text_in r }
of_page key n (Ok by) page e = cc
of_page key n (Err fault) page e = cc

pub site_pages_of : (flags : Definitions) (key : List ℕ) (t : Expression) (pages : List PageName) → targeting_of flags key ≡ Some t → ArePages key t pages → AreSitePages flags key pages
unfolding page_at
site_pages_of flags key t pages is h = λ n page at. of_page key n (by_text_at n t) page (sym (ap or_no_site at) ∙ h n) ∙ ap (λ o. page_of key o n) (sym is)
