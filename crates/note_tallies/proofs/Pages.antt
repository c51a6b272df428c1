-- Pages that tie in the order of pages are one page.
use Rattle.std.proofs.Common.{◌≡◌, List, ℕ, true, Option, Some, None, Ordering, refl, ap}
use Rattle.std.specs.declared.cmp.Ordering.TheVariants.{Less, Equal, Greater}
use Rattle.std.specs.Cmp.{Equal-is}
use Rattle.std.specs.FinMap.{nat_cmp-IsAntisymmetric, slice_cmp-IsAntisymmetric}
use Rattle.std.specs.Option.{option_cmp}
use Rattle.std.specs.Ordering.{nat_cmp, ordering_then}
use Rattle.book_core.specs.Page.{PageName, bytes_cmp, page_cmp, page_eq}

then_first : (one other : Ordering) → ordering_then one other ≡ Equal → one ≡ Equal
then_first Less other e = cc
then_first Equal other e = refl
then_first Greater other e = cc

then_second : (one other : Ordering) → ordering_then one other ≡ Equal → other ≡ Equal
then_second Less other e = cc
then_second Equal other e = e
then_second Greater other e = cc

same_texts : (a b : List ℕ) → bytes_cmp a b ≡ Equal → a ≡ b
same_texts = slice_cmp-IsAntisymmetric nat_cmp-IsAntisymmetric

same_by : (a b : Option (List ℕ)) → option_cmp bytes_cmp a b ≡ Equal → a ≡ b
same_by None None e = refl
same_by None (Some t) e = cc
same_by (Some s) None e = cc
same_by (Some s) (Some t) e = ap (λ (text : List ℕ). Some text) (same_texts s t e)

pub same_page : (a b : PageName) → page_eq a b ≡ true → a ≡ b
same_page a b same =
    let tied : page_cmp a b ≡ Equal = (Equal-is (page_cmp a b)).0 same in
    let front = then_first (ordering_then (bytes_cmp a.flag b.flag) (nat_cmp a.site b.site)) (option_cmp bytes_cmp a.by b.by) tied in
    let by = same_by a.by b.by (then_second (ordering_then (bytes_cmp a.flag b.flag) (nat_cmp a.site b.site)) (option_cmp bytes_cmp a.by b.by) tied) in
    let flag = same_texts a.flag b.flag (then_first (bytes_cmp a.flag b.flag) (nat_cmp a.site b.site) front) in
    let site = nat_cmp-IsAntisymmetric a.site b.site (then_second (bytes_cmp a.flag b.flag) (nat_cmp a.site b.site) front) in
    λ i. record { flag = flag i; site = site i; by = by i }
