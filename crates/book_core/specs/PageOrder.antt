-- Pages are in one order, in which only equal pages tie.
use Rattle.std.specs.Prelude.{◌≡◌, Some, refl}
use Rattle.std.specs.Ordering.{is_eq, eq_by_cmp}
use Rattle.std.specs.Cmp.{IsTotalOrder, IsEquivalence, IsPartialEquivalence, IsPartialOrder, po, partial_equiv_from_equiv, eq_by_cmp_equiv, nat_cmp_total, on_total, then_total}
use Rattle.std.specs.Cmp.Lexicographic.{nat_list_cmp_total, options_total}
use Rattle.book_core.specs.Page.{PageName, page_cmp}

pub pages_total : IsTotalOrder page_cmp
pages_total =
    then_total (then_total (on_total (λ p. p.flag) nat_list_cmp_total) (on_total (λ p. p.site) nat_cmp_total)) (on_total (λ p. p.by) (options_total nat_list_cmp_total))

pub pages_equal : IsEquivalence (eq_by_cmp page_cmp)
pages_equal = eq_by_cmp_equiv pages_total

pub pages_partly_equal : IsPartialEquivalence (eq_by_cmp page_cmp)
pages_partly_equal = partial_equiv_from_equiv pages_equal

pub pages_partial : IsPartialOrder (eq_by_cmp page_cmp) (λ a b. Some (page_cmp a b))
pages_partial = po pages_total (λ a b. refl)

pub pages_match : (a b : PageName) → Some (page_cmp a b) ≡ Some (page_cmp a b)
pages_match a b = refl

pub pages_tie : (a b : PageName) → eq_by_cmp page_cmp a b ≡ is_eq (page_cmp a b)
pages_tie a b = refl
