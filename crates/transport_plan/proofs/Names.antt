-- Names that rise differ.
use Rattle.std.proofs.Common.{◌≡◌, ◌≢◌, ℕ, List, get_or, Less, sym, ap, ◌∙◌, subst}
use Rattle.std.specs.Cmp.Lexicographic.{slice_cmp}
use Rattle.std.specs.List.{AllPairs}
use Rattle.std.specs.List.Sorted.{IsStrictlySortedBy}
use Rattle.std.specs.Ordering.{nat_cmp, ordering_reverse}
use Rattle.std.proofs.lemmas.Cmp.{nat_list_cmp_total}
use Rattle.std.proofs.lemmas.Map.Keys.{Less-from_sorted}

pub apart : (names : List (List ℕ)) → IsStrictlySortedBy (slice_cmp nat_cmp) names → AllPairs (λ x y. x ≢ y) names
apart names rise = λ i j d low high same.
    let x = get_or names i d in
    let less : slice_cmp nat_cmp x (get_or names j d) ≡ Less = Less-from_sorted (slice_cmp nat_cmp) names i j d rise low high in
    let itself : slice_cmp nat_cmp x x ≡ Less = subst (λ y. slice_cmp nat_cmp x y ≡ Less) (sym same) less in
    let back = nat_list_cmp_total.antisymm x x ∙ ap ordering_reverse itself in
    cc
