-- The sums of a comparison with a page more.
use Rattle.std.proofs.Common.{◌≡◌, ℕ, ◌+◌, cond, List, [], ◌∷◌, ◌++◌, sum_by, ap, ◌∙◌, arith}
use Rattle.std.proofs.lemmas.List.Sums.{sum_by-append, sum_by-cons}
use Rattle.rule_switches.specs.Found.{AreSums, PageFound, inputs_in, is_left, pages_view, switches_in}
use Rattle.rule_switches.specs.declared.comparison.Comparison.{Comparison}

-- what a page adds
one_more : (n : PageFound → ℕ) (ps qs : List PageFound) (p : PageFound) → qs ≡ ps ++ p ∷ [] → sum_by n qs ≡ sum_by n ps + n p
one_more n ps qs p is =
    let all : sum_by n qs ≡ sum_by n ps + sum_by n (p ∷ []) = ap (sum_by n) is ∙ sum_by-append n ps (p ∷ []) in
    let one : sum_by n (p ∷ []) ≡ n p + sum_by n [] = sum_by-cons n p [] in
    omega (arith, all, one)

pub added : (old new : Comparison) (p : PageFound) → pages_view new.pages.items ≡ pages_view old.pages.items ++ p ∷ [] → new.inputs ≡ old.inputs + inputs_in p.found → new.switched ≡ old.switched + switches_in p.found
    → new.left ≡ old.left + cond (is_left p.found) 1 0 → AreSums old → AreSums new
added old new p pages inputs switched left had = record {
  inputs = omega (arith, inputs, had.inputs, one_more (λ q. inputs_in q.found) (pages_view old.pages.items) (pages_view new.pages.items) p pages);
  switched = omega (arith, switched, had.switched, one_more (λ q. switches_in q.found) (pages_view old.pages.items) (pages_view new.pages.items) p pages);
  left = omega (arith, left, had.left, one_more (λ q. cond (is_left q.found) 1 0) (pages_view old.pages.items) (pages_view new.pages.items) p pages);
}
