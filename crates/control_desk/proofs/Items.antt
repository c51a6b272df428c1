-- Items that are taken one by one.
use Rattle.std.proofs.Common.{◌≡◌, ◌∙◌, ◌+◌, ◌<◌, ℕ, List, [], ◌∷◌, ◌++◌, ap, get_or, length, map, sym, take}
use Rattle.std.proofs.lemmas.List.{map-append, take_more}

-- what is seen of one more item stands behind what is seen of those before it
pub one_more : {X Y : Type 0} (v : X → Y) (xs : List X) (i : ℕ) (x : X) → i < length xs → x ≡ get_or xs i x → map v (take (i + 1) xs) ≡ map v (take i xs) ++ v x ∷ []
one_more v xs i x h is = ap (map v) (take_more xs i x h ∙ ap (λ y. take i xs ++ y ∷ []) (sym is)) ∙ map-append v (take i xs) (x ∷ [])
