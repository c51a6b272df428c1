-- One element more.
use Rattle.std.proofs.Common.{◌≡◌, ℕ, ◌+◌, ◌<◌, List, [], ◌∷◌, ◌++◌, length, map, take, get_or, sym, ap, ◌∙◌, append-nil, append_assoc}
use Rattle.std.specs.List.{flat_map}
use Rattle.std.proofs.lemmas.Grind.{flat_map-append}
use Rattle.std.proofs.lemmas.List.{map-append, take_more}

module _ {X Y : Type 0} (v : X → Y) (xs : List X) (i : ℕ) (x : X) (h : i < length xs) (is : x ≡ get_or xs i x) where
  seen : map v (take (i + 1) xs) ≡ map v (take i xs) ++ v x ∷ []
  seen = ap (map v) (take_more xs i x h ∙ ap (λ (y : X). take i xs ++ y ∷ []) (sym is)) ∙ map-append v (take i xs) (x ∷ [])

  pub flat_more : {A : Type 0} (f : Y → List A) → flat_map f (map v (take (i + 1) xs)) ≡ flat_map f (map v (take i xs)) ++ f (v x)
  flat_more f = ap (flat_map f) seen ∙ flat_map-append f (map v (take i xs)) (v x ∷ []) ∙ ap (λ t. flat_map f (map v (take i xs)) ++ t) (append-nil (f (v x)))

  pub mapped_more : {A : Type 0} (f : Y → A) (old : List A) → (old ++ map f (map v (take i xs))) ++ f (v x) ∷ [] ≡ old ++ map f (map v (take (i + 1) xs))
  mapped_more f old =
      append_assoc old (map f (map v (take i xs))) (f (v x) ∷ [])
      ∙ ap (λ t. old ++ t) (sym (ap (map f) seen ∙ map-append f (map v (take i xs)) (v x ∷ [])))
