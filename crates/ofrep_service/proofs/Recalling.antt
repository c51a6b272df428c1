-- Items that are changed in place, one by one.
use Rattle.std.proofs.Common.{◌≡◌, ◌∙◌, ℕ, ◌+◌, ◌-◌, ◌<◌, List, [], ◌∷◌, ◌++◌, ap, arith, drop, get_or, length, map, set, sym, take}
use Rattle.std.proofs.lemmas.Grind.{drop_more_same}
use Rattle.std.proofs.lemmas.List.{drop-set-lt, drop_more, length-drop, map-append, take_more, take_more_set}

module _ {A B : Type 0} (f g : A → B) (items initial : List A) (i : ℕ) (d x : A) (within : i < length initial) (left : drop i items ≡ drop i initial) where
  inside : i < length items
  inside =
      let a : length (drop i items) ≡ length items - i = length-drop i items in
      let b : length (drop i initial) ≡ length initial - i = length-drop i initial in
      let c : length (drop i items) ≡ length (drop i initial) = ap length left in
      omega arith

  same : get_or items i d ≡ get_or initial i d
  same = ap (λ l. get_or l 0 d) (sym (drop_more items i d inside) ∙ left ∙ drop_more initial i d within)

  changed_more : map g (take (i + 1) initial) ≡ map g (take i initial) ++ g (get_or initial i d) ∷ []
  changed_more = ap (map g) (take_more initial i d within) ∙ map-append g (take i initial) (get_or initial i d ∷ [])

  -- one more is changed, and those behind it are as they were
  pub one_more : f x ≡ g (get_or items i d) → map f (take i items) ≡ map g (take i initial)
      → (map f (take (i + 1) (set items i x)) ≡ map g (take (i + 1) initial)) × (drop (i + 1) (set items i x) ≡ drop (i + 1) initial)
  one_more changed so_far = (
    ap (map f) (take_more_set items i x inside) ∙ map-append f (take i items) (x ∷ []) ∙ ap (λ s. s ++ f x ∷ []) so_far
        ∙ ap (λ y. map g (take i initial) ++ y ∷ []) (changed ∙ ap g same) ∙ sym changed_more,
    drop-set-lt (i + 1) items i x (omega arith) ∙ drop_more_same items initial i left,
  )
