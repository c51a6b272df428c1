-- Asks, each for the kind that its flag is asked for.
use Rattle.std.proofs.Common.{◌≡◌, ◌∙◌, ℕ, ◌+◌, ◌-◌, ◌<◌, List, [], ◌∷◌, ◌++◌, ap, arith, drop, get_or, length, map, set, sym, take}
use Rattle.std.proofs.lemmas.Grind.{drop_more_same}
use Rattle.std.proofs.lemmas.List.{drop-set-lt, drop_more, length-drop, map-append, take_more, take_more_set}
use Rattle.book_share.specs.declared.ask.Ask as program
use Rattle.flag_resolve.specs.Floats.{Marked}
use Rattle.flagops_drive.specs.Asks.{Ask, ask_view}
use Rattle.flagops_drive.specs.Floats.{asked_as}

module _ (m : Marked) (items initial : List program.Ask) (i : ℕ) (d x : program.Ask) (within : i < length initial) (left : drop i items ≡ drop i initial) where
  inside : i < length items
  inside =
      let a : length (drop i items) ≡ length items - i = length-drop i items in
      let b : length (drop i initial) ≡ length initial - i = length-drop i initial in
      let c : length (drop i items) ≡ length (drop i initial) = ap length left in
      omega arith

  same : get_or items i d ≡ get_or initial i d
  same = ap (λ l. get_or l 0 d) (sym (drop_more items i d inside) ∙ left ∙ drop_more initial i d within)

  abbrev asked : List program.Ask → List Ask
  asked xs = map (asked_as m) (map ask_view xs)

  asked_more : asked (take (i + 1) initial) ≡ asked (take i initial) ++ asked_as m (ask_view (get_or initial i d)) ∷ []
  asked_more = ap asked (take_more initial i d within) ∙ ap (map (asked_as m)) (map-append ask_view (take i initial) (get_or initial i d ∷ [])) ∙ map-append (asked_as m) (map ask_view (take i initial)) (ask_view (get_or initial i d) ∷ [])

  -- one more wants the kind that its flag is asked for
  pub wants_more : ask_view x ≡ asked_as m (ask_view (get_or items i d)) → map ask_view (take i items) ≡ map (asked_as m) (map ask_view (take i initial))
      → (map ask_view (take (i + 1) (set items i x)) ≡ map (asked_as m) (map ask_view (take (i + 1) initial))) × (drop (i + 1) (set items i x) ≡ drop (i + 1) initial)
  wants_more wanted so_far = (
    ap (map ask_view) (take_more_set items i x inside) ∙ map-append ask_view (take i items) (x ∷ []) ∙ ap (λ s. s ++ ask_view x ∷ []) so_far
        ∙ ap (λ y. asked (take i initial) ++ y ∷ []) (wanted ∙ ap (λ a. asked_as m (ask_view a)) same) ∙ sym asked_more,
    drop-set-lt (i + 1) items i x (omega arith) ∙ drop_more_same items initial i left,
  )
