-- A loop over the entries of the program: its step, as the rest of the list gives it.
use Rattle.std.proofs.Common.{◌≡◌, ℕ, suc, ◌+◌, ◌<◌, List, ◌∷◌, length, take, drop, get_or, String, Global, sym, ap, ◌∙◌, add-one}
use Rattle.std.proofs.Math.Seq.{drop-cons}
use Rattle.std.proofs.lemmas.List.{take-append-drop, map-append}
use Rattle.bucket_core.specs.Rule.{total_weight, entry_view, entries_view}
use Rattle.bucket_core.proofs.Points.{total_weight-cons, total_weight-append}

abbrev pub Held : Type 0
Held = String Global × ℕ

module _ (es : List Held) (i : ℕ) (e : Held) (in_list : i < length es) (is : e ≡ get_or es i e) where
  -- what is left from the entry on
  from_here : drop i es ≡ e ∷ drop (i + 1) es
  from_here = rw add-one (drop-cons es i e in_list ∙ ap (λ x. x ∷ drop (suc i) es) (sym is))

  pub weight_next : total_weight (entries_view (drop i es)) ≡ e.1 + total_weight (entries_view (drop (i + 1) es))
  weight_next = ap (λ xs. total_weight (entries_view xs)) from_here ∙ total_weight-cons (entry_view e) (entries_view (drop (i + 1) es))

pub weight_split : (es : List Held) (i : ℕ) → total_weight (entries_view (take i es)) + total_weight (entries_view (drop i es)) ≡ total_weight (entries_view es)
weight_split es i =
    sym (total_weight-append (entries_view (take i es)) (entries_view (drop i es))) ∙ (ap total_weight (sym (map-append entry_view (take i es) (drop i es))) ∙ ap (λ xs. total_weight (entries_view xs)) (take-append-drop i es))
