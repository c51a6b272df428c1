-- A value stands at one place.
use Rattle.std.proofs.Common.{◌≡◌, List, ◌++◌, ℕ, sym, ap, ◌∙◌}
use Rattle.std.proofs.lemmas.List.{append_cancel_right}
use Rattle.text_spans.specs.Path.{Stands, Step, place_of}
use Rattle.text_spans.proofs.Taken.{same_pair}

pub one_place : (text : List ℕ) (path : List Step) (front old back other_front other other_back : List ℕ) → Stands text path front old back → Stands text path other_front other other_back
    → (front ≡ other_front) × (old ≡ other) × (back ≡ other_back)
one_place text path front old back other_front other other_back a b =
    let same = same_pair (place_of path text) (old ++ back) (other ++ other_back) back other_back a.there b.there in
    let olds : old ≡ other = append_cancel_right old other back (same.0 ∙ ap (λ l. other ++ l) (sym same.1)) in
    let fronts : front ≡ other_front = append_cancel_right front other_front (old ++ back) (sym a.whole ∙ b.whole ∙ ap (λ l. other_front ++ l) (sym same.0)) in
    (fronts, olds, same.1)
