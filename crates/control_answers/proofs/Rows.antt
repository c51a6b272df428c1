-- Rows of a history that are cut from it one after another.
use Rattle.std.proofs.Common.{◌≡◌, ℕ, List, [], ◌∷◌, ◌++◌, filter, append_assoc, append-nil, sym, ap, ◌∙◌}
use Rattle.std.proofs.lemmas.List.Elements.{filter-append}
use Rattle.byte_streams.specs.Lines.{HasNoFeed, IsFirst}
use Rattle.note_streams.proofs.Cut.{lines_first, lines_none}
use Rattle.note_streams.specs.LogLines.{lines_in}
use Rattle.control_answers.specs.History.{is_row}

abbrev rows_in : List ℕ → List (List ℕ)
rows_in bytes = filter is_row (lines_in bytes)

-- one line more
pub more_rows : (old new : List (List ℕ)) (line rest behind : List ℕ) → new ≡ old ++ filter is_row (line ∷ []) → IsFirst rest line behind → new ++ rows_in behind ≡ old ++ rows_in rest
more_rows old new line rest behind is first =
    ap (λ (ls : List (List ℕ)). ls ++ rows_in behind) is
    ∙ append_assoc old (filter is_row (line ∷ [])) (rows_in behind)
    ∙ ap (λ (ls : List (List ℕ)). old ++ ls) (sym (filter-append is_row (line ∷ []) (lines_in behind)) ∙ ap (filter is_row) (sym (lines_first rest line behind first)))

pub no_more : (rows : List (List ℕ)) (rest : List ℕ) → HasNoFeed rest → rows ++ rows_in rest ≡ rows
no_more rows rest none = ap (λ (ls : List (List ℕ)). rows ++ filter is_row ls) (lines_none rest none) ∙ append-nil rows
