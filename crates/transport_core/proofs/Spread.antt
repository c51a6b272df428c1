-- The rows of an assignment, one after the other.
use Rattle.std.proofs.Common.{◌≡◌, ℕ, List, [], ◌∷◌, ◌++◌, append_assoc, refl, ap, ◌∙◌}
use Rattle.std.proofs.lemmas.List.{map-append}
use Rattle.transport_core.specs.Assignment.{Arc, row_flow, row_flows, assigned_view}
use Rattle.transport_core.specs.Groups.{GroupKey}
use Rattle.transport_core.specs.declared.assignment.AssignmentRow.{AssignmentRow}

pub no_numbers : (g : GroupKey) (names : List (List ℕ)) → row_flows g names [] ≡ []
no_numbers g [] = refl
no_numbers g (n ∷ names) = refl

-- one more row is the first of what is left
pub one_more : (rows items : List AssignmentRow) (row : AssignmentRow) (flow : Arc × ℕ) (rest whole : List (Arc × ℕ))
    → items ≡ rows ++ row ∷ [] → row_flow row ≡ flow → assigned_view rows ++ flow ∷ rest ≡ whole → assigned_view items ++ rest ≡ whole
one_more rows items row flow rest whole is same before =
    ap (λ (rs : List AssignmentRow). assigned_view rs ++ rest) is
    ∙ (ap (λ (fs : List (Arc × ℕ)). fs ++ rest) (map-append row_flow rows (row ∷ []))
    ∙ (append_assoc (assigned_view rows) (row_flow row ∷ []) rest
    ∙ (ap (λ (f : Arc × ℕ). assigned_view rows ++ f ∷ rest) same ∙ before)))
