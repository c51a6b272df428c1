-- The row that stands there has the number, and the name of its family.
use Rattle.std.proofs.Common.{◌≡◌, ◌==◌, ℕ, List, Bor, length, get_or, Some, option_map, refl, ap, ap₂, ◌∙◌}
use Rattle.std.specs.List.{slice_get}
use Rattle.std.specs.Map.{keys_of}
use Rattle.std.proofs.lemmas.Bool.{OnTrue_from, eqb-true}
use Rattle.std.proofs.lemmas.Option.{slice_get-map, slice_get_read}
use Rattle.transport_core.specs.Groups.{GroupKey, row_view, rows_view}
use Rattle.transport_plan.proofs.Places.{keys-rows}
use Rattle.transport_plan.proofs.placing.stands_at.Goals as goal

pub returns-then-number-count-clause-place : goal.returns-then-number-count-clause-place
returns-then-number-count-clause-place c =
    OnTrue_from (get_or c.args.families.now c.args.place 0 == get_or c.args.families.now c.args.other 0)
    ((name : List ℕ) (known : ℕ) → slice_get (keys_of (rows_view c.args.groups.now)) c.args.other ≡ Some (name, known) → slice_get (keys_of (rows_view c.args.groups.now)) c.args.place ≡ Some (name, c.args.count))
    (λ same name known stands.
    let rows = c.args.groups.now in
    let key : (Bor (List ℕ) × ℕ) × ℕ → GroupKey = λ r. (row_view r).0 in
    let row = c.in-Some.field-0.now in
    let found : slice_get rows c.args.place ≡ Some row = slice_get_read rows (length rows) c.args.place row refl c.in-Some.ensures.lookup.3.0 c.in-Some.ensures.lookup.1 in
    let here : slice_get (keys_of (rows_view rows)) c.args.place ≡ Some (key row) = ap (λ ks. slice_get ks c.args.place) (keys-rows rows) ∙ (slice_get-map key rows c.args.place ∙ ap (option_map key) found) in
    let g : GroupKey = (name, known) in
    let named : row.0.0.now ≡ name = c.requires.families c.args.place c.args.other (key row) g here stands (eqb-true (get_or c.args.families.now c.args.place 0) (get_or c.args.families.now c.args.other 0) same) in
    let many : row.0.1 ≡ c.args.count = c.if-number-count.true in
    here ∙ ap₂ (λ n k. let h : GroupKey = (n, k) in Some h) named many)
