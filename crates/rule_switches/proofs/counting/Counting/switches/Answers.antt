-- one cell more
use Rattle.std.proofs.Common.{◌≡◌, ℕ, ◌+◌, ◌<◌, ◌≤◌, ◌^◌, List, [], ◌∷◌, drop, get_or, length, map, sum_by, refl, sym, ap, ◌∙◌, subst, arith}
use Rattle.std.specs.List.Sorted.{IsStrictlySortedBy}
use Rattle.std.specs.Map.{keys_of}
use Rattle.std.proofs.lemmas.List.{drop_all, drop_more}
use Rattle.exposures.specs.Exposure.{Inputs}
use Rattle.price_core.specs.Pricing.{lent_entry, pair_cmp}
use Rattle.rule_switches.specs.Counting.{AreRows, Counted, HasCounted, no_cell}
use Rattle.rule_switches.specs.Switches.{AreSwitches, rows_view}
use Rattle.rule_switches.specs.declared.counting.Cell.{Cell}
use Rattle.rule_switches.proofs.Counts.{rows_few, switches_counted}
use Rattle.rule_switches.proofs.Going.{GoesOn, goes_all, goes_more, goes_none, goes_room, made}
use Rattle.rule_switches.proofs.counting.Counting.switches.Goals as goal

pub loop-cell-init : goal.loop-cell-init
loop-cell-init c =
    let k : Counted = record { before = c.self.inside.before.now; after = c.self.inside.after.now; span = c.self.inside.span; inputs = c.self.inside.inputs; cells = c.self.inside.cells.items } in
    subst (λ (s : Counted). GoesOn s c.new-rows.result.entries (drop 0 s.cells)) c.self.view_is (goes_none k c.new-rows.result.entries (drop 0 k.cells) c.new-rows.ensures.empty refl c.self.invariant.whole)

pub add_cell-requires-clause-room : goal.add_cell-requires-clause-room
add_cell-requires-clause-room c =
    let k : Counted = record { before = c.self.inside.before.now; after = c.self.inside.after.now; span = c.self.inside.span; inputs = c.self.inside.inputs; cells = c.self.inside.cells.items } in
    let l = c.loop-cell in
    let items = c.deref-cell-items.result.now in
    let low : l.cell-index < length items = omega (arith, c.loop-cell-test.true) in
    let goes : GoesOn k l.rows.entries (drop l.cell-index k.cells) = subst (λ (s : Counted). GoesOn s l.rows.entries (drop l.cell-index s.cells)) (sym c.self.view_is) l.invariant in
    let here : GoesOn k l.rows.entries (get_or items l.cell-index no_cell ∷ drop (l.cell-index + 1) items) =
    subst (λ (cs : List Cell). GoesOn k l.rows.entries cs) (ap (λ (cs : List Cell). drop l.cell-index cs) (sym c.deref-cell-items.ensures.value) ∙ drop_more items l.cell-index no_cell low) goes in
    goes_room k l.rows.entries (get_or items l.cell-index no_cell) (drop (l.cell-index + 1) items) here c.self.invariant.few

pub loop-cell-preserved : goal.loop-cell-preserved
loop-cell-preserved c =
    let k : Counted = record { before = c.self.inside.before.now; after = c.self.inside.after.now; span = c.self.inside.span; inputs = c.self.inside.inputs; cells = c.self.inside.cells.items } in
    let l = c.loop-cell in
    let items = c.deref-cell-items.result.now in
    let more = c.add_cell.new.rows.entries in
    let low : l.cell-index < length items = omega (arith, c.loop-cell-test.true) in
    let goes : GoesOn k l.rows.entries (drop l.cell-index k.cells) = subst (λ (s : Counted). GoesOn s l.rows.entries (drop l.cell-index s.cells)) (sym c.self.view_is) l.invariant in
    let here : GoesOn k l.rows.entries (get_or items l.cell-index no_cell ∷ drop (l.cell-index + 1) items) =
    subst (λ (cs : List Cell). GoesOn k l.rows.entries cs) (ap (λ (cs : List Cell). drop l.cell-index cs) (sym c.deref-cell-items.ensures.value) ∙ drop_more items l.cell-index no_cell low) goes in
    let next : GoesOn k more (drop (l.cell-index + 1) items) = goes_more k l.rows.entries more (get_or items l.cell-index no_cell) (drop (l.cell-index + 1) items) here c.in_ok-add_cell.ensures.some c.in_ok-add_cell.ensures.numbers in
    let back : GoesOn k more (drop (l.cell-index + 1) k.cells) = subst (λ (cs : List Cell). GoesOn k more (drop (l.cell-index + 1) cs)) c.deref-cell-items.ensures.value next in
    subst (λ (s : Counted). GoesOn s more (drop (l.cell-index + 1) s.cells)) c.self.view_is back

pub returns-clause-rows : goal.returns-clause-rows
returns-clause-rows c =
    let s = c.args.self.now in
    let l = c.loop-cell in
    let cells : c.deref-cell-items.result.now ≡ s.cells = c.deref-cell-items.ensures.value ∙ ap (λ (s : Counted). s.cells) c.self.view_is in
    let past : length s.cells ≤ l.cell-index = omega (arith, c.loop-cell-test.false, ap length cells) in
    let none : drop l.cell-index s.cells ≡ [] = drop_all l.cell-index s.cells past in
    made c.listed.result (λ v. rows_view v.items ≡ map lent_entry l.rows.entries) (λ v. IsStrictlySortedBy pair_cmp (keys_of (rows_view v.items))) (λ v. AreRows s (rows_view v.items)) c.listed.ensures.rows c.listed.ensures.rise
    (λ v is rise. goes_all s l.rows.entries (drop l.cell-index s.cells) (rows_view v.items) l.invariant none is rise)

pub returns-clause-few : goal.returns-clause-few
returns-clause-few c =
    let s = c.args.self.now in
    let l = c.loop-cell in
    let cells : c.deref-cell-items.result.now ≡ s.cells = c.deref-cell-items.ensures.value ∙ ap (λ (s : Counted). s.cells) c.self.view_is in
    let past : length s.cells ≤ l.cell-index = omega (arith, c.loop-cell-test.false, ap length cells) in
    let none : drop l.cell-index s.cells ≡ [] = drop_all l.cell-index s.cells past in
    let whole = subst (λ (s : Counted). sum_by (λ (d : Cell). d.users) s.cells ≡ s.inputs) c.self.view_is c.self.invariant.whole in
    made c.listed.result (λ v. rows_view v.items ≡ map lent_entry l.rows.entries) (λ v. IsStrictlySortedBy pair_cmp (keys_of (rows_view v.items))) (λ v. sum_by (λ r. r.1) (rows_view v.items) ≤ s.inputs) c.listed.ensures.rows c.listed.ensures.rise
    (λ v is rise. rows_few s (rows_view v.items) (goes_all s l.rows.entries (drop l.cell-index s.cells) (rows_view v.items) l.invariant none is rise) whole)

pub returns-clause-each : goal.returns-clause-each
returns-clause-each c =
    let s = c.args.self.now in
    let l = c.loop-cell in
    let cells : c.deref-cell-items.result.now ≡ s.cells = c.deref-cell-items.ensures.value ∙ ap (λ (s : Counted). s.cells) c.self.view_is in
    let past : length s.cells ≤ l.cell-index = omega (arith, c.loop-cell-test.false, ap length cells) in
    let none : drop l.cell-index s.cells ≡ [] = drop_all l.cell-index s.cells past in
    made c.listed.result (λ v. rows_view v.items ≡ map lent_entry l.rows.entries) (λ v. IsStrictlySortedBy pair_cmp (keys_of (rows_view v.items))) (λ v. (inputs : Inputs) → HasCounted s inputs → AreSwitches s.before s.after inputs (rows_view v.items)) c.listed.ensures.rows c.listed.ensures.rise
    (λ v is rise inputs had. switches_counted s inputs (rows_view v.items) had (goes_all s l.rows.entries (drop l.cell-index s.cells) (rows_view v.items) l.invariant none is rise))
