use Rattle.std.proofs.Common.{◌≡◌, ◌<◌, length, drop, option_map, rules, Some, None, false, sym, ap, ◌∙◌, subst, arith}
use Rattle.flag_text.proofs.Halving.{name_of}
use Rattle.flag_text.specs.Shape.{list}
use Rattle.flag_text.specs.View.{view, items_view, members_view}
use Rattle.logic_ast.specs.FirstFault.{item_count}
use Rattle.logic_ast.specs.Operator.{is_fractional}
use Rattle.flag_references.specs.Measure.{known, parts_measured, members_measured, measured, list_measure, literal_measure, operation_measure}
use Rattle.flag_references.specs.Extent.{extent, operation_extent}
use Rattle.flag_references.proofs.Expansions.{view-list}
use Rattle.flag_references.proofs.Extents.{Adds, adds-first, adds-next, adds-all, items-without, operation-extent, operation-object}
use Rattle.flag_references.proofs.Objects.{item_count-items, one-operation, object_measured-many}
use Rattle.flag_references.proofs.inlined_measure.+measured.Goals as goal

pub list_measured-returns : goal.list_measured-returns
list_measured-returns t c =
    let refer = known (members_view c.args.table.now.members) c.args.table.now.measures in
    let items = c.args.items.now.items in
    let parts = c.loop-i.parts in
    let z : c.loop-i.i ≡ 0 = omega arith in
    let all : parts_measured refer (items_view items) ≡ parts = ap (λ k. parts_measured refer (items_view (drop k items))) (sym z) ∙ c.loop-i.invariant in
    let count : c.len.result ≡ item_count (items_view items) = omega (arith, item_count-items items, c.len.ensures) in
    c.list_measure.ensures ∙ (ap (λ n. option_map (list_measure n) parts) count ∙ ap (option_map (list_measure (item_count (items_view items)))) (sym all))

pub object_measured-returns-then-len-eq1 : goal.object_measured-returns-then-len-eq1
object_measured-returns-then-len-eq1 t c =
    let refer = known (members_view c.args.table.now.members) c.args.table.now.measures in
    let m = c.index.result.now in
    let one = one-operation refer c.args.members.now.items m c.index.ensures (omega (arith, c.len.ensures)) in
    c.object_of.ensures ∙ rw (c.operation_extent.ensures, c.as_str.ensures.value) (operation-object (name_of m) (measured refer (view m.1)) ∙ one)

pub object_measured-returns : goal.object_measured-returns
object_measured-returns t c =
    let refer = known (members_view c.args.table.now.members) c.args.table.now.measures in
    c.literal_measured.ensures ∙ sym (object_measured-many refer c.args.members.now.items (omega (arith, c.len.ensures)))

pub literal_measured-returns : goal.literal_measured-returns
literal_measured-returns t c =
    let refer = known (members_view c.args.table.now.members) c.args.table.now.measures in
    let ms = c.args.members.now.items in
    let z : c.loop-i.i ≡ 0 = omega arith in
    let all : members_measured refer (members_view ms) ≡ c.loop-i.all = ap (λ k. members_measured refer (members_view (drop k ms))) (sym z) ∙ c.loop-i.invariant in
    c.literal_measure.ensures ∙ ap (option_map literal_measure) (sym all)

pub object_extent-returns-then-len-eq1 : goal.object_extent-returns-then-len-eq1
object_extent-returns-then-len-eq1 t c =
    let refer = known (members_view c.args.table.now.members) c.args.table.now.measures in
    let one = one-operation refer c.args.members.now.items c.index.result.now c.index.ensures (omega (arith, c.len.ensures)) in
    c.operation_extent.ensures ∙ rw c.as_str.ensures.value (ap (option_map extent) one)

pub object_extent-returns : goal.object_extent-returns
object_extent-returns t c =
    let refer = known (members_view c.args.table.now.members) c.args.table.now.measures in
    c.extent_of.ensures ∙ ap (option_map extent) (c.literal_measured.ensures ∙ sym (object_measured-many refer c.args.members.now.items (omega (arith, c.len.ensures))))

pub items_extent-returns-in_err-item : goal.items_extent-returns-in_err-item
items_extent-returns-in_err-item t c =
    let refer = known (members_view c.args.table.now.members) c.args.table.now.measures in
    let none : c.item_extent.result ≡ None = search rules in
    let left : c.from_residual.result ≡ None = search rules in
    let within : c.loop-i.i < length c.args.items.now.items = search rules in
    let item = ap (λ x. option_map extent (measured refer (view x))) (sym c.index.ensures) ∙ (sym c.item_extent.ensures ∙ none) in
    left ∙ sym (items-without refer c.args.items.now.items (c.loop-i.i) c.index.result.now within item)

pub items_extent-loop-i-init : goal.items_extent-loop-i-init
items_extent-loop-i-init t c = adds-first (known (members_view c.args.table.now.members) c.args.table.now.measures) c.args.items.now.items

pub items_extent-loop-i-preserved : goal.items_extent-loop-i-preserved
items_extent-loop-i-preserved t c =
    let refer = known (members_view c.args.table.now.members) c.args.table.now.measures in
    let items = c.args.items.now.items in
    let some : c.item_extent.result ≡ Some c.in_ok-item.item = search rules in
    let within : c.loop-i.i < length items = search rules in
    let item = ap (λ x. option_map extent (measured refer (view x))) (sym c.index.ensures) ∙ (sym c.item_extent.ensures ∙ some) in
    subst (Adds refer items _) (sym c.beside-parts.ensures) (adds-next refer items c.loop-i.i c.index.result.now c.loop-i.parts c.in_ok-item.item within item c.loop-i.invariant)

pub items_extent-returns : goal.items_extent-returns
items_extent-returns t c =
    let refer = known (members_view c.args.table.now.members) c.args.table.now.measures in
    sym (adds-all refer c.args.items.now.items c.loop-i.i c.loop-i.parts (omega (arith, c.len-i-end.ensures)) c.loop-i.invariant)

pub operation_extent-returns-in_ok-items_extent-in-List : goal.operation_extent-returns-in_ok-items_extent-in-List
operation_extent-returns-in_ok-items_extent-in-List t c =
    let refer = known (members_view c.args.table.now.members) c.args.table.now.measures in
    let k = c.args.name.now in
    let items = c.in-List.items.items in
    let n = item_count (items_view items) in
    let some : c.items_extent.result ≡ Some c.in_ok-items_extent-in-List.field-0 = search rules in
    let seen : view c.args.member.now ≡ list (items_view items) = ap view c.in-List.is ∙ view-list _ in
    let plain : is_fractional k ≡ false = search rules in
    let count : c.len.result ≡ n = omega (arith, item_count-items items, c.len.ensures) in
    ap Some c.operation.ensures
    ∙ (ap (λ m. Some (operation_extent k m c.in_ok-items_extent-in-List.field-0)) count
    ∙ (ap (option_map (operation_extent k n)) (sym some ∙ c.items_extent.ensures) ∙ (sym (operation-extent k n (parts_measured refer (items_view items)) plain)
    ∙ ap (λ x. option_map extent (option_map (operation_measure k) (measured refer x))) (sym seen))))
