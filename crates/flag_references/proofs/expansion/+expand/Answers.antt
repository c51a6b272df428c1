use Rattle.std.proofs.Common.{◌<◌, length, get_or, sym, ap, ◌∙◌, subst, arith, add-one}
use Rattle.flag_text.specs.View.{view, items_view, members_view}
use Rattle.flag_text.proofs.Halving.{name_of}
use Rattle.flag_text.proofs.Views.{Named}
use Rattle.flag_references.specs.Inlining.{IsInlined}
use Rattle.flag_references.specs.Forms.{HasForm, ItemsHaveForms, MembersHaveForms}
use Rattle.flag_references.proofs.Expansions.{end-inlined, list-end, list-whole, object-end, object-whole, item-form, member-form}
use Rattle.flag_references.proofs.Heads.{end_here}
use Rattle.flag_references.proofs.InPlace.{still, behind, AreInlined-set, MembersAreInlined-set}
use Rattle.flag_references.proofs.expansion.+expand.Goals as goal

pub expand-returns-in-Some : goal.expand-returns-in-Some
expand-returns-in-Some t c =
    end-inlined (members_view c.args.evaluators.now) c.args.most (view c.args.tree.now) (view c.in-Some.end.now) (view c.in_ok-tree.field-0) c.in-Some.ensures c.requires c.in_ok-tree.ensures

pub expand-expand_items-requires : goal.expand-expand_items-requires
expand-expand_items-requires t c =
    let evaluators = members_view c.args.evaluators.now in
    let tree = c.args.tree.now in
    let f = list-end evaluators c.args.most (view tree) tree c.in-List.items (sym c.replace.ensures.value ∙ c.in-List.is) (end_here evaluators (view tree) c.in_default.ensures) c.requires in
    (omega (arith, c.decreases, f.0), f.1)

pub expand-expand_members-requires : goal.expand-expand_members-requires
expand-expand_members-requires t c =
    let evaluators = members_view c.args.evaluators.now in
    let tree = c.args.tree.now in
    let f = object-end evaluators c.args.most (view tree) tree c.in-Object.members (sym c.replace.ensures.value ∙ c.in-Object.is) (end_here evaluators (view tree) c.in_default.ensures) c.requires in
    (omega (arith, c.decreases, f.0), f.1)

pub expand-returns-in_ok-expand_items-in-List : goal.expand-returns-in_ok-expand_items-in-List
expand-returns-in_ok-expand_items-in-List t c =
    let evaluators = members_view c.args.evaluators.now in
    let tree = c.args.tree.now in
    list-whole evaluators c.args.most (view tree) tree c.in-List.items c.expand_items.new.items (sym c.replace.ensures.value ∙ c.in-List.is) (end_here evaluators (view tree) c.in_default.ensures) c.requires c.in_ok-expand_items-in-List.ensures

pub expand-returns-in_ok-expand_members-in-Object : goal.expand-returns-in_ok-expand_members-in-Object
expand-returns-in_ok-expand_members-in-Object t c =
    let evaluators = members_view c.args.evaluators.now in
    let tree = c.args.tree.now in
    object-whole evaluators c.args.most (view tree) tree c.in-Object.members c.expand_members.new.members (sym c.replace.ensures.value ∙ c.in-Object.is) (end_here evaluators (view tree) c.in_default.ensures) c.requires c.in_ok-expand_members-in-Object.ensures

pub expand_items-expand-requires : goal.expand_items-expand-requires
expand_items-expand-requires t c =
    let evaluators = members_view c.args.evaluators.now in
    let before = c.deref_mut-item-items.result.now in
    let items = c.loop-item.item-items in
    let i = c.loop-item.item-index in
    let old : i < length before = c.loop-item-test.true in
    let now : i < length items = omega (arith, c.loop-item.auto.item-items) in
    let f = item-form evaluators c.args.most before i c.item-item.result old (subst (λ xs. ItemsHaveForms evaluators c.args.most (items_view xs)) (sym c.deref_mut-item-items.ensures.value) c.requires) in
    let here : HasForm evaluators c.args.most (view (get_or items i c.item-item.result)) = subst (λ x. HasForm evaluators c.args.most (view x)) (sym (still before items i c.item-item.result old now c.loop-item.invariant.1)) f in
    (omega (arith, c.decreases), here)

pub expand_items-loop-item-preserved : goal.expand_items-loop-item-preserved
expand_items-loop-item-preserved t c =
    let evaluators = members_view c.args.evaluators.now in
    let before = c.deref_mut-item-items.result.now in
    let items = c.loop-item.item-items in
    let i = c.loop-item.item-index in
    let old : i < length before = c.loop-item-test.true in
    let now : i < length items = omega (arith, c.loop-item.auto.item-items) in
    let form : IsInlined evaluators (view (get_or before i c.item-item.result)) (view c.expand.new.tree) =
    subst (λ x. IsInlined evaluators (view x) (view c.expand.new.tree)) (still before items i c.item-item.result old now c.loop-item.invariant.1) c.in_ok-expand.ensures in
    rw add-one (AreInlined-set evaluators before items i c.item-item.result c.expand.new.tree old now c.loop-item.invariant.0 form, behind before items i c.expand.new.tree old now c.loop-item.invariant.1)

pub expand_members-expand-requires : goal.expand_members-expand-requires
expand_members-expand-requires t c =
    let evaluators = members_view c.args.evaluators.now in
    let before = c.deref_mut-member-items.result.now in
    let members = c.loop-member.member-items in
    let i = c.loop-member.member-index in
    let old : i < length before = c.loop-member-test.true in
    let now : i < length members = omega (arith, c.loop-member.auto.member-items) in
    let f = member-form evaluators c.args.most before i c.member-item.result old (subst (λ xs. MembersHaveForms evaluators c.args.most (members_view xs)) (sym c.deref_mut-member-items.ensures.value) c.requires) in
    let here : HasForm evaluators c.args.most (view (get_or members i c.member-item.result).1) = subst (λ x. HasForm evaluators c.args.most (view x.1)) (sym (still before members i c.member-item.result old now c.loop-member.invariant.1)) f in
    (omega (arith, c.decreases), here)

pub expand_members-loop-member-preserved : goal.expand_members-loop-member-preserved
expand_members-loop-member-preserved t c =
    let evaluators = members_view c.args.evaluators.now in
    let before = c.deref_mut-member-items.result.now in
    let members = c.loop-member.member-items in
    let i = c.loop-member.member-index in
    let d = c.member-item.result in
    let n : Named = ((get_or members i d).0, c.expand.new.tree) in
    let old : i < length before = c.loop-member-test.true in
    let now : i < length members = omega (arith, c.loop-member.auto.member-items) in
    let same = still before members i d old now c.loop-member.invariant.1 in
    let form : IsInlined evaluators (view (get_or before i d).1) (view c.expand.new.tree) = subst (λ x. IsInlined evaluators (view x.1) (view c.expand.new.tree)) same c.in_ok-expand.ensures in
    rw add-one (MembersAreInlined-set evaluators before members i d n old now c.loop-member.invariant.0 (ap name_of (sym same)) form, behind before members i n old now c.loop-member.invariant.1)
