use Rattle.std.proofs.Common.{◌≡◌, ◌<◌, length, get_or, string_bytes, sym, ap, ◌∙◌, subst, true, arith, rules, add-one}
use Rattle.flag_text.specs.declared.tree.Tree.{the_lemmas as tree_lemmas}
use Rattle.flag_text.specs.View.{view, items_view, members_view}
use Rattle.flag_text.proofs.Halving.{name_of}
use Rattle.flag_references.specs.Inlining.{IsInlined}
use Rattle.flag_references.specs.Forms.{HasForm, ItemsHaveForms, MembersHaveForms}
use Rattle.flag_references.proofs.Expansions.{list-end, list-whole, object-end, object-whole, is_scalar, scalar-whole, item-form, member-form, AreInlined-more, MembersAreInlined-more}
use Rattle.flag_references.proofs.expansion.+expanded.Goals as goal

pub expanded-end_of-end-requires : goal.expanded-end_of-end-requires
expanded-end_of-end-requires t c = record { found = (c.requires.0, c.requires.1) }

pub expanded-overflow_sub-most : goal.expanded-overflow_sub-most
expanded-overflow_sub-most t c =
    (list-end (members_view c.args.evaluators.now) c.args.most (view c.args.tree.now) c.end_of-end.result.now c.in-List.items c.in-List.is c.end_of-end.ensures c.requires).0

pub expanded-expanded_items-requires : goal.expanded-expanded_items-requires
expanded-expanded_items-requires t c =
    let f = list-end (members_view c.args.evaluators.now) c.args.most (view c.args.tree.now) c.end_of-end.result.now c.in-List.items c.in-List.is c.end_of-end.ensures c.requires in
    (omega (arith, c.decreases, f.0), f.1)

pub expanded-overflow_sub-most-in-Object : goal.expanded-overflow_sub-most-in-Object
expanded-overflow_sub-most-in-Object t c =
    (object-end (members_view c.args.evaluators.now) c.args.most (view c.args.tree.now) c.end_of-end.result.now c.in-Object.members c.in-Object.is c.end_of-end.ensures c.requires).0

pub expanded-expanded_members-requires : goal.expanded-expanded_members-requires
expanded-expanded_members-requires t c =
    let f = object-end (members_view c.args.evaluators.now) c.args.most (view c.args.tree.now) c.end_of-end.result.now c.in-Object.members c.in-Object.is c.end_of-end.ensures c.requires in
    (omega (arith, c.decreases, f.0), f.1)

pub expanded-returns-in_ok-forms-in-List : goal.expanded-returns-in_ok-forms-in-List
expanded-returns-in_ok-forms-in-List t c =
    list-whole (members_view c.args.evaluators.now) c.args.most (view c.args.tree.now) c.end_of-end.result.now c.in-List.items c.in_ok-forms-in-List.forms c.in-List.is c.end_of-end.ensures
    c.requires c.in_ok-forms-in-List.ensures

pub expanded-returns-in_ok-forms-in-Object : goal.expanded-returns-in_ok-forms-in-Object
expanded-returns-in_ok-forms-in-Object t c =
    object-whole (members_view c.args.evaluators.now) c.args.most (view c.args.tree.now) c.end_of-end.result.now c.in-Object.members c.in_ok-forms-in-Object.forms c.in-Object.is
    c.end_of-end.ensures c.requires c.in_ok-forms-in-Object.ensures

pub expanded-returns-in_default : goal.expanded-returns-in_default
expanded-returns-in_default t c =
    let end = view c.end_of-end.result.now in
    let scalar : is_scalar end ≡ true = search (rules, tree_lemmas) in
    scalar-whole (members_view c.args.evaluators.now) c.args.most (view c.args.tree.now) end scalar c.end_of-end.ensures c.requires c.copy.result c.copy.ensures

pub expanded_items-expanded-requires : goal.expanded_items-expanded-requires
expanded_items-expanded-requires t c =
    let evaluators = members_view c.args.evaluators.now in
    let items = c.deref-item-items.result.now in
    let within : c.loop-item.item-index < length items = omega arith in
    let f = item-form evaluators c.args.most items c.loop-item.item-index c.item-item.result within
    (subst (λ xs. ItemsHaveForms evaluators c.args.most (items_view xs)) (sym c.deref-item-items.ensures.value) c.requires) in
    let here : HasForm evaluators c.args.most (view c.item-item.result) = subst (λ x. HasForm evaluators c.args.most (view x)) (sym c.item-item.is) f in
    (omega (arith, c.decreases), here)

pub expanded_items-loop-item-preserved : goal.expanded_items-loop-item-preserved
expanded_items-loop-item-preserved t c =
    let evaluators = members_view c.args.evaluators.now in
    let items = c.deref-item-items.result.now in
    let i = c.loop-item.item-index in
    let within : i < length items = omega arith in
    let form : IsInlined evaluators (view (get_or items i c.item-item.result)) (view c.in_ok-form.form) =
    subst (λ x. IsInlined evaluators (view x) (view c.in_ok-form.form)) c.item-item.is c.in_ok-form.ensures in
    let more = AreInlined-more evaluators items c.loop-item.forms.items i c.item-item.result c.in_ok-form.form within c.loop-item.invariant form in
    rw (add-one, c.in_ok-push.ensures.items) more

pub expanded_members-expanded-requires : goal.expanded_members-expanded-requires
expanded_members-expanded-requires t c =
    let evaluators = members_view c.args.evaluators.now in
    let members = c.deref-name-items.result.now in
    let within : c.loop-name.name-index < length members = omega arith in
    let f = member-form evaluators c.args.most members c.loop-name.name-index c.loop-name-item.result within
    (subst (λ xs. MembersHaveForms evaluators c.args.most (members_view xs)) (sym c.deref-name-items.ensures.value) c.requires) in
    let here : HasForm evaluators c.args.most (view c.loop-name-item.result.1) = subst (λ x. HasForm evaluators c.args.most (view x.1)) (sym c.loop-name-item.is) f in
    (omega (arith, c.decreases), here)

pub expanded_members-loop-name-preserved : goal.expanded_members-loop-name-preserved
expanded_members-loop-name-preserved t c =
    let evaluators = members_view c.args.evaluators.now in
    let members = c.deref-name-items.result.now in
    let i = c.loop-name.name-index in
    let within : i < length members = omega arith in
    let form : IsInlined evaluators (view (get_or members i c.loop-name-item.result).1) (view c.in_ok-form.form) =
    subst (λ x. IsInlined evaluators (view x.1) (view c.in_ok-form.form)) c.loop-name-item.is c.in_ok-form.ensures in
    let named : name_of (get_or members i c.loop-name-item.result) ≡ string_bytes c.in_ok-clone.field-0 = sym (c.in_ok-clone.ensures.cases ∙ ap name_of c.loop-name-item.is) in
    let more = MembersAreInlined-more evaluators members c.loop-name.forms.items i c.loop-name-item.result (c.in_ok-clone.field-0, c.in_ok-form.form) within c.loop-name.invariant named form in
    rw (add-one, c.in_ok-push.ensures.items) more
