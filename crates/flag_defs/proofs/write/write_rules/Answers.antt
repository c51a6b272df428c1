use Rattle.std.proofs.Common.{codes, option_map, string_bytes, ap, ap₂, sym, ◌∙◌}
use Rattle.flag_text.specs.Shape.{text, object, no_members, member}
use Rattle.flag_text.specs.View.{view as tree_view, members_view}
use Rattle.flag_text.specs.declared.tree.Tree.TheVariants.{Object, Text}
use Rattle.logic_ast.specs.Expr.{view}
use Rattle.logic_ast.proofs.Trees.{view-object}
use Rattle.flag_defs.specs.Document.{with_default, with_targeting}
use Rattle.flag_defs.specs.Members.{followed_by}
use Rattle.flag_defs.proofs.Followed.{followed_end}
use Rattle.flag_defs.proofs.Trees.{view-text}
use Rattle.flag_defs.proofs.write.write_rules.Goals as goal

pub returns : goal.returns
returns c =
    let rules = c.args.rules.now in
    let name = option_map string_bytes rules.default_variant in
    let targeting = option_map view rules.targeting in
    let variants = c.in_ok-copy_members.field-0 in
    let state = c.in_ok-state_text.field-0 in
    let of_variants = member (codes "variants") (tree_view (Object variants)) no_members in
    let of_state = member (codes "state") (tree_view (Text state)) (with_targeting targeting of_variants) in
    let seen_variants = view-object variants ∙ ap object (c.in_ok-copy_members.ensures ∙ ap members_view c.as_slice.ensures.value) in
    let seen_state = view-text state ∙ ap text c.in_ok-state_text.ensures in
    ap object (sym (followed_end c.push_member-2.new.members.items)
    ∙ (c.in_ok-push_member-2.ensures no_members
    ∙ (c.in_ok-push_targeting.ensures of_variants
    ∙ (c.in_ok-push_member.ensures (with_targeting targeting of_variants)
    ∙ (c.in_ok-push_default.ensures of_state
    ∙ (ap (λ xs. followed_by xs (with_default name of_state)) c.new-members.ensures.items
    ∙ ap₂ (λ s v. with_default name (member (codes "state") s (with_targeting targeting (member (codes "variants") v no_members)))) seen_state seen_variants))))))
