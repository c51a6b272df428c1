use Rattle.std.proofs.Common.{◌≡◌, ◌∷◌, [], List, pos, ◌∙◌, rules}
use Rattle.flag_text.specs.View.{view}
use Rattle.book_core.proofs.Cut.{view-Object}
use Rattle.note_tallies.proofs.FileHeads.{Member, seven}
use Rattle.note_tallies.proofs.head.head_tree.Goals as goal

pub returns-clause-tree : goal.returns-clause-tree
returns-clause-tree c =
    let a : Member = c.in_ok-by_member.field-0 in
    let b : Member = c.in_ok-member.field-0 in
    let d : Member = c.in_ok-flag_member.field-0 in
    let e : Member = c.in_ok-whole_member.field-0 in
    let f : Member = c.in_ok-member-2.field-0 in
    let g : Member = c.in_ok-site_member.field-0 in
    let h : Member = c.in_ok-whole_member-2.field-0 in
    let v = c.in_ok-from_array.field-0 in
    let all : v.items ≡ a ∷ b ∷ d ∷ e ∷ f ∷ g ∷ h ∷ [] = search rules in
    view-Object v
    ∙ seven v.items a b d e f g h c.args.page.now (view c.args.first) (view c.args.last) (pos c.args.inputs) (pos c.args.total) all
    (c.in_ok-by_member.ensures.name, c.in_ok-by_member.ensures.tree)
    (c.in_ok-member.ensures.name, c.in_ok-member.ensures.tree)
    (c.in_ok-flag_member.ensures.name, c.in_ok-flag_member.ensures.tree)
    (c.in_ok-whole_member.ensures.name, c.in_ok-whole_member.ensures.tree)
    (c.in_ok-member-2.ensures.name, c.in_ok-member-2.ensures.tree)
    (c.in_ok-site_member.ensures.name, c.in_ok-site_member.ensures.tree)
    (c.in_ok-whole_member-2.ensures.name, c.in_ok-whole_member-2.ensures.tree)
