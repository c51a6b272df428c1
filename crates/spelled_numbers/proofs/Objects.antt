-- Objects that stand for numbers.
use Rattle.std.proofs.Common.{◌≡◌, ◌≤◌, suc, true, false, List, [], ◌∷◌, length, Vec, Global, refl, ap, ◌∙◌, rules, arith}
use Rattle.std.specs.Prelude.{String}
use Rattle.flag_text.specs.Shape.{object}
use Rattle.flag_text.specs.View.{view, members_view}
use Rattle.flag_text.specs.declared.tree.Tree.{Tree, the_lemmas}
use Rattle.flag_text.specs.declared.tree.Tree.TheVariants as tree
use Rattle.spelled_numbers.specs.Levels.{sent_levels, sent_members_levels, stand_for_number}

pub view_object : (v : Vec (String Global × Tree) Global) → view (tree.Object v) ≡ object (members_view v.items)
view_object v = search (rules, the_lemmas)

pub two_members : (ms : List (String Global × Tree)) → 2 ≤ length ms → stand_for_number (members_view ms) ≡ false
two_members (a ∷ b ∷ ms) h = refl
two_members (a ∷ []) h = absurd (omega (arith, h))
two_members [] h = absurd (omega (arith, h))

pub levels_number : (t : Tree) (v : Vec (String Global × Tree) Global) → t ≡ tree.Object v → stand_for_number (members_view v.items) ≡ true → sent_levels (view t) ≡ 0
levels_number t v is e = ap (λ x. sent_levels (view x)) is ∙ (ap sent_levels (view_object v) ∙ rw e refl)

pub levels_object : (t : Tree) (v : Vec (String Global × Tree) Global) → t ≡ tree.Object v → stand_for_number (members_view v.items) ≡ false → sent_levels (view t) ≡ suc (sent_members_levels (members_view v.items))
levels_object t v is e = ap (λ x. sent_levels (view x)) is ∙ (ap sent_levels (view_object v) ∙ rw e refl)
