-- What an object of a tree is seen as.
use Rattle.std.proofs.Common.{◌≡◌, List, [], ◌∷◌, map, String, Vec, Global, string_bytes, refl, sym, ap, ◌∙◌}
use Rattle.flag_text.specs.Shape.{Shape, object, member}
use Rattle.flag_text.specs.View.{view, view_step, members_of, members_view}
use Rattle.flag_text.specs.declared.tree.Tree.{Tree, fold-roll-Tree}
use Rattle.flag_text.specs.declared.tree.Tree.TheVariants.{Object, rolls-Object}

members-seen : (h : String Global × Tree → String Global × Shape) → ((m : String Global × Tree) → h m ≡ (m.0, view m.1)) → (ms : List (String Global × Tree))
    → members_of (map h ms) ≡ members_view ms
members-seen h e [] = refl
members-seen h e (m ∷ ms) = ap (λ p. member (string_bytes p.0) p.1 (members_of (map h ms))) (e m) ∙ ap (member (string_bytes m.0) (view m.1)) (members-seen h e ms)

pub view-object : (ms : Vec (String Global × Tree) Global) → view (Object ms) ≡ object (members_view ms.items)
view-object ms = ap view (sym (rolls-Object ms)) ∙ (fold-roll-Tree Shape view_step _ ∙ ap object (members-seen _ (λ m. refl) ms.items))
