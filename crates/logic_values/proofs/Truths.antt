-- Truth of lists.
use Rattle.std.proofs.Common.{◌≡◌, ℕ, suc, List, [], ◌∷◌, length, eqb, Bool, false, map, Vec, Global, refl, sym, arith, ap}
use Rattle.std.specs.Prelude.{not}
use Rattle.flag_text.specs.declared.tree.Tree.{Tree, the_lemmas}
use Rattle.flag_text.specs.declared.tree.Tree.TheVariants as tree
use Rattle.flag_text.specs.Shape.{Shape, list, null, boolean}
use Rattle.flag_text.specs.View.{view, items_of, items_view}
use Rattle.logic_values.specs.Truth.{is_true}

pub view_list : (v : Vec Tree Global) → view (tree.List v) ≡ list (items_view v.items)
view_list v = simp the_lemmas refl

pub view_null : view tree.Null ≡ null
view_null = simp the_lemmas refl

pub view_bool : (b : Bool) → view (tree.Bool b) ≡ boolean b
view_bool b = simp the_lemmas refl

suc_not_zero : (n : ℕ) → eqb (suc n) 0 ≡ false
suc_not_zero n = grind arith

pub is_true_list : {A : Type 0} (f : A → Shape) (xs : List A) → is_true (list (items_of (map f xs))) ≡ not (eqb (length xs) 0)
is_true_list f [] = refl
is_true_list f (x ∷ xs) = sym (ap not (suc_not_zero (length xs)))
