-- Lists, item by item.
use Rattle.std.proofs.Common.{◌≡◌, ℕ, suc, ◌+◌, ◌<◌, List, [], ◌∷◌, ◌++◌, length, get_or, drop, drop-cons, add-one, map, Vec, Global, refl, sym, ap, ◌∙◌}
use Rattle.std.proofs.lemmas.List.{map-append}
use Rattle.flag_text.specs.declared.tree.Tree.{Tree}
use Rattle.flag_text.specs.declared.tree.Tree.TheVariants as tree
use Rattle.flag_text.specs.Shape.{Shape}
use Rattle.flag_text.specs.View.{view, items_of}
use Rattle.logic_values.specs.Lists.{shapes_of, items_in}
use Rattle.logic_values.proofs.Truths.{view_list}

pub shapes_of_items : (ts : List Shape) → shapes_of (items_of ts) ≡ ts
shapes_of_items [] = refl
shapes_of_items (t ∷ ts) = ap (λ us. t ∷ us) (shapes_of_items ts)

pub items_in_list : (v : Vec Tree Global) → items_in (view (tree.List v)) ≡ map view v.items
items_in_list v = ap items_in (view_list v) ∙ shapes_of_items (map view v.items)

-- the first of what is left, where it is item i
pub drop_at : {X : Type 0} (xs : List X) (i : ℕ) (x : X) → i < length xs → x ≡ get_or xs i x → drop i xs ≡ x ∷ drop (i + 1) xs
drop_at xs i x h is = rw (add-one, drop-cons xs i x) (ap (λ y. y ∷ drop (suc i) xs) (sym is))

-- one more item of a list that is seen
pub pushed : {A B : Type 0} (f : A → B) (before new : List A) (a : A) (b : B) → new ≡ before ++ a ∷ [] → f a ≡ b → map f new ≡ map f before ++ b ∷ []
pushed f before new a b is e = ap (map f) is ∙ (map-append f before (a ∷ []) ∙ ap (λ c. map f before ++ c ∷ []) e)
