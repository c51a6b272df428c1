-- The items of a list of the context, whose objects have names that rise.
use Rattle.std.proofs.Common.{◌≡◌, ℕ, zero, suc, ◌+◌, ◌<◌, List, [], ◌∷◌, ◌++◌, length, get_or, drop, map, true, Some, sym, ap, ◌∙◌, arith}
use Rattle.std.proofs.lemmas.List.{append_assoc}
use Rattle.flag_text.specs.declared.tree.Tree.{Tree}
use Rattle.flag_text.specs.Readers.{as_list}
use Rattle.flag_text.specs.Shape.{Shape, null, boolean, whole, other, text, list, object, Items, is_tidy, items_are_tidy}
use Rattle.flag_text.specs.View.{view, items_view}
use Rattle.flag_text.proofs.Bools.{left, right}
use Rattle.logic_values.specs.Views.{value_view}
use Rattle.logic_values.specs.declared.part.Part.{Part}
use Rattle.logic_values.specs.declared.value.Value.{Value}
use Rattle.logic_values.specs.declared.value.Value.TheVariants as value
use Rattle.logic_values.proofs.Items.{drop_at, pushed}
use Rattle.logic_values.proofs.Surfaces.{value_given}

pub item_tidy : (ts : List Tree) (i : ℕ) (t : Tree) → items_are_tidy (items_view ts) ≡ true → i < length ts → t ≡ get_or ts i t → is_tidy (view t) ≡ true
item_tidy [] i t h within is = absurd (omega arith)
item_tidy (u ∷ ts) zero t h within is = ap (λ v. is_tidy (view v)) is ∙ left (is_tidy (view u)) _ h
item_tidy (u ∷ ts) (suc i) t h within is = item_tidy ts i t (right (is_tidy (view u)) _ h) (omega arith) is

pub items_tidy : (t : Shape) (us : Items) → Some us ≡ as_list t → is_tidy t ≡ true → items_are_tidy us ≡ true
items_tidy null us e h = cc
items_tidy (boolean b) us e h = cc
items_tidy (whole n) us e h = cc
items_tidy other us e h = cc
items_tidy (text s) us e h = cc
items_tidy (list vs) us e h = let same : us ≡ vs = cc in ap items_are_tidy same ∙ h
items_tidy (object ms) us e h = cc

-- one more item of the list is given
pub one_more : (old new : List Value) (p : Part) (ts : List Tree) (i : ℕ) → new ≡ old ++ value.Given p ∷ [] → i < length ts → p.tree.now ≡ get_or ts i p.tree.now
    → map value_view new ++ map view (drop (i + 1) ts) ≡ map value_view old ++ map view (drop i ts)
one_more old new p ts i grown within is =
    ap (λ vs. vs ++ map view (drop (i + 1) ts)) (pushed value_view old new (value.Given p) (view p.tree.now) grown (value_given p))
    ∙ (append_assoc (map value_view old) (view p.tree.now ∷ []) (map view (drop (i + 1) ts))
    ∙ ap (λ us. map value_view old ++ map view us) (sym (drop_at ts i p.tree.now within is)))
