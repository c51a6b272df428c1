-- Values by their kind.
use Rattle.std.proofs.Common.{◌≡◌, Bool, map, Vec, Global, refl, ap, ◌∙◌}
use Rattle.std.specs.Prelude.{Box}
use Rattle.std.specs.Borrow.{Bor}
use Rattle.flag_text.specs.declared.tree.Tree.{Tree}
use Rattle.flag_text.specs.Shape.{null, boolean, list}
use Rattle.flag_text.specs.View.{view, items_of}
use Rattle.logic_values.specs.declared.part.Part.{Part}
use Rattle.logic_values.specs.declared.value.Value.{Value, the_lemmas}
use Rattle.logic_values.specs.declared.value.Value.TheVariants as value
use Rattle.logic_values.specs.Lists.{items_in}
use Rattle.logic_values.specs.Objects.{reduce_scope}
use Rattle.logic_values.specs.Views.{value_view}
use Rattle.logic_values.proofs.Items.{shapes_of_items}

pub value_items : (v : Vec Value Global) → value_view (value.Items v) ≡ list (items_of (map value_view v.items))
value_items v = simp the_lemmas refl

pub value_null : value_view value.Null ≡ null
value_null = simp the_lemmas refl

pub value_bool : (b : Bool) → value_view (value.Bool b) ≡ boolean b
value_bool b = simp the_lemmas refl

pub in_items : (v : Vec Value Global) → items_in (value_view (value.Items v)) ≡ map value_view v.items
in_items v = ap items_in (value_items v) ∙ shapes_of_items (map value_view v.items)

pub value_lent : (t : Bor Tree) → value_view (value.Lent t) ≡ view t.now
value_lent t = simp the_lemmas refl

pub value_given : (p : Part) → value_view (value.Given p) ≡ view p.tree.now
value_given p = simp the_lemmas refl

pub value_fold : (so_far current : Box Value Global) → value_view (value.Fold so_far current) ≡ reduce_scope (value_view so_far.value) (value_view current.value)
value_fold so_far current = simp the_lemmas refl
