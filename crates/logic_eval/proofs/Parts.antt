-- What is found in a part of the context is a part of it.
use Rattle.std.proofs.Common.{◌≡◌, ℕ, zero, suc, List, [], ◌∷◌, Option, Some, None, option_and_then, Vec, String, Global, true, ap, sym, ◌∙◌}
use Rattle.std.specs.Prelude.{slice_get}
use Rattle.flag_text.specs.declared.tree.Tree.{Tree}
use Rattle.flag_text.specs.declared.tree.Tree.TheVariants as tree
use Rattle.flag_text.specs.Shape.{Shape, is_tidy, items_are_tidy, members_are_tidy}
use Rattle.flag_text.specs.View.{view, items_of, items_view, members_view}
use Rattle.flag_text.proofs.Bools.{left, right, Holds}
use Rattle.logic_values.specs.declared.part.Part.{Part}
use Rattle.logic_values.proofs.Members.{view_object}
use Rattle.logic_values.proofs.Truths.{view_list}

pub held : (o : Option Shape) (t : Shape) → Some t ≡ o → Holds is_tidy o → is_tidy t ≡ true
held None t e h = absurd (cc e)
held (Some u) t e h = let same : t ≡ u = cc in ap is_tidy same ∙ h

at_index : (us : List Shape) (i : ℕ) → items_are_tidy (items_of us) ≡ true → Holds is_tidy (slice_get us i)
at_index [] i h = tt
at_index (u ∷ us) zero h = left (is_tidy u) _ h
at_index (u ∷ us) (suc i) h = at_index us i (right (is_tidy u) _ h)

pub at_some_index : (us : List Shape) (o : Option ℕ) → items_are_tidy (items_of us) ≡ true → Holds is_tidy (option_and_then (slice_get us) o)
at_some_index us None h = tt
at_some_index us (Some i) h = at_index us i h

-- the members of an object, and the items of a list
pub object_tidy : (p : Part) (v : Vec (String Global × Tree) Global) (ms : List (String Global × Tree)) → p.tree.now ≡ tree.Object v → ms ≡ v.items → members_are_tidy (members_view ms) ≡ true
object_tidy p v ms is same = ap (λ ns. members_are_tidy (members_view ns)) same ∙ (sym (ap is_tidy (ap view is ∙ view_object v)) ∙ p.tidy)

pub list_tidy : (p : Part) (v : Vec Tree Global) (ts : List Tree) → p.tree.now ≡ tree.List v → ts ≡ v.items → items_are_tidy (items_view ts) ≡ true
list_tidy p v ts is same = ap (λ us. items_are_tidy (items_view us)) same ∙ (sym (ap is_tidy (ap view is ∙ view_list v)) ∙ p.tidy)
