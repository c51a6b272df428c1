-- The parts of a value, by whether it is a list.
use Rattle.std.proofs.Common.{◌≡◌, List, [], ◌∷◌, map, Some, None, sym, refl, ap, ◌∙◌}
use Rattle.flag_text.specs.declared.tree.Tree.{Tree}
use Rattle.flag_text.specs.Readers.{as_list}
use Rattle.flag_text.specs.Shape.{Shape, null, boolean, whole, other, text, list, object, Items}
use Rattle.flag_text.specs.View.{view, items_of, items_view}
use Rattle.logic_values.specs.Lists.{shapes_of, parts_of}
use Rattle.logic_values.proofs.Items.{shapes_of_items}

listed : (us : Items) (ts : List Tree) → Some us ≡ Some (items_view ts) → shapes_of us ≡ map view ts
listed us ts e = let same : us ≡ items_of (map view ts) = cc in ap shapes_of same ∙ shapes_of_items (map view ts)

pub parts_of-listed : (t : Shape) (ts : List Tree) → Some (items_view ts) ≡ as_list t → parts_of t ≡ map view ts
parts_of-listed null ts e = cc
parts_of-listed (boolean b) ts e = cc
parts_of-listed (whole n) ts e = cc
parts_of-listed other ts e = cc
parts_of-listed (text s) ts e = cc
parts_of-listed (list us) ts e = listed us ts (sym e)
parts_of-listed (object ms) ts e = cc

pub parts_of-alone : (t : Shape) → None ≡ as_list t → parts_of t ≡ t ∷ []
parts_of-alone null e = refl
parts_of-alone (boolean b) e = refl
parts_of-alone (whole n) e = refl
parts_of-alone other e = refl
parts_of-alone (text s) e = refl
parts_of-alone (list us) e = cc
parts_of-alone (object ms) e = refl
