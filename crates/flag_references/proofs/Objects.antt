-- Lists and objects by how many parts they have.
use Rattle.std.proofs.Common.{◌≡◌, ◌≢◌, ℕ, suc, ◌<◌, List, [], ◌∷◌, length, get_or, Option, option_map, refl, sym, ap, ◌∙◌, arith}
use Rattle.flag_text.specs.Shape.{item, no_items}
use Rattle.flag_text.specs.View.{view, items_view, members_view}
use Rattle.flag_text.specs.declared.tree.Tree.{Tree}
use Rattle.flag_text.proofs.Views.{Named}
use Rattle.flag_text.proofs.Halving.{name_of}
use Rattle.logic_ast.specs.FirstFault.{item_count}
use Rattle.flag_references.specs.Measure.{measured, object_measured, members_measured, literal_measure, operation_measure}
use Rattle.flag_references.specs.declared.measure.Measure.{Measure}

pub item_count-items : (ts : List Tree) → item_count (items_view ts) ≡ length ts
item_count-items [] = refl
item_count-items (t ∷ ts) = ap suc (item_count-items ts)

-- some member, where there are any
pub some_member : (ms : List Named) (i : ℕ) → i < length ms → Named
some_member [] i h = absurd (omega arith)
some_member (m ∷ ms) i h = m

pub object_measured-one : (refer : List ℕ → Option Measure) (ms : List Named) (d : Named) → length ms ≡ 1
    → object_measured refer (members_view ms) ≡ option_map (operation_measure (name_of (get_or ms 0 d))) (measured refer (view (get_or ms 0 d).1))
object_measured-one refer [] d h = absurd (omega arith)
object_measured-one refer (m ∷ []) d h = refl
object_measured-one refer (m ∷ n ∷ ms) d h = absurd (omega arith)

pub object_measured-many : (refer : List ℕ → Option Measure) (ms : List Named) → length ms ≢ 1
    → object_measured refer (members_view ms) ≡ option_map literal_measure (members_measured refer (members_view ms))
object_measured-many refer [] h = refl
object_measured-many refer (m ∷ []) h = absurd (omega arith)
object_measured-many refer (m ∷ n ∷ ms) h = refl

-- what is measured of an object of one member is the measure of the operation
pub one-operation : (refer : List ℕ → Option Measure) (ms : List Named) (m : Named) → m ≡ get_or ms 0 m → length ms ≡ 1
    → option_map (operation_measure (name_of m)) (measured refer (view m.1)) ≡ object_measured refer (members_view ms)
one-operation refer ms m e h = ap (λ x. option_map (operation_measure (name_of x)) (measured refer (view x.1))) e ∙ sym (object_measured-one refer ms m h)

pub two_items : (ts : List Tree) (x y : Tree) → length ts ≡ 2 → x ≡ get_or ts 0 x → y ≡ get_or ts 1 y → item (view x) (item (view y) no_items) ≡ items_view ts
two_items [] x y n a b = absurd (omega arith)
two_items (t ∷ []) x y n a b = absurd (omega arith)
two_items (t ∷ u ∷ []) x y n a b = ap (λ v. item (view v) (item (view y) no_items)) a ∙ ap (λ v. item (view t) (item (view v) no_items)) b
two_items (t ∷ u ∷ w ∷ ts) x y n a b = absurd (omega arith)
