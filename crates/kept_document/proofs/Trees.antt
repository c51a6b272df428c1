-- Parts of a tree by name and index.
use Rattle.std.proofs.Common.{◌≡◌, ◌≤◌, ◌<◌, ℕ, zero, suc, List, [], ◌∷◌, length, get_or, None, Some, String, Global, refl, sym, ap, ◌∙◌, arith}
use Rattle.flag_text.specs.Readers.{as_list}
use Rattle.flag_text.specs.Shape.{Shape, null, boolean, whole, other, text, list, object, Items}
use Rattle.flag_text.specs.View.{view, items_view, members_view}
use Rattle.flag_text.specs.declared.tree.Tree.{Tree}
use Rattle.logic_ast.specs.FirstFault.{item_count}
use Rattle.text_spans.specs.Path.{Step, index}
use Rattle.kept_document.specs.Following.{inner, nothing, led, item_at, or_nothing, part}
use Rattle.kept_document.specs.Place.{at_spot, in_list}
use Rattle.kept_document.specs.Seeking.{find_in_members, later}

item_within : (ts : List Tree) (i : ℕ) (d : Tree) → i < length ts → item_at i (items_view ts) ≡ Some (view (get_or ts i d))
item_within [] i d h = absurd (omega arith)
item_within (t ∷ ts) zero d h = refl
item_within (t ∷ ts) (suc i) d h = item_within ts i d (omega arith)

item_past : (ts : List Tree) (i : ℕ) → length ts ≤ i → item_at i (items_view ts) ≡ None
item_past [] i h = refl
item_past (t ∷ ts) zero h = absurd (omega arith)
item_past (t ∷ ts) (suc i) h = item_past ts i (omega arith)

pub no_operation : (n : ℕ) (ms : List (String Global × Tree)) → 2 ≤ length ms → find_in_members n (members_view ms) ≡ later n
no_operation n [] h = absurd (omega arith)
no_operation n (a ∷ []) h = absurd (omega arith)
no_operation n (a ∷ b ∷ ms) h = refl

list_is : (t : Shape) (ts : Items) → as_list t ≡ Some ts → t ≡ list ts
list_is null ts e = cc
list_is (boolean b) ts e = cc
list_is (whole n) ts e = cc
list_is other ts e = cc
list_is (text s) ts e = cc
list_is (list us) ts e = cc
list_is (object ms) ts e = cc

-- an index leads to the item, or to none
pub index_led : (t : Shape) (items : List Tree) (i : ℕ) (x : Tree) → as_list t ≡ Some (items_view items) → i < length items → x ≡ get_or items i x → inner (view x) ≡ led (index i) t
index_led t items i x e within is =
    ap (λ y. inner (view y)) is ∙ ap or_nothing (sym (item_within items i x within)) ∙ ap (led (index i)) (sym (list_is t (items_view items) e))

pub index_past : (t : Shape) (items : List Tree) (i : ℕ) → as_list t ≡ Some (items_view items) → length items ≤ i → nothing ≡ led (index i) t
index_past t items i e past = ap or_nothing (sym (item_past items i past)) ∙ ap (led (index i)) (sym (list_is t (items_view items) e))

count_is : (ts : List Tree) → item_count (items_view ts) ≡ length ts
count_is [] = refl
count_is (t ∷ ts) = ap suc (count_is ts)

-- the buckets are items of the list
pub list_at : (front : ℕ) (path : List Step) (t : Shape) (items : List Tree) → as_list t ≡ Some (items_view items) → in_list path front (length items) ≡ at_spot front (part path t)
list_at front path t items e = ap (in_list path front) (sym (count_is items)) ∙ ap (λ u. at_spot front (part path u)) (sym (list_is t (items_view items) e))
