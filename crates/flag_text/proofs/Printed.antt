-- What is written for a tree, and that it reads as the tree.
use Rattle.std.proofs.Common.{◌≡◌, ℕ, pos, negsuc, ◌≤◌, List, true, false, length, Some, Ok, Ordering, Less, Equal, Greater, nat_cmp, refl, sym, ap, ap₂, ◌∙◌, arith}
use Rattle.std.specs.Ordering.{match_ordering}
use Rattle.std.specs.Cmp.Lexicographic.{slice_cmp}
use Rattle.serde_json.specs.Data as json
use Rattle.flag_text.specs.Shape.{Shape, null, boolean, whole, other, text, list, object, Items, no_items, item, Members, no_members, member, levels, has_other, items_have_other, members_have_other, comes_first, is_whole, items_are_whole, members_are_whole}
use Rattle.std.specs.Str.{IsUtf8}
use Rattle.serde_json.specs.Read.{read}
use Rattle.flag_text.specs.Reading.{shape_of, items_shape, members_shape, max_levels, if_whole, tree_of}
use Rattle.flag_text.proofs.Bools.{left, right}
use Rattle.flag_text.proofs.Readings.{doc_of-read}
use Rattle.flag_text.specs.Printing.{data_of, items_data, members_data}

put_first : (o : Ordering) (a b c : json.Members) → match_ordering o true false false ≡ true → match_ordering o a b c ≡ a
put_first Less a b c h = refl
put_first Equal a b c h = cc
put_first Greater a b c h = cc

-- where the names rise, each member goes in front of those after it
pub members_data-rising : (k : List ℕ) (t : Shape) (ms : Members) → members_are_whole (member k t ms) ≡ true → members_data (member k t ms) ≡ json.member k (data_of t) (members_data ms)
members_data-rising k t no_members h = refl
members_data-rising k t (member l u ms) h =
    let later = members_data-rising l u ms (right (is_whole t) _ (right (comes_first k (member l u ms)) _ h)) in
    rw later (put_first (slice_cmp nat_cmp k l) _ _ _ (left (comes_first k (member l u ms)) _ h))

-- a tree of whole numbers is written as a value that stands for it, as deep, and with no float
mutual
  pub shape_of-data_of : (t : Shape) → is_whole t ≡ true → shape_of (data_of t) ≡ t
  shape_of-data_of null h = refl
  shape_of-data_of (boolean b) h = refl
  shape_of-data_of (whole (pos n)) h = rw h refl
  shape_of-data_of (whole (negsuc n)) h = rw h refl
  shape_of-data_of other h = cc
  shape_of-data_of (text s) h = refl
  shape_of-data_of (list ts) h = ap list (items_shape-items_data ts h)
  shape_of-data_of (object ms) h = ap object (members_shape-members_data ms h)

  items_shape-items_data : (ts : Items) → items_are_whole ts ≡ true → items_shape (items_data ts) ≡ ts
  items_shape-items_data no_items h = refl
  items_shape-items_data (item t ts) h = ap₂ item (shape_of-data_of t (left _ _ h)) (items_shape-items_data ts (right (is_whole t) _ h))

  members_shape-members_data : (ms : Members) → members_are_whole ms ≡ true → members_shape (members_data ms) ≡ ms
  members_shape-members_data no_members h = refl
  members_shape-members_data (member k t ms) h =
      let rest = right (comes_first k ms) _ h in
      ap members_shape (members_data-rising k t ms h) ∙ ap₂ (member k) (shape_of-data_of t (left _ _ rest)) (members_shape-members_data ms (right (is_whole t) _ rest))

mutual
  pub has_other-whole : (t : Shape) → is_whole t ≡ true → has_other t ≡ false
  has_other-whole null h = refl
  has_other-whole (boolean b) h = refl
  has_other-whole (whole n) h = refl
  has_other-whole other h = sym h
  has_other-whole (text s) h = refl
  has_other-whole (list ts) h = items_have_other-whole ts h
  has_other-whole (object ms) h = members_have_other-whole ms h

  items_have_other-whole : (ts : Items) → items_are_whole ts ≡ true → items_have_other ts ≡ false
  items_have_other-whole no_items h = refl
  items_have_other-whole (item t ts) h = rw (has_other-whole t (left _ _ h)) (items_have_other-whole ts (right (is_whole t) _ h))

  members_have_other-whole : (ms : Members) → members_are_whole ms ≡ true → members_have_other ms ≡ false
  members_have_other-whole no_members h = refl
  members_have_other-whole (member k t ms) h =
      let rest = right (comes_first k ms) _ h in
      rw (has_other-whole t (left _ _ rest)) (members_have_other-whole ms (right (is_whole t) _ rest))

pub if_whole-kept : (t : Shape) → levels t ≤ max_levels → has_other t ≡ false → if_whole (Ok t) ≡ Ok t
if_whole-kept t deep e = grind (arith, e)

-- what is written for a tree reads as the tree
pub tree_of-written : (bytes : List ℕ) (limit : ℕ) (t : Shape) → is_whole t ≡ true → levels t ≤ max_levels → length bytes ≤ limit → IsUtf8 bytes → read bytes ≡ Some (data_of t) → tree_of bytes limit ≡ Ok t
tree_of-written bytes limit t h deep fits u e =
    ap if_whole (doc_of-read bytes limit _ fits u e ∙ ap Ok (shape_of-data_of t h)) ∙ if_whole-kept t deep (has_other-whole t h)
