-- The members of what is read have names that rise strictly, so what reads as a tree is whole.
use Rattle.std.proofs.Common.{◌≡◌, ℕ, pos, ◌^◌, List, length, Bool, true, false, ◌&&◌, cond, nat_lt, Option, Some, None, option_and_then, Result, Ok, Err, Ordering, Less, Equal, Greater, nat_cmp, refl, ap, ◌∙◌, subst}
use Rattle.std.specs.Prelude.{ℤ, IfOk, if◌then◌else◌}
use Rattle.std.specs.Str.{is_utf8}
use Rattle.std.specs.Ordering.{match_ordering, ordering_reverse}
use Rattle.std.specs.Cmp.Lexicographic.{slice_cmp}
use Rattle.std.proofs.lemmas.Cmp.{nat_list_cmp_total}
use Rattle.json.specs.Json as text
use Rattle.json.specs.Lex.{tokens}
use Rattle.serde_json.specs.Data.{Num, unsigned, negative, float, Data, null, boolean, number, string, array, object, Items, no_items, item, Members, no_members, member, put}
use Rattle.serde_json.specs.Read.{of_json, of_items, of_members, number_of, max_depth, read}
use Rattle.flag_text.proofs.Bools.{both, left, right, or_left, or_right, Holds, Holds-map, Holds-and_then}
use Rattle.flag_text.specs.Shape as shape
use Rattle.flag_text.specs.Shape.{Shape, is_in_range, levels, has_other, items_have_other, members_have_other, comes_first, is_whole, items_are_whole, members_are_whole, is_tidy, items_are_tidy, members_are_tidy}
use Rattle.flag_text.specs.Reading.{number_shape, shape_of, items_shape, members_shape, json_of, if_json, doc_of}
use Rattle.flag_text.specs.Outcome.{GivesUnless}
use Rattle.flag_text.specs.View.{view}
use Rattle.flag_text.specs.declared.fault.TextFault.{TextFault}
use Rattle.flag_text.specs.declared.fault.TextFault.TheVariants.{WantOfMemory, TooLarge}
use Rattle.flag_text.specs.declared.tree.Tree.{Tree}

abbrev pub leads : List ℕ → Members → Bool
leads k no_members = true
leads k (member l d ms) = match_ordering (slice_cmp nat_cmp k l) true false false

abbrev mutual
  pub rises : Data → Bool
  rises null = true
  rises (boolean b) = true
  rises (number n) = true
  rises (string s) = true
  rises (array ds) = items_rise ds
  rises (object ms) = members_rise ms

  pub items_rise : Items → Bool
  items_rise no_items = true
  items_rise (item d ds) = rises d && items_rise ds

  pub members_rise : Members → Bool
  members_rise no_members = true
  members_rise (member k d ms) = leads k ms && (rises d && members_rise ms)

-- a name in front of all, and of the one that is put, is in front of the result
leads-put_at : (o : Ordering) (h k l : List ℕ) (d e : Data) (ms : Members) → slice_cmp nat_cmp h k ≡ Less → leads h (member l e ms) ≡ true
    → leads h (match_ordering o (member k d (member l e ms)) (member l d ms) (member l e (put k d ms))) ≡ true
leads-put_at Less h k l d e ms first lead = rw first refl
leads-put_at Equal h k l d e ms first lead = lead
leads-put_at Greater h k l d e ms first lead = lead

leads-put : (h k : List ℕ) (d : Data) (ms : Members) → slice_cmp nat_cmp h k ≡ Less → leads h ms ≡ true → leads h (put k d ms) ≡ true
leads-put h k d no_members first lead = rw first refl
leads-put h k d (member l e ms) first lead = leads-put_at (slice_cmp nat_cmp k l) h k l d e ms first lead

members_rise-put_at : (o : Ordering) (k l : List ℕ) (d e : Data) (ms : Members) → slice_cmp nat_cmp k l ≡ o → rises d ≡ true → members_rise (member l e ms) ≡ true
    → members_rise (put k d ms) ≡ true → members_rise (match_ordering o (member k d (member l e ms)) (member l d ms) (member l e (put k d ms))) ≡ true
members_rise-put_at Less k l d e ms is good all more = both (leads k (member l e ms)) _ (rw is refl) (both (rises d) _ good all)
members_rise-put_at Equal k l d e ms is good all more = both (leads l ms) _ (left _ _ all) (both (rises d) _ good (right (rises e) _ (right (leads l ms) _ all)))
members_rise-put_at Greater k l d e ms is good all more =
    let less : slice_cmp nat_cmp l k ≡ Less = nat_list_cmp_total.antisymm l k ∙ ap ordering_reverse is in
    both (leads l (put k d ms)) _ (leads-put l k d ms less (left _ _ all)) (both (rises e) _ (left _ _ (right (leads l ms) _ all)) more)

members_rise-put : (k : List ℕ) (d : Data) (ms : Members) → rises d ≡ true → members_rise ms ≡ true → members_rise (put k d ms) ≡ true
members_rise-put k d no_members good all = both (rises d) true good refl
members_rise-put k d (member l e ms) good all =
    members_rise-put_at (slice_cmp nat_cmp k l) k l d e ms refl good all (members_rise-put k d ms good (right (rises e) _ (right (leads l ms) _ all)))

always : {A : Type 0} (o : Option A) → Holds (λ _. true) o
always None = tt
always (Some a) = refl

mutual
  pub rises-of_json : (j : text.Json) → Holds rises (of_json j)
  rises-of_json text.null = refl
  rises-of_json (text.boolean b) = refl
  rises-of_json (text.number s) = Holds-map (λ _. true) rises number (λ a x. refl) (number_of s) (always _)
  rises-of_json (text.string s) = refl
  rises-of_json (text.array js) = Holds-map items_rise rises array (λ a x. x) _ (items_rise-of_items js)
  rises-of_json (text.object ms) = Holds-map members_rise rises object (λ a x. x) _ (members_rise-of_members ms no_members refl)

  items_rise-of_items : (js : text.Items) → Holds items_rise (of_items js)
  items_rise-of_items text.no_items = refl
  items_rise-of_items (text.item j js) =
      Holds-and_then rises items_rise _ (λ d x. Holds-map items_rise items_rise (item d) (λ ds y. both (rises d) _ x y) _ (items_rise-of_items js)) _ (rises-of_json j)

  members_rise-of_members : (ms : text.Members) (found : Members) → members_rise found ≡ true → Holds members_rise (of_members ms found)
  members_rise-of_members text.no_members found h = h
  members_rise-of_members (text.member k j ms) found h =
      Holds-and_then rises members_rise _ (λ d x. members_rise-of_members ms (put k d found) (members_rise-put k d found x h)) _ (rises-of_json j)

rises-and_then : (o : Option text.Json) → Holds rises (option_and_then of_json o)
rises-and_then None = tt
rises-and_then (Some j) = rises-of_json j

rises-read : (bytes : List ℕ) → Holds rises (read bytes)
rises-read bytes = rises-and_then (option_and_then (λ p. text.if_last p.0 p.1) (text.value max_depth (tokens bytes)))

chosen : (b : Bool) (o : Option Data) → Holds rises o → Holds rises (cond b o None)
chosen true o h = h
chosen false o h = tt

rises-json_of : (bytes : List ℕ) → Holds rises (json_of bytes)
unfolding json_of
rises-json_of bytes = chosen (is_utf8 bytes) (read bytes) (rises-read bytes)

-- ---- as a tree

comes_first-members_shape : (k : List ℕ) (ms : Members) → comes_first k (members_shape ms) ≡ leads k ms
comes_first-members_shape k no_members = refl
comes_first-members_shape k (member l d ms) = refl

number_at : (b : Bool) (z : ℤ) → is_in_range z ≡ b → is_tidy (cond b (shape.whole z) shape.other) ≡ true
number_at true z e = e
number_at false z e = refl

number_tidy : (n : Num) → is_tidy (number_shape n) ≡ true
number_tidy (unsigned n) = number_at (nat_lt n (2 ^ 53)) (pos n) refl
number_tidy (negative z) = number_at (is_in_range z) z refl
number_tidy (float x) = refl

mutual
  is_tidy-shape_of : (d : Data) → rises d ≡ true → is_tidy (shape_of d) ≡ true
  is_tidy-shape_of null r = refl
  is_tidy-shape_of (boolean b) r = refl
  is_tidy-shape_of (number n) r = number_tidy n
  is_tidy-shape_of (string s) r = refl
  is_tidy-shape_of (array ds) r = items_are_tidy-items_shape ds r
  is_tidy-shape_of (object ms) r = members_are_tidy-members_shape ms r

  items_are_tidy-items_shape : (ds : Items) → items_rise ds ≡ true → items_are_tidy (items_shape ds) ≡ true
  items_are_tidy-items_shape no_items r = refl
  items_are_tidy-items_shape (item d ds) r = both (is_tidy (shape_of d)) _ (is_tidy-shape_of d (left _ _ r)) (items_are_tidy-items_shape ds (right (rises d) _ r))

  members_are_tidy-members_shape : (ms : Members) → members_rise ms ≡ true → members_are_tidy (members_shape ms) ≡ true
  members_are_tidy-members_shape no_members r = refl
  members_are_tidy-members_shape (member k d ms) r =
      let rest = right (leads k ms) _ r in
      both (comes_first k (members_shape ms)) _ (comes_first-members_shape k ms ∙ left _ _ r)
      (both (is_tidy (shape_of d)) _ (is_tidy-shape_of d (left _ _ rest)) (members_are_tidy-members_shape ms (right (rises d) _ rest)))

-- a tidy tree with no number that is not whole is whole
mutual
  pub is_whole-tidy : (t : Shape) → is_tidy t ≡ true → has_other t ≡ false → is_whole t ≡ true
  is_whole-tidy shape.null r h = refl
  is_whole-tidy (shape.boolean b) r h = refl
  is_whole-tidy (shape.whole n) r h = r
  is_whole-tidy shape.other r h = cc
  is_whole-tidy (shape.text s) r h = refl
  is_whole-tidy (shape.list ts) r h = items_are_whole-tidy ts r h
  is_whole-tidy (shape.object ms) r h = members_are_whole-tidy ms r h

  items_are_whole-tidy : (ts : shape.Items) → items_are_tidy ts ≡ true → items_have_other ts ≡ false → items_are_whole ts ≡ true
  items_are_whole-tidy shape.no_items r h = refl
  items_are_whole-tidy (shape.item t ts) r h =
      both (is_whole t) _ (is_whole-tidy t (left _ _ r) (or_left _ _ h)) (items_are_whole-tidy ts (right (is_tidy t) _ r) (or_right (has_other t) _ h))

  members_are_whole-tidy : (ms : shape.Members) → members_are_tidy ms ≡ true → members_have_other ms ≡ false → members_are_whole ms ≡ true
  members_are_whole-tidy shape.no_members r h = refl
  members_are_whole-tidy (shape.member k t ms) r h =
      let rest = right (comes_first k ms) _ r in
      both (comes_first k ms) _ (left _ _ r)
      (both (is_whole t) _ (is_whole-tidy t (left _ _ rest) (or_left _ _ h)) (members_are_whole-tidy ms (right (is_tidy t) _ rest) (or_right (has_other t) _ h)))

from_json : (o : Option Data) → Holds rises o → IfOk (if_json o) (λ t. is_tidy t ≡ true)
from_json None h = tt
from_json (Some d) h = is_tidy-shape_of d h

from_doc : (b : Bool) (o : Option Data) → Holds rises o → IfOk (if b then Err TooLarge else if_json o) (λ t. is_tidy t ≡ true)
from_doc true o h = tt
from_doc false o h = from_json o h

is_tidy-doc_of : (bytes : List ℕ) (limit : ℕ) → IfOk (doc_of bytes limit) (λ t. is_tidy t ≡ true)
is_tidy-doc_of bytes limit = from_doc (nat_lt limit (length bytes)) (json_of bytes) (rises-json_of bytes)

-- the names of what `doc_of` gives rise
pub is_tidy-read : (bytes : List ℕ) (limit : ℕ) (t : Shape) → doc_of bytes limit ≡ Ok t → is_tidy t ≡ true
is_tidy-read bytes limit t e = subst (λ r. IfOk r (λ x. is_tidy x ≡ true)) e (is_tidy-doc_of bytes limit)

given : (o : Option Data) (r : Result Tree TextFault) → Holds rises o → GivesUnless WantOfMemory view r (if_json o) → IfOk r (λ t. is_tidy (view t) ≡ true)
given o (Ok t) h e = subst (λ r. IfOk r (λ x. is_tidy x ≡ true)) e (from_json o h)
given o (Err f) h e = tt

-- the same of what a text is read as
pub is_tidy-text : (bytes : List ℕ) (r : Result Tree TextFault) → GivesUnless WantOfMemory view r (if_json (read bytes)) → IfOk r (λ t. is_tidy (view t) ≡ true)
is_tidy-text bytes r e = given (read bytes) r (rises-read bytes) e
