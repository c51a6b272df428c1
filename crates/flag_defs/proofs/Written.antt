-- What is written for a whole tree is its text, as deep as the tree, and the tree is read from it.
use Rattle.std.proofs.Common.{◌≡◌, ℕ, suc, ◌^◌, ◌<◌, ℤ, pos, negsuc, List, true, false, max, Some, option_map, option_and_then, Ordering, Less, Equal, Greater, nat_cmp, refl, sym, ap, ap₂, ◌∙◌, decimal, arith}
use lib.Signed.{mag}
use Rattle.std.specs.Fmt.{signed_decimal}
use Rattle.std.specs.Ordering.{match_ordering, ordering_reverse}
use Rattle.std.specs.Cmp.Lexicographic.{slice_cmp}
use Rattle.std.proofs.lemmas.Bool.{ltb-true}
use Rattle.std.proofs.lemmas.Cmp.{nat_list_cmp_total}
use Rattle.json.specs.Json as json
use Rattle.json.specs.Print.{print}
use Rattle.json.specs.Tree.{json_tokens, depth, items_depth, members_depth, HasNumbers, ItemsHaveNumbers, MembersHaveNumbers}
use Rattle.json.proofs.Printed.Decimals.{IsNumber-signed_decimal}
use Rattle.serde_json.specs.Read.{number_of}
use Rattle.serde_json.specs.Written.{outline, items_outline, members_outline}
use Rattle.serde_json.proofs.Numbers.{number_of-decimal, number_of-negative}
use Rattle.serde_json.proofs.Texts.{print-outline}
use Rattle.flag_text.specs.Grammar.{put, tree_from, items_from, members_from, written, items_written, members_written}
use Rattle.flag_text.specs.Printing.{data_of, items_data, members_data, text_of}
use Rattle.flag_text.specs.Reading.{number_shape}
use Rattle.flag_text.specs.Shape.{Shape, null, boolean, whole, other, text, list, object, Items, no_items, item, Members, no_members, member, levels, items_levels, members_levels, is_in_range, comes_first, is_whole, items_are_whole, members_are_whole}
use Rattle.flag_text.proofs.Bools.{left, right}
use Rattle.flag_text.proofs.Printed.{members_data-rising}

-- ---- the text

mutual
  outline-written : (t : Shape) → is_whole t ≡ true → outline (data_of t) ≡ written t
  outline-written null h = refl
  outline-written (boolean b) h = refl
  outline-written (whole (pos n)) h = refl
  outline-written (whole (negsuc n)) h = refl
  outline-written other h = refl
  outline-written (text s) h = refl
  outline-written (list ts) h = ap json.array (items_outline-written ts h)
  outline-written (object ms) h = ap json.object (members_outline-written ms h)

  items_outline-written : (ts : Items) → items_are_whole ts ≡ true → items_outline (items_data ts) ≡ items_written ts
  items_outline-written no_items h = refl
  items_outline-written (item t ts) h = ap₂ json.item (outline-written t (left _ _ h)) (items_outline-written ts (right (is_whole t) _ h))

  members_outline-written : (ms : Members) → members_are_whole ms ≡ true → members_outline (members_data ms) ≡ members_written ms
  members_outline-written no_members h = refl
  members_outline-written (member k t ms) h =
      let rest = right (comes_first k ms) _ h in
      ap members_outline (members_data-rising k t ms h) ∙ ap₂ (json.member k) (outline-written t (left _ _ rest)) (members_outline-written ms (right (is_whole t) _ rest))

pub print-written : (t : Shape) → is_whole t ≡ true → print (json_tokens (written t)) ≡ text_of t
unfolding text_of
print-written t h = ap (λ j. print (json_tokens j)) (sym (outline-written t h)) ∙ print-outline (data_of t)

-- ---- reading it

mutual
  pub depth-written : (t : Shape) → depth (written t) ≡ levels t
  depth-written null = refl
  depth-written (boolean b) = refl
  depth-written (whole n) = refl
  depth-written other = refl
  depth-written (text s) = refl
  depth-written (list ts) = ap suc (items_depth-written ts)
  depth-written (object ms) = ap suc (members_depth-written ms)

  items_depth-written : (ts : Items) → items_depth (items_written ts) ≡ items_levels ts
  items_depth-written no_items = refl
  items_depth-written (item t ts) = ap₂ max (depth-written t) (items_depth-written ts)

  members_depth-written : (ms : Members) → members_depth (members_written ms) ≡ members_levels ms
  members_depth-written no_members = refl
  members_depth-written (member k t ms) = ap₂ max (depth-written t) (members_depth-written ms)

-- the members of one object behind those of another
abbrev followed : Members → Members → Members
followed no_members rest = rest
followed (member k t ms) rest = member k t (followed ms rest)

-- a name is above those of all members
abbrev Tops : List ℕ → Members → Type 0
Tops k no_members = Unit {0}
Tops k (member l t ms) = (slice_cmp nat_cmp k l ≡ Greater) × Tops k ms

put-last : (k : List ℕ) (t : Shape) (ms : Members) → Tops k ms → put k t ms ≡ followed ms (member k t no_members)
put-last k t no_members tops = refl
put-last k t (member l u ms) tops = rw (tops.0) (ap (member l u) (put-last k t ms tops.1))

above : (k l : List ℕ) → slice_cmp nat_cmp k l ≡ Less → slice_cmp nat_cmp l k ≡ Greater
above k l less = nat_list_cmp_total.antisymm l k ∙ ap ordering_reverse less

below : (k l : List ℕ) → slice_cmp nat_cmp k l ≡ Greater → slice_cmp nat_cmp l k ≡ Less
below k l greater = nat_list_cmp_total.antisymm l k ∙ ap ordering_reverse greater

is_less : (o : Ordering) → match_ordering o true false false ≡ true → o ≡ Less
is_less Less h = refl
is_less Equal h = cc
is_less Greater h = cc

-- what is above the last name is above all
tops-next : (k l : List ℕ) (t : Shape) (ms : Members) → slice_cmp nat_cmp k l ≡ Less → Tops k ms → Tops l (followed ms (member k t no_members))
tops-next k l t no_members less tops = (above k l less, tt)
tops-next k l t (member h u ms) less tops = (above h l (nat_list_cmp_total.trans h k l (below k h tops.0) less), tops-next k l t ms less tops.1)

followed-again : (a b c : Members) → followed (followed a b) c ≡ followed a (followed b c)
followed-again no_members b c = refl
followed-again (member k t ms) b c = ap (member k t) (followed-again ms b c)

followed-none : (a : Members) → followed a no_members ≡ a
followed-none no_members = refl
followed-none (member k t ms) = ap (member k t) (followed-none ms)

-- a name that may come next
abbrev Leads : Members → Members → Type 0
Leads found no_members = Unit {0}
Leads found (member k t ms) = Tops k found

leads-first : (ms : Members) → Leads no_members ms
leads-first no_members = tt
leads-first (member k t ms) = tt

leads-next : (k : List ℕ) (t : Shape) (found ms : Members) → Tops k found → comes_first k ms ≡ true → Leads (followed found (member k t no_members)) ms
leads-next k t found no_members tops first = tt
leads-next k t found (member l u ms) tops first = tops-next k l t found (is_less (slice_cmp nat_cmp k l) first) tops

number_back : (n : ℕ) → is_in_range (pos n) ≡ true → option_map number_shape (number_of (decimal n)) ≡ Some (whole (pos n))
number_back n h =
    let small : n < 2 ^ 53 = ltb-true n (2 ^ 53) h in
    ap (option_map number_shape) (number_of-decimal n (omega arith)) ∙ rw h refl

negative_back : (n : ℕ) → is_in_range (negsuc n) ≡ true → option_map number_shape (number_of (signed_decimal (negsuc n))) ≡ Some (whole (negsuc n))
negative_back n h =
    let small : suc n < 2 ^ 53 = ltb-true (suc n) (2 ^ 53) h in
    ap (option_map number_shape) (number_of-negative n (omega arith)) ∙ rw h refl

mutual
  pub tree_from-written : (t : Shape) → is_whole t ≡ true → tree_from (written t) ≡ Some t
  tree_from-written null h = refl
  tree_from-written (boolean b) h = refl
  tree_from-written (whole (pos n)) h = number_back n h
  tree_from-written (whole (negsuc n)) h = negative_back n h
  tree_from-written other h = cc
  tree_from-written (text s) h = refl
  tree_from-written (list ts) h = ap (option_map list) (items_from-written ts h)
  tree_from-written (object ms) h = ap (option_map object) (members_from-written no_members ms (leads-first ms) h)

  items_from-written : (ts : Items) → items_are_whole ts ≡ true → items_from (items_written ts) ≡ Some ts
  items_from-written no_items h = refl
  items_from-written (item t ts) h =
      ap (option_and_then (λ u. option_map (item u) (items_from (items_written ts)))) (tree_from-written t (left _ _ h)) ∙ ap (option_map (item t)) (items_from-written ts (right (is_whole t) _ h))

  members_from-written : (found ms : Members) → Leads found ms → members_are_whole ms ≡ true → members_from (members_written ms) found ≡ Some (followed found ms)
  members_from-written found no_members leads h = ap Some (sym (followed-none found))
  members_from-written found (member k t ms) leads h =
      let rest = right (comes_first k ms) _ h in
      let next = followed found (member k t no_members) in
      ap (option_and_then (λ u. members_from (members_written ms) (put k u found))) (tree_from-written t (left _ _ rest))
      ∙ ap (members_from (members_written ms)) (put-last k t found leads)
      ∙ members_from-written next ms (leads-next k t found ms leads (left _ _ h)) (right (is_whole t) _ rest)
      ∙ ap Some (followed-again found (member k t no_members) ms)

-- ---- its numbers

in_range : (n : ℤ) → is_in_range n ≡ true → mag n < 2 ^ 63
in_range (pos n) h = let small : n < 2 ^ 53 = ltb-true n (2 ^ 53) h in omega arith
in_range (negsuc n) h = let small : suc n < 2 ^ 53 = ltb-true (suc n) (2 ^ 53) h in omega arith

mutual
  pub numbers-written : (t : Shape) → is_whole t ≡ true → HasNumbers (written t)
  numbers-written null h = tt
  numbers-written (boolean b) h = tt
  numbers-written (whole n) h = IsNumber-signed_decimal n (in_range n h)
  numbers-written other h = tt
  numbers-written (text s) h = tt
  numbers-written (list ts) h = items_numbers-written ts h
  numbers-written (object ms) h = members_numbers-written ms h

  items_numbers-written : (ts : Items) → items_are_whole ts ≡ true → ItemsHaveNumbers (items_written ts)
  items_numbers-written no_items h = tt
  items_numbers-written (item t ts) h = (numbers-written t (left _ _ h), items_numbers-written ts (right (is_whole t) _ h))

  pub members_numbers-written : (ms : Members) → members_are_whole ms ≡ true → MembersHaveNumbers (members_written ms)
  members_numbers-written no_members h = tt
  members_numbers-written (member k t ms) h =
      let rest = right (comes_first k ms) _ h in (numbers-written t (left _ _ rest), members_numbers-written ms (right (is_whole t) _ rest))
