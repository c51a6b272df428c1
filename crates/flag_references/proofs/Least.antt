-- How many bytes a tree is printed in at least: what its measure counts, and no more than its text has.
use Rattle.std.proofs.Common.{◌≡◌, ◌≤◌, ◌<◌, ℕ, ◌+◌, ◌^◌, ◌/◌, ◌%◌, pos, negsuc, List, [], ◌∷◌, ◌++◌, length, Bool, true, false, ◌&&◌, cond, nat_lt, ℤ, refl, sym, ap, ◌∙◌, subst, arith}
use Rattle.std.specs.Char.{digit_char}
use Rattle.std.specs.Fmt.{signed_decimal}
use Rattle.std.proofs.lemmas.Fmt.{decimal_nonempty}
use Rattle.std.proofs.lemmas.List.Concat.{flat_map-cons}
use Rattle.std.proofs.Math.ListN.{length-append}
use Rattle.std.proofs.lemmas.Grind.{common_steps}
use Rattle.json.specs.Print.{escape_byte, escape_letter, escape, quoted}
use Rattle.serde_json.specs.Data as json
use Rattle.serde_json.specs.Written.{compact_text, items_text, members_text, comma_if, number_text}
use Rattle.flag_text.proofs.Bools.{left, right}
use Rattle.flag_text.proofs.Printed.{shape_of-data_of}
use Rattle.flag_text.specs.Printing.{data_of, text_of}
use Rattle.flag_text.specs.Reading.{number_shape, shape_of, items_shape, members_shape}
use Rattle.flag_text.specs.Shape.{Shape, null, boolean, whole, other, text, list, object, Items, no_items, item, Members, no_members, member, comes_first, is_in_range, is_whole, items_are_whole, members_are_whole}
use Rattle.flag_references.specs.Least.{least, items_least, members_least}
use Rattle.flag_references.specs.Measure.{capped, measure, parts, members_full}

-- what a measure counts, up to the most that is counted
mutual
  pub bytes-counted : (t : Shape) → (measure t).bytes ≡ capped (least t)
  bytes-counted null = refl
  bytes-counted (boolean b) = refl
  bytes-counted (whole (pos n)) = refl
  bytes-counted (whole (negsuc n)) = refl
  bytes-counted other = refl
  bytes-counted (text s) = omega arith
  bytes-counted (list ts) = omega (arith, parts-counted ts)
  bytes-counted (object no_members) = refl
  bytes-counted (object (member k t no_members)) = omega (arith, bytes-counted t)
  bytes-counted (object (member k t (member l u ms))) = omega (arith, bytes-counted t, bytes-counted u, members-counted ms)

  parts-counted : (ts : Items) → (parts ts).bytes ≡ capped (items_least ts)
  parts-counted no_items = refl
  parts-counted (item t ts) = omega (arith, bytes-counted t, parts-counted ts)

  members-counted : (ms : Members) → (members_full ms).1 ≡ capped (members_least ms)
  members-counted no_members = refl
  members-counted (member k t ms) = omega (arith, bytes-counted t, members-counted ms)

pub bytes-least : (t : Shape) → (measure t).bytes ≤ least t
bytes-least t = omega (arith, bytes-counted t)

-- ---- texts

picked : (b c : Bool) (u v w : List ℕ) → 1 ≤ length u → 1 ≤ length v → 1 ≤ length w → 1 ≤ length (cond b u (cond c v w))
picked true c u v w p q r = p
picked false true u v w p q r = q
picked false false u v w p q r = r

escaped_byte : (x : ℕ) → 1 ≤ length (escape_byte x)
unfolding escape_byte
escaped_byte x =
    picked (nat_lt 0 (escape_letter x)) (nat_lt x 32) (92 ∷ escape_letter x ∷ []) (92 ∷ 117 ∷ 48 ∷ 48 ∷ digit_char (x / 16) ∷ digit_char (x % 16) ∷ []) (x ∷ []) (omega arith) (omega arith) (omega arith)

escaped : (s : List ℕ) → length s ≤ length (escape s)
escaped [] = omega arith
escaped (x ∷ s) =
    subst (λ r. length (x ∷ s) ≤ length r) (sym (flat_map-cons escape_byte x s)) (omega (arith, escaped_byte x, escaped s, length-append (escape_byte x) (escape s)))

quoted-least : (s : List ℕ) → length s + 2 ≤ length (quoted s)
quoted-least s = omega (arith, escaped s, length-append (escape s) (34 ∷ []))

-- ---- values

below : (k n : ℕ) → nat_lt n k ≡ true → n < k
below k n e = grind (arith, common_steps, e)

whole_number : (b : Bool) (n : ℕ) → nat_lt n (2 ^ 53) ≡ b → is_whole (cond b (whole (pos n)) other) ≡ true → n < 2 ^ 53
whole_number true n e h = below (2 ^ 53) n e
whole_number false n e h = cc

chosen_least : (b : Bool) (z : ℤ) → least (cond b (whole z) other) ≡ 1
chosen_least true z = refl
chosen_least false z = refl

number_least : (n : json.Num) → least (number_shape n) ≡ 1
number_least (json.unsigned n) = chosen_least (nat_lt n (2 ^ 53)) (pos n)
number_least (json.negative z) = chosen_least (is_in_range z) z
number_least (json.float x) = refl

negative_printed : (z : ℤ) (b : Bool) → is_in_range z ≡ b → is_whole (cond b (whole z) other) ≡ true → 1 ≤ length (signed_decimal z)
negative_printed (pos n) true e h = decimal_nonempty n (omega (arith, below (2 ^ 53) n e))
negative_printed (negsuc n) true e h = omega arith
negative_printed z false e h = cc

number_printed : (n : json.Num) → is_whole (number_shape n) ≡ true → 1 ≤ length (number_text n)
number_printed (json.unsigned n) h = decimal_nonempty n (omega (arith, whole_number (nat_lt n (2 ^ 53)) n refl h))
number_printed (json.negative z) h = negative_printed z (is_in_range z) refl h
number_printed (json.float x) h = cc

mutual
  value-least : (d : json.Data) → is_whole (shape_of d) ≡ true → least (shape_of d) ≤ length (compact_text d)
  value-least json.null h = omega arith
  value-least (json.boolean true) h = omega arith
  value-least (json.boolean false) h = omega arith
  value-least (json.number n) h = omega (arith, number_least n, number_printed n h)
  value-least (json.string s) h = quoted-least s
  value-least (json.array ds) h = omega (arith, items_text-least false ds h)
  value-least (json.object ms) h = omega (arith, members_text-least false ms h)

  -- with the bracket that closes them
  items_text-least : (later : Bool) (ds : json.Items) → items_are_whole (items_shape ds) ≡ true → items_least (items_shape ds) + 1 ≤ length (items_text later ds)
  items_text-least later json.no_items h = omega arith
  items_text-least later (json.item d ds) h =
      let first = value-least d (left (is_whole (shape_of d)) (items_are_whole (items_shape ds)) h) in
      let rest = items_text-least true ds (right (is_whole (shape_of d)) (items_are_whole (items_shape ds)) h) in
      omega (arith, first, rest, length-append (comma_if later) (compact_text d ++ items_text true ds), length-append (compact_text d) (items_text true ds))

  members_text-least : (later : Bool) (ms : json.Members) → members_are_whole (members_shape ms) ≡ true → members_least (members_shape ms) + 1 ≤ length (members_text later ms)
  members_text-least later json.no_members h = omega arith
  members_text-least later (json.member k d ms) h =
      let inner = right (comes_first k (members_shape ms)) (is_whole (shape_of d) && members_are_whole (members_shape ms)) h in
      let first = value-least d (left (is_whole (shape_of d)) (members_are_whole (members_shape ms)) inner) in
      let rest = members_text-least true ms (right (is_whole (shape_of d)) (members_are_whole (members_shape ms)) inner) in
      let after = 58 ∷ (compact_text d ++ members_text true ms) in
      omega (arith, first, rest, quoted-least k, length-append (comma_if later) (quoted k ++ after), length-append (quoted k) after, length-append (compact_text d) (members_text true ms))

-- a tree of whole numbers is printed in so many bytes at least
pub text_of-least : (t : Shape) → is_whole t ≡ true → least t ≤ length (text_of t)
unfolding text_of
text_of-least t h =
    let same = shape_of-data_of t h in
    subst (λ u. least u ≤ length (compact_text (data_of t))) same (value-least (data_of t) (ap is_whole same ∙ h))
