-- A document with texts in place of floats is printed in no fewer bytes.
use Rattle.std.proofs.Common.{◌≡◌, ℕ, ◌≤◌, ◌+◌, ◌/◌, ◌%◌, nat_lt, List, [], ◌∷◌, ◌++◌, length, codes, Bool, true, false, cond, ◌&&◌, ap, ◌∙◌, arith}
use Rattle.std.proofs.Math.ListN.{length-append}
use Rattle.std.specs.Char.{digit_char}
use Rattle.std.specs.Str.{bytes_eq}
use Rattle.json.specs.Json.{Json, null, boolean, number, string, array, object, Members, no_members, member}
use Rattle.json.specs.Print.{escape, escape_byte, escape_letter, print}
use Rattle.json.specs.Tree.{json_tokens}
use Rattle.flag_text.specs.Printing.{text_of}
use Rattle.flag_text.specs.Shape.{text}
use Rattle.spelled_numbers.specs.Floats.{each_member, has_floats, in_object, of_document, of_flag, of_flags, of_variants, spelled, with_texts}
use Rattle.flag_defs.proofs.Joined.{first_member, later_member, members_printed, member_printed, none_printed, object_printed, string_printed}

-- in how many bytes a value is printed
abbrev size : Json → ℕ
size j = length (print (json_tokens j))

abbrev Grows : (List ℕ → Json → Json) → Type 0
Grows f = (k : List ℕ) (j : Json) → size j ≤ size (f k j)

member_size : (k : List ℕ) (j : Json) (ms : Members) → length (member_printed k j ms) ≡ length (text_of (text k)) + (1 + (size j + length (members_printed true ms)))
member_size k j ms =
    omega (arith, length-append (text_of (text k)) (codes ":" ++ (print (json_tokens j) ++ members_printed true ms)), length-append (print (json_tokens j)) (members_printed true ms))

module _ (f : List ℕ → Json → Json) (grows : Grows f) where
  later_grow : (ms : Members) → length (members_printed true ms) ≤ length (members_printed true (each_member f ms))
  later_grow no_members = omega arith
  later_grow (member k j ms) =
      let before = ap length (later_member k j ms) in
      let after = ap length (later_member k (f k j) (each_member f ms)) in
      let first = member_size k j ms in
      let second = member_size k (f k j) (each_member f ms) in
      let rest = later_grow ms in
      let here = grows k j in
      omega (arith, before, after, first, second, rest, here)

  first_grow : (ms : Members) → length (members_printed false ms) ≤ length (members_printed false (each_member f ms))
  first_grow no_members = omega arith
  first_grow (member k j ms) =
      let before = ap length (first_member k j ms) in
      let after = ap length (first_member k (f k j) (each_member f ms)) in
      let first = member_size k j ms in
      let second = member_size k (f k j) (each_member f ms) in
      let rest = later_grow ms in
      let here = grows k j in
      omega (arith, before, after, first, second, rest, here)

  object_grows : (j : Json) → size j ≤ size (in_object f j)
  object_grows null = omega arith
  object_grows (boolean b) = omega arith
  object_grows (number s) = omega arith
  object_grows (string s) = omega arith
  object_grows (array js) = omega arith
  object_grows (object ms) =
      let before = ap length (object_printed ms) in
      let after = ap length (object_printed (each_member f ms)) in
      let inner = first_grow ms in
      omega (arith, before, after, inner)

either : (a : Bool) (i j : Json) → size j ≤ size i → size j ≤ size (cond a i j)
either true i j h = h
either false i j h = omega arith

-- ---- a text is printed in no fewer bytes than it has

cond_some : (b : Bool) (x : ℕ) (xs ys : List ℕ) → 1 ≤ length ys → 1 ≤ length (cond b (x ∷ xs) ys)
cond_some true x xs ys h = omega arith
cond_some false x xs ys h = h

byte_some : (x : ℕ) → 1 ≤ length (escape_byte x)
unfolding escape_byte
byte_some x =
    let code : List ℕ = 117 ∷ 48 ∷ 48 ∷ digit_char (x / 16) ∷ digit_char (x % 16) ∷ [] in
    let alone : 1 ≤ length (cond (nat_lt x 32) (92 ∷ code) (x ∷ [])) = cond_some (nat_lt x 32) 92 code (x ∷ []) (omega arith) in
    cond_some (nat_lt 0 (escape_letter x)) 92 (escape_letter x ∷ []) (cond (nat_lt x 32) (92 ∷ code) (x ∷ [])) alone

escape_grows : (s : List ℕ) → length s ≤ length (escape s)
escape_grows [] = omega arith
escape_grows (x ∷ s) = omega (arith, length-append (escape_byte x) (escape s), byte_some x, escape_grows s)

text_grows : (s : List ℕ) → length s ≤ length (text_of (text s))
unfolding text_of
text_grows s = omega (arith, length-append (escape s) (34 ∷ []), escape_grows s)

-- ---- the levels

variants_grow : Grows of_variants
variants_grow k j = let text_size = ap length (string_printed (print (json_tokens j))) in omega (arith, text_size, text_grows (print (json_tokens j)))

flag_grows : Grows of_flag
flag_grows k j = either (bytes_eq k (codes "variants") && has_floats j) (in_object of_variants j) j (object_grows of_variants variants_grow j)

flags_grow : Grows of_flags
flags_grow k j = object_grows of_flag flag_grows j

document_grows : Grows of_document
document_grows k j = either (bytes_eq k (codes "flags")) (in_object of_flags j) j (object_grows of_flags flags_grow j)

pub texts_grow : (j : Json) → length (print (json_tokens j)) ≤ length (print (json_tokens (with_texts j)))
texts_grow j = object_grows of_document document_grows j
