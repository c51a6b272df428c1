-- A document whose numbers are all whole has no variants with floats, and stays as it is.
use Rattle.std.proofs.Common.{◌≡◌, ℕ, Bool, true, false, cond, not, ◌&&◌, ◌||◌, List, codes, refl, ap, ◌∙◌}
use Rattle.std.specs.Str.{bytes_eq}
use Rattle.json.specs.Json.{Json, null, boolean, number, string, array, object, Members, no_members, member}
use Rattle.flag_text.proofs.Bools.{both, left, right}
use Rattle.spelled_numbers.specs.Floats.{all_counting, are_within, each_member, has_floats, has_name, has_whole_numbers, in_object, is_number, is_object, members_have_whole_numbers, of_document, of_flag, of_flags, of_variants, with_texts}

-- ---- a value that stays

abbrev Stays : (List ℕ → Json → Json) → Type 0
Stays f = (k : List ℕ) (j : Json) → has_whole_numbers j ≡ true → f k j ≡ j

module _ (f : List ℕ → Json → Json) (same : Stays f) where
  each_same : (ms : Members) → members_have_whole_numbers ms ≡ true → each_member f ms ≡ ms
  each_same no_members h = refl
  each_same (member k j ms) h =
      let here = left (has_whole_numbers j) (members_have_whole_numbers ms) h in
      let later = right (has_whole_numbers j) (members_have_whole_numbers ms) h in
      ap (λ i. member k i (each_member f ms)) (same k j here) ∙ ap (member k j) (each_same ms later)

  object_same : (j : Json) → has_whole_numbers j ≡ true → in_object f j ≡ j
  object_same null h = refl
  object_same (boolean b) h = refl
  object_same (number s) h = refl
  object_same (string s) h = refl
  object_same (array js) h = refl
  object_same (object ms) h = ap object (each_same ms h)

-- ---- no floats

all_whole : (ms : Members) → members_have_whole_numbers ms ≡ true → all_counting has_whole_numbers ms ≡ true
all_whole no_members h = refl
all_whole (member k j ms) h =
    let here = left (has_whole_numbers j) (members_have_whole_numbers ms) h in
    let later = right (has_whole_numbers j) (members_have_whole_numbers ms) h in
    both (has_name k ms || has_whole_numbers j) (all_counting has_whole_numbers ms) (or_true (has_name k ms) (has_whole_numbers j) here) (all_whole ms later)
  where
    or_true : (a b : Bool) → b ≡ true → (a || b) ≡ true
    or_true true b e = refl
    or_true false b e = e

none_of : (a b c : Bool) → c ≡ true → (a && (b && not c)) ≡ false
none_of true true c e = ap not e
none_of true false c e = refl
none_of false b c e = refl

pub no_floats : (j : Json) → has_whole_numbers j ≡ true → has_floats j ≡ false
no_floats null h = refl
no_floats (boolean b) h = refl
no_floats (number s) h = refl
no_floats (string s) h = refl
no_floats (array js) h = refl
no_floats (object ms) h =
    none_of (are_within ms) (all_counting is_number ms || all_counting is_object ms) (all_counting has_whole_numbers ms) (all_whole ms h)

-- ---- the levels

not_here : (a b : Bool) (i j : Json) → b ≡ false → cond (a && b) i j ≡ j
not_here true b i j e = ap (λ c. cond c i j) e
not_here false b i j e = refl

either : (a : Bool) (i j : Json) → i ≡ j → cond a i j ≡ j
either true i j e = e
either false i j e = refl

flag_same : Stays of_flag
flag_same k j h = not_here (bytes_eq k (codes "variants")) (has_floats j) (in_object of_variants j) j (no_floats j h)

flags_same : Stays of_flags
flags_same k j h = object_same of_flag flag_same j h

document_same : Stays of_document
document_same k j h = either (bytes_eq k (codes "flags")) (in_object of_flags j) j (object_same of_flags flags_same j h)

pub texts_same : (j : Json) → has_whole_numbers j ≡ true → with_texts j ≡ j
texts_same j h = object_same of_document document_same j h
