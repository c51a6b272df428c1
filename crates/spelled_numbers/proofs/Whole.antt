-- A number that grows by a byte, and the texts that are respelled as themselves.
use Rattle.std.proofs.Common.{◌≡◌, ◌≤◌, ℕ, zero, suc, ◌+◌, Bool, true, false, List, [], ◌∷◌, ◌++◌, length, take, drop, refl, ap, ◌∙◌, sym, arith, inl, inr, append_assoc, append-nil}
use Rattle.std.proofs.lemmas.Bool.{cases_Bool}
use Rattle.std.specs.Prelude.{◌==◌, ◌&&◌, not, if◌then◌else◌, None}
use Rattle.spelled_numbers.specs.Sent.{Standing, between, in_text, in_escape, in_number, are_whole_from, are_spelled_whole, after, after_in_text, begins_number, begun, continues_number, entered, is_other_number, is_signed_number, is_spelled_whole, number_object, respelled_from, respelled, signed_value_of, spelled, spelled_as, whole_number}
use Rattle.spelled_numbers.specs.SentView.{goes_on, place_view}
use Rattle.spelled_numbers.specs.declared.respelling.Place.{Place}
use Rattle.spelled_numbers.specs.declared.respelling.Place.TheVariants as places

-- the bytes of a number, one more of them
pub grown : (n : ℕ) (bytes : List ℕ) (b : ℕ) (rest : List ℕ) → drop n bytes ≡ b ∷ rest → take (suc n) bytes ≡ take n bytes ++ b ∷ []
grown zero [] b rest e = cc
grown zero (x ∷ xs) b rest e = cc
grown (suc n) [] b rest e = cc
grown (suc n) (x ∷ xs) b rest e = ap (λ (l : List ℕ). x ∷ l) (grown n xs b rest e)

pub shrunk : (n : ℕ) (bytes : List ℕ) (b : ℕ) (rest : List ℕ) → drop n bytes ≡ b ∷ rest → drop (suc n) bytes ≡ rest
shrunk zero [] b rest e = cc
shrunk zero (x ∷ xs) b rest e = cc
shrunk (suc n) [] b rest e = cc
shrunk (suc n) (x ∷ xs) b rest e = shrunk n xs b rest e

-- what is written before the rest
abbrev begun_number : Standing → List ℕ
begun_number between = []
begun_number in_text = []
begun_number in_escape = []
begun_number (in_number run) = run

not_both : false ≡ true → ⊥
not_both e = cc

left : (a b : Bool) → (a && b) ≡ true → a ≡ true
left true b e = refl
left false b e = e

right : (a b : Bool) → (a && b) ≡ true → b ≡ true
right true b e = e
right false b e = absurd (not_both e)

same : (run : List ℕ) → is_spelled_whole run ≡ true → spelled run ≡ run
same run e =
    let none : whole_number run ≡ None = ap (λ b. if b then None else signed_value_of run) e in
    let kept : is_other_number run ≡ false = ap (λ b. not b && is_signed_number run) e in
    ap (spelled_as run) none ∙ ap (λ b. if b then number_object run else run) kept

then_true : (c x y : Bool) → c ≡ true → (if c then x else y) ≡ true → x ≡ true
then_true c x y t e = let k : (if c then x else y) ≡ x = rw t refl in sym k ∙ e

else_true : (c x y : Bool) → c ≡ false → (if c then x else y) ≡ true → y ≡ true
else_true c x y t e = let k : (if c then x else y) ≡ y = rw t refl in sym k ∙ e

after_none : (b : ℕ) → begun_number (after b) ≡ []
after_none b = elim (cases_Bool (b == 34)) [ inl t ↦ rw t refl | inr f ↦ rw f refl ]

after_in_text_none : (b : ℕ) → begun_number (after_in_text b) ≡ []
after_in_text_none b = elim (cases_Bool (b == 34)) [ inl t ↦ rw t refl | inr f ↦ elim (cases_Bool (b == 92)) [ inl t ↦ rw (f, t) refl | inr g ↦ rw (f, g) refl ] ]

-- the rest, from wherever it stands
abbrev AsItIs : List ℕ → Type 0
AsItIs bytes = (s : Standing) → are_whole_from s bytes ≡ true → respelled_from s bytes ≡ begun_number s ++ bytes

begun_as : (b : ℕ) (bs : List ℕ) → entered b (λ s. are_whole_from s bs) ≡ true → AsItIs bs → begun b (λ s. respelled_from s bs) ≡ b ∷ bs
begun_as b bs e rest = elim (cases_Bool (begins_number b)) [
  | inl t ↦
      let h = then_true (begins_number b) (are_whole_from (in_number (b ∷ [])) bs) (are_whole_from (after b) bs) t e in
      rw t (rest (in_number (b ∷ [])) h)
  | inr f ↦
      let h = else_true (begins_number b) (are_whole_from (in_number (b ∷ [])) bs) (are_whole_from (after b) bs) f e in
      rw f (ap (λ (l : List ℕ). b ∷ l) (rest (after b) h ∙ ap (λ (l : List ℕ). l ++ bs) (after_none b)))
]

pub as_it_is : (s : Standing) (bytes : List ℕ) → are_whole_from s bytes ≡ true → respelled_from s bytes ≡ begun_number s ++ bytes
as_it_is between [] e = refl
as_it_is in_text [] e = refl
as_it_is in_escape [] e = refl
as_it_is (in_number run) [] e = same run e ∙ sym (append-nil run)
as_it_is between (b ∷ bs) e = begun_as b bs e (λ s. as_it_is s bs)
as_it_is in_text (b ∷ bs) e = ap (λ (l : List ℕ). b ∷ l) (as_it_is (after_in_text b) bs e ∙ ap (λ (l : List ℕ). l ++ bs) (after_in_text_none b))
as_it_is in_escape (b ∷ bs) e = ap (λ (l : List ℕ). b ∷ l) (as_it_is in_text bs e)
as_it_is (in_number run) (b ∷ bs) e = elim (cases_Bool (continues_number b)) [
  | inl t ↦
      let h = then_true (continues_number b) (are_whole_from (in_number (run ++ b ∷ [])) bs) (is_spelled_whole run && entered b (λ s. are_whole_from s bs)) t e in
      rw t (as_it_is (in_number (run ++ b ∷ [])) bs h ∙ append_assoc run (b ∷ []) bs)
  | inr f ↦
      let h = else_true (continues_number b) (are_whole_from (in_number (run ++ b ∷ [])) bs) (is_spelled_whole run && entered b (λ s. are_whole_from s bs)) f e in
      let number = same run (left (is_spelled_whole run) (entered b (λ s. are_whole_from s bs)) h) in
      let others = begun_as b bs (right (is_spelled_whole run) (entered b (λ s. are_whole_from s bs)) h) (λ s. as_it_is s bs) in
      rw f (ap (λ (l : List ℕ). l ++ begun b (λ s. respelled_from s bs)) number ∙ ap (λ (l : List ℕ). run ++ l) others)
]

pub respelled_as_it_is : (bytes : List ℕ) → are_spelled_whole bytes ≡ true → respelled bytes ≡ bytes
respelled_as_it_is bytes e = as_it_is between bytes e

-- ---- a walk over the numbers of a text

-- the rest answers as the whole, and stands behind so many bytes of the number
abbrev pub IsAt : Place → List ℕ → ℕ → List ℕ → List ℕ → Type 0
IsAt place number n rest text =
    (are_whole_from (place_view place (take n number)) rest ≡ are_spelled_whole text) × (drop n number ≡ rest) × (n + length rest ≡ length number) × (length number ≤ length text)

on_place : (place : Place) (b : ℕ) (run rest : List ℕ) → goes_on place b ≡ true → are_whole_from (place_view place run) (b ∷ rest) ≡ are_whole_from (in_number (run ++ b ∷ [])) rest
on_place places.Between b run rest e = absurd (not_both e)
on_place places.Text b run rest e = absurd (not_both e)
on_place places.Escape b run rest e = absurd (not_both e)
on_place places.Number b run rest e = rw e refl

add-one : (n : ℕ) → n + 1 ≡ suc n
add-one n = omega arith

one_more : (n : ℕ) (number rest others text : List ℕ) (b : ℕ) → rest ≡ b ∷ others → n + length rest ≡ length number → (n + 1) + length others ≡ length number
one_more n number rest others text b is e = let l = ap length is in omega (arith, l, e)

pub goes_on_at : (place : Place) (number rest others text : List ℕ) (n b : ℕ) → goes_on place b ≡ true → rest ≡ b ∷ others → IsAt place number n rest text → IsAt places.Number number (n + 1) others text
goes_on_at place number rest others text n b on is at =
    let here = at.1 ∙ is in
    let same = sym (on_place place b (take n number) others on) ∙ ap (are_whole_from (place_view place (take n number))) (sym is) ∙ at.0 in (
      ap (λ (run : List ℕ). are_whole_from (in_number run) others) (ap (λ k. take k number) (add-one n) ∙ grown n number b others here) ∙ same,
      ap (λ k. drop k number) (add-one n) ∙ shrunk n number b others here,
      one_more n number rest others text b is at.2,
      at.3,
    )

pub begins_at : (place next : Place) (number rest others text : List ℕ) (n b : ℕ)
    → rest ≡ b ∷ others
    → ((run rest : List ℕ) → are_whole_from (place_view place run) (b ∷ rest) ≡ (are_whole_from (place_view place run) [] && are_whole_from (place_view next (b ∷ [])) rest))
    → are_whole_from (place_view place (take n number)) [] ≡ true
    → IsAt place number n rest text → IsAt next rest 1 others text
begins_at place next number rest others text n b is anew well at =
    let both = anew (take n number) others in
    let whole : are_whole_from (place_view place (take n number)) (b ∷ others) ≡ are_whole_from (place_view next (b ∷ [])) others = both ∙ ap (λ x. x && are_whole_from (place_view next (b ∷ [])) others) well in
    let same = sym whole ∙ ap (are_whole_from (place_view place (take n number))) (sym is) ∙ at.0 in
    let size = ap length is in (
      ap (λ (run : List ℕ). are_whole_from (place_view next run) others) (ap (take 1) is) ∙ same,
      ap (drop 1) is,
      omega (arith, size),
      omega (arith, at.2, at.3),
    )
