-- A line with a hash ends with a digit, and one with an input with a quotation mark, so that no line is of both kinds.
use Rattle.std.proofs.Common.{◌≡◌, ◌≢◌, ◌<◌, ◌≤◌, ◌+◌, ◌-◌, ◌^◌, ℕ, Bool, true, false, not, nat_eq, List, [], ◌∷◌, ◌++◌, length, drop, append_assoc, decimal, pos, refl, sym, ap, ◌∙◌, subst, arith}
use Rattle.std.specs.List.{ends_with}
use Rattle.std.specs.Char.{digit_value}
use Rattle.std.specs.Str.Parse.{AllDigits}
use Rattle.std.proofs.lemmas.Bool.{ne_eqb}
use Rattle.std.proofs.lemmas.Fmt.{decimal_is_IsNumeral}
use Rattle.json.specs.Print.{escape, quoted}
use Rattle.serde_json.specs.Written.{compact_text}
use Rattle.flag_text.specs.Printing.{data_of, text_of}
use Rattle.flag_text.specs.Shape.{Shape, text, whole}
use Rattle.book_core.specs.Page.{PageName}
use Rattle.book_core.specs.Printing.{by_shape, line_text}
use Rattle.note_lines.specs.Hashed.{Hashed, IsHashed, has_hash, hashed_line}
use Rattle.note_lines.specs.Note.{Noted, note_line, parts_shape}

-- ---- what stands before the last part

parts : (flag site by last : List ℕ) → (91 ∷ (flag ++ 44 ∷ (site ++ 44 ∷ (by ++ 44 ∷ (last ++ 93 ∷ []))))) ++ 10 ∷ [] ≡ (91 ∷ (flag ++ 44 ∷ (site ++ 44 ∷ (by ++ 44 ∷ [])))) ++ (last ++ 93 ∷ 10 ∷ [])
parts flag site by last = ap (λ (l : List ℕ). 91 ∷ l) (
    append_assoc flag (44 ∷ (site ++ 44 ∷ (by ++ 44 ∷ (last ++ 93 ∷ [])))) (10 ∷ [])
    ∙ ap (λ (l : List ℕ). flag ++ 44 ∷ l) (append_assoc site (44 ∷ (by ++ 44 ∷ (last ++ 93 ∷ []))) (10 ∷ []) ∙ ap (λ (l : List ℕ). site ++ 44 ∷ l) (append_assoc by (44 ∷ (last ++ 93 ∷ [])) (10 ∷ []) ∙ ap (λ (l : List ℕ). by ++ 44 ∷ l) (append_assoc last (93 ∷ []) (10 ∷ []))))
    ∙ sym (append_assoc flag (44 ∷ (site ++ 44 ∷ (by ++ 44 ∷ []))) (last ++ 93 ∷ 10 ∷ []) ∙ ap (λ (l : List ℕ). flag ++ 44 ∷ l) (append_assoc site (44 ∷ (by ++ 44 ∷ [])) (last ++ 93 ∷ 10 ∷ []) ∙ ap (λ (l : List ℕ). site ++ 44 ∷ l) (append_assoc by (44 ∷ []) (last ++ 93 ∷ 10 ∷ [])))))

abbrev pub before_last : PageName → List ℕ
before_last page = 91 ∷ (quoted page.flag ++ 44 ∷ (decimal page.site ++ 44 ∷ (compact_text (data_of (by_shape page.by)) ++ 44 ∷ [])))

pub line_of : (page : PageName) (last : Shape) → line_text (parts_shape page last) ≡ before_last page ++ (text_of last ++ 93 ∷ 10 ∷ [])
unfolding text_of
line_of page last = parts (quoted page.flag) (decimal page.site) (compact_text (data_of (by_shape page.by))) (compact_text (data_of last))

-- ---- the byte before the bracket

behind : (xs ys : List ℕ) → drop (length xs) (xs ++ ys) ≡ ys
behind [] ys = refl
behind (x ∷ xs) ys = behind xs ys

length_three : (xs : List ℕ) (b : ℕ) → length (xs ++ b ∷ 93 ∷ 10 ∷ []) ≡ length xs + 3
length_three [] b = refl
length_three (x ∷ xs) b = let more = length_three xs b in omega (arith, more)

last_three : (xs : List ℕ) (b : ℕ) → drop (length (xs ++ b ∷ 93 ∷ 10 ∷ []) - 3) (xs ++ b ∷ 93 ∷ 10 ∷ []) ≡ b ∷ 93 ∷ 10 ∷ []
last_three xs b =
    let size : length (xs ++ b ∷ 93 ∷ 10 ∷ []) - 3 ≡ length xs = omega (arith, length_three xs b) in
    ap (λ (n : ℕ). drop n (xs ++ b ∷ 93 ∷ 10 ∷ [])) size ∙ behind xs (b ∷ 93 ∷ 10 ∷ [])

kind_by : (xs : List ℕ) (b : ℕ) → has_hash (xs ++ b ∷ 93 ∷ 10 ∷ []) ≡ has_hash (b ∷ 93 ∷ 10 ∷ [])
kind_by xs b = rw (last_three xs b) refl

pub input_kind : (note : Noted) → has_hash (note_line note) ≡ false
unfolding note_line text_of
input_kind note =
    let before = before_last note.page in
    let front = before ++ 34 ∷ escape note.input in
    let whole : note_line note ≡ front ++ 34 ∷ 93 ∷ 10 ∷ [] =
    line_of note.page (text note.input)
    ∙ ap (λ (l : List ℕ). before ++ 34 ∷ l) (append_assoc (escape note.input) (34 ∷ []) (93 ∷ 10 ∷ []))
    ∙ sym (append_assoc before (34 ∷ escape note.input) (34 ∷ 93 ∷ 10 ∷ [])) in
    ap has_hash whole ∙ kind_by front 34

-- the last of some digits is no quotation mark
record EndsWithDigit (ds : List ℕ) : Type 0 where
  front : List ℕ
  digit : ℕ
  parts : ds ≡ front ++ digit ∷ []
  other : nat_eq 34 digit ≡ false

digit_other : (d : ℕ) → AllDigits 10 (d ∷ []) → nat_eq 34 d ≡ false
digit_other d is = ne_eqb 34 d (λ (same : 34 ≡ d).
    let low : digit_value 34 < 10 = subst (λ (n : ℕ). digit_value n < 10) (sym same) is.0 in
    absurd (omega (arith, low)))

last_digit : (d : ℕ) (ds : List ℕ) → AllDigits 10 (d ∷ ds) → EndsWithDigit (d ∷ ds)
last_digit d [] is = record { front = []; digit = d; parts = refl; other = digit_other d is }
last_digit d (e ∷ ds) is =
    let rest = last_digit e ds is.1 in
    record { front = d ∷ rest.front; digit = rest.digit; parts = ap (λ (l : List ℕ). d ∷ l) rest.parts; other = rest.other }

number_digit : (ds : List ℕ) → 0 < length ds → AllDigits 10 ds → EndsWithDigit ds
number_digit [] some is = absurd (omega (arith, some))
number_digit (d ∷ ds) some is = last_digit d ds is

digit_kind : (b : ℕ) → nat_eq 34 b ≡ false → has_hash (b ∷ 93 ∷ 10 ∷ []) ≡ true
digit_kind b other = rw other refl

pub hash_kind : (note : Hashed) → IsHashed note → has_hash (hashed_line note) ≡ true
unfolding hashed_line text_of
hash_kind note is =
    let before = before_last note.page in
    let numeral = (decimal_is_IsNumeral note.hash (omega (arith, is.hash))).0 in
    let ends = number_digit (decimal note.hash) numeral.0 numeral.1 in
    let whole : hashed_line note ≡ (before ++ ends.front) ++ ends.digit ∷ 93 ∷ 10 ∷ [] =
    line_of note.page (whole (pos note.hash))
    ∙ ap (λ (l : List ℕ). before ++ (l ++ 93 ∷ 10 ∷ [])) ends.parts
    ∙ ap (λ (l : List ℕ). before ++ l) (append_assoc ends.front (ends.digit ∷ []) (93 ∷ 10 ∷ []))
    ∙ sym (append_assoc before ends.front (ends.digit ∷ 93 ∷ 10 ∷ [])) in
    ap has_hash whole ∙ kind_by (before ++ ends.front) ends.digit ∙ digit_kind ends.digit ends.other

pub not_both : (note : Noted) (other : Hashed) → IsHashed other → note_line note ≢ hashed_line other
not_both note other is same =
    let input : has_hash (note_line note) ≡ false = input_kind note in
    let hash : has_hash (note_line note) ≡ true = ap has_hash same ∙ hash_kind other is in
    cc
