-- The lines of a page's notes differ only behind what they begin with.
use Rattle.std.proofs.Common.{◌≡◌, ◌≤◌, ◌+◌, ◌-◌, ℕ, true, nat_eq, List, [], ◌∷◌, ◌++◌, length, take, drop, append_assoc, decimal, refl, sym, ap, ap₂, ◌∙◌, arith}
use Rattle.std.proofs.lemmas.List.{take-append-drop}
use Rattle.std.specs.Cmp.Lexicographic.{pointwise, same_text}
use Rattle.std.specs.List.{list_all}
use Rattle.std.specs.Str.{IsUtf8}
use Rattle.json.specs.Print.{quoted}
use Rattle.serde_json.specs.Written.{compact_text}
use Rattle.flag_text.specs.Plain.{is_plain}
use Rattle.flag_text.specs.Printing.{data_of, text_of}
use Rattle.flag_text.specs.Shape.{text}
use Rattle.flag_text.proofs.Quoted.{quoted-plain}
use Rattle.book_core.specs.Page.{PageName}
use Rattle.book_core.specs.Printing.{by_shape}
use Rattle.note_tallies.specs.Head.{IsHead}
use Rattle.note_lines.specs.Note.{Noted, IsNote, most_noted, note_line}

abbrev pub of_page : PageName → List ℕ → Noted
of_page page input = record { page = page; input = input }

parts : (flag site by input : List ℕ) → (91 ∷ (flag ++ 44 ∷ (site ++ 44 ∷ (by ++ 44 ∷ (input ++ 93 ∷ []))))) ++ 10 ∷ [] ≡ (91 ∷ (flag ++ 44 ∷ (site ++ 44 ∷ (by ++ 44 ∷ [])))) ++ (input ++ 93 ∷ 10 ∷ [])
parts flag site by input = ap (λ (l : List ℕ). 91 ∷ l) (
    append_assoc flag (44 ∷ (site ++ 44 ∷ (by ++ 44 ∷ (input ++ 93 ∷ [])))) (10 ∷ [])
    ∙ ap (λ (l : List ℕ). flag ++ 44 ∷ l) (append_assoc site (44 ∷ (by ++ 44 ∷ (input ++ 93 ∷ []))) (10 ∷ []) ∙ ap (λ (l : List ℕ). site ++ 44 ∷ l) (append_assoc by (44 ∷ (input ++ 93 ∷ [])) (10 ∷ []) ∙ ap (λ (l : List ℕ). by ++ 44 ∷ l) (append_assoc input (93 ∷ []) (10 ∷ []))))
    ∙ sym (append_assoc flag (44 ∷ (site ++ 44 ∷ (by ++ 44 ∷ []))) (input ++ 93 ∷ 10 ∷ []) ∙ ap (λ (l : List ℕ). flag ++ 44 ∷ l) (append_assoc site (44 ∷ (by ++ 44 ∷ [])) (input ++ 93 ∷ 10 ∷ []) ∙ ap (λ (l : List ℕ). site ++ 44 ∷ l) (append_assoc by (44 ∷ []) (input ++ 93 ∷ 10 ∷ [])))))

abbrev before_input : PageName → List ℕ
before_input page = 91 ∷ (quoted page.flag ++ 44 ∷ (decimal page.site ++ 44 ∷ (compact_text (data_of (by_shape page.by)) ++ 44 ∷ [])))

line_of : (page : PageName) (input : List ℕ) → note_line (of_page page input) ≡ before_input page ++ (text_of (text input) ++ 93 ∷ 10 ∷ [])
unfolding note_line text_of
line_of page input = parts (quoted page.flag) (decimal page.site) (compact_text (data_of (by_shape page.by))) (quoted input)

empty_text : text_of (text []) ≡ 34 ∷ 34 ∷ []
empty_text = quoted-plain [] refl

taken : (xs ys : List ℕ) → take (length xs) (xs ++ ys) ≡ xs
taken [] ys = refl
taken (x ∷ xs) ys = ap (λ (l : List ℕ). x ∷ l) (taken xs ys)

length_four : (xs : List ℕ) → length (xs ++ 34 ∷ 34 ∷ 93 ∷ 10 ∷ []) ≡ length xs + 4
length_four [] = refl
length_four (x ∷ xs) = let more = length_four xs in omega (arith, more)

lengths : (xs line : List ℕ) (n : ℕ) → line ≡ xs ++ 34 ∷ 34 ∷ 93 ∷ 10 ∷ [] → n + 4 ≡ length line → n ≡ length xs
lengths xs line n whole many = let same = ap length whole in let sum = length_four xs in omega (arith, same, sum, many)

-- what is left of the line of the empty input without its last four bytes
pub head_of : (page : PageName) (line head : List ℕ) (n : ℕ) → line ≡ note_line (of_page page []) → n + 4 ≡ length line → head ≡ take n line → head ≡ before_input page
head_of page line head n is many cut =
    let whole : line ≡ before_input page ++ 34 ∷ 34 ∷ 93 ∷ 10 ∷ [] = is ∙ line_of page [] ∙ ap (λ (t : List ℕ). before_input page ++ (t ++ 93 ∷ 10 ∷ [])) empty_text in
    let short : n ≡ length (before_input page) = lengths (before_input page) line n whole many in
    cut ∙ ap (take n) whole ∙ ap (λ (m : ℕ). take m (before_input page ++ 34 ∷ 34 ∷ 93 ∷ 10 ∷ [])) short ∙ taken (before_input page) (34 ∷ 34 ∷ 93 ∷ 10 ∷ [])

pub is_head : (page : PageName) (line head : List ℕ) (n : ℕ) → line ≡ note_line (of_page page []) → n + 4 ≡ length line → head ≡ take n line → IsNote (of_page page []) → IsHead page head
is_head page line head n is many cut note =
    let same = head_of page line head n is many cut in
    record { lines = λ input. line_of page input ∙ ap (λ (h : List ℕ). h ++ (text_of (text input) ++ 93 ∷ 10 ∷ [])) (sym same); notes = note }

-- a line that begins so, and goes on with an input that needs no escape, is that of its note
pub of_plain : (page : PageName) (head line text_bytes input : List ℕ) → IsHead page head → line ≡ head ++ (text_bytes ++ 93 ∷ 10 ∷ []) → text_bytes ≡ 34 ∷ (input ++ 34 ∷ []) → list_all is_plain input ≡ true → line ≡ note_line (of_page page input)
of_plain page head line text_bytes input is spelled between plain =
    spelled ∙ ap (λ (t : List ℕ). head ++ (t ++ 93 ∷ 10 ∷ [])) (between ∙ sym (quoted-plain input plain)) ∙ sym (is.lines input)

pub plain_note : (page : PageName) (head input : List ℕ) → IsHead page head → IsUtf8 input → length input ≤ most_noted → IsNote (of_page page input)
plain_note page head input is u short = record { flag = is.notes.flag; site = is.notes.site; by = is.notes.by; input = u; short = short }

-- ---- what is left of a text without its beginning, and without its end

pub of_prefix : (prefix line rest : List ℕ) → pointwise nat_eq (take (length prefix) line) prefix ≡ true → rest ≡ drop (length prefix) line → line ≡ prefix ++ rest
of_prefix prefix line rest begins is =
    sym (take-append-drop (length prefix) line) ∙ ap₂ (λ (a b : List ℕ). a ++ b) (same_text (take (length prefix) line) prefix (sym begins)) (sym is)

pub of_suffix : (suffix whole rest : List ℕ) → pointwise nat_eq (drop (length whole - length suffix) whole) suffix ≡ true → rest ≡ take (length whole - length suffix) whole → whole ≡ rest ++ suffix
of_suffix suffix whole rest ends is =
    sym (take-append-drop (length whole - length suffix) whole) ∙ ap₂ (λ (a b : List ℕ). a ++ b) (sym is) (same_text (drop (length whole - length suffix) whole) suffix (sym ends))

pub at_least_four : (page : PageName) (line : List ℕ) → line ≡ note_line (of_page page []) → 4 ≤ length line
at_least_four page line is =
    let whole : line ≡ before_input page ++ 34 ∷ 34 ∷ 93 ∷ 10 ∷ [] = is ∙ line_of page [] ∙ ap (λ (t : List ℕ). before_input page ++ (t ++ 93 ∷ 10 ∷ [])) empty_text in
    let same = ap length whole in
    let sum = length_four (before_input page) in
    omega (arith, same, sum)
