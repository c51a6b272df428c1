-- A quoted text of plain ASCII is the line of an input.
use Rattle.std.proofs.lemmas.List.{drop-drop, length-take-le}
use Rattle.std.proofs.Common.{◌≡◌, ◌<◌, ◌≤◌, ◌+◌, ◌&&◌, ◌++◌, ℕ, zero, suc, Bool, true, false, List, [], ◌∷◌, length, take, drop, get_or, nat_lt, refl, sym, ap, ap₂, ◌∙◌, arith, take-append-drop}
use borrow.Author.Tests.{ltb-true}
use Rattle.std.specs.Prelude.{slice_index}
use Rattle.std.proofs.lemmas.Bool.{and_parts, ne_eqb}
use Rattle.std.specs.List.{list_all, onto_first, prefix_len, slice_split}
use Rattle.std.specs.Str.{IsAscii}
use Rattle.std.proofs.lemmas.Str.{IsUtf8-from_ascii}
use Rattle.std.proofs.lemmas.Str.Ascii.{IsAscii-nil}
use Rattle.std.proofs.lemmas.List.Sums.{prefix_len_passes, prefix_len-le-length}
use Rattle.std.proofs.lemmas.List.Splits.{slice_split-cons_no}
use Rattle.book_core.specs.Reading.{adds, is_feed, line_of, lines_of, read_line}
use Rattle.book_core.proofs.Cut.{lines_of-cut}
use Rattle.flag_text.specs.Plain.{is_plain}
use Rattle.page_tally.specs.Plain.{is_plain_ascii}
use Rattle.flag_text.proofs.Quoted.{tree_of-plain}

plain_from_ascii : (s : List ℕ) → list_all is_plain_ascii s ≡ true → list_all is_plain s ≡ true
plain_from_ascii [] all = refl
plain_from_ascii (b ∷ s) all =
    let p = and_parts (is_plain_ascii b) (list_all is_plain_ascii s) all in
    let q = and_parts (is_plain b) (nat_lt b 128) p.0 in
    ap₂ (λ x y. x && y) q.0 (plain_from_ascii s p.1)

ascii_below : (s : List ℕ) → list_all is_plain_ascii s ≡ true → IsAscii s
ascii_below [] all = λ i. IsAscii-nil i
ascii_below (b ∷ s) all =
    let p = and_parts (is_plain_ascii b) (list_all is_plain_ascii s) all in
    let q = and_parts (is_plain b) (nat_lt b 128) p.0 in
    let later = ascii_below s p.1 in
    λ i. elim i as (λ k. slice_index (b ∷ s) k < 128) [
      | zero ↦ ltb-true _ _ q.1
      | suc k ↦ later k
    ]

not_feed : (b : ℕ) → is_plain b ≡ true → is_feed b ≡ false
not_feed b h = ne_eqb b 10 (λ e. grind (arith, h, e))

-- the first line feed is the one behind the quote
split_plain : (s rest : List ℕ) → list_all is_plain s ≡ true → slice_split is_feed (s ++ 34 ∷ 10 ∷ rest) ≡ (s ++ 34 ∷ []) ∷ slice_split is_feed rest
split_plain [] rest all = refl
split_plain (b ∷ s) rest all =
    let p = and_parts (is_plain b) (list_all is_plain s) all in
    slice_split-cons_no is_feed b (s ++ 34 ∷ 10 ∷ rest) (not_feed b p.0) ∙ ap (onto_first b) (split_plain s rest p.1)

split_quoted : (s rest : List ℕ) → list_all is_plain s ≡ true → slice_split is_feed (34 ∷ (s ++ 34 ∷ 10 ∷ rest)) ≡ (34 ∷ (s ++ 34 ∷ [])) ∷ slice_split is_feed rest
split_quoted s rest all = slice_split-cons_no is_feed 34 (s ++ 34 ∷ 10 ∷ rest) refl ∙ ap (onto_first 34) (split_plain s rest all)

all_before : (p : ℕ → Bool) (xs : List ℕ) (i : ℕ) → ((k : ℕ) → k < i → p (get_or xs k 0) ≡ true) → i ≤ length xs → list_all p (take i xs) ≡ true
all_before p [] zero h fits = refl
all_before p [] (suc i) h fits = absurd (omega (arith, fits))
all_before p (x ∷ xs) zero h fits = refl
all_before p (x ∷ xs) (suc i) h fits = ap₂ (λ a b. a && b) (h 0 (omega arith)) (all_before p xs i (λ k below. h (suc k) (omega (arith, below))) (omega (arith, fits)))

quoted_line : (s : List ℕ) → list_all is_plain_ascii s ≡ true → line_of (34 ∷ (s ++ 34 ∷ [])) ≡ adds s
unfolding line_of
quoted_line s all =
    let bytes : List ℕ = 34 ∷ (s ++ 34 ∷ []) in
    ap read_line (tree_of-plain bytes s (length bytes) refl (plain_from_ascii s all) (IsUtf8-from_ascii s (ascii_below s all)) (omega arith))

-- what stands between a quote and the first byte that is not plain, where that is a quote before a line feed
pub plain_first : (bytes inner rest : List ℕ) (end : ℕ) → bytes ≡ 34 ∷ inner → end ≡ prefix_len is_plain_ascii inner → drop end inner ≡ 34 ∷ 10 ∷ rest → lines_of bytes ≡ adds (take end inner) ∷ lines_of rest
plain_first bytes inner rest end is found behind =
    let s = take end inner in
    let each : (k : ℕ) → k < end → is_plain_ascii (get_or inner k 0) ≡ true = λ k below. prefix_len_passes is_plain_ascii inner k 0 (omega (arith, below, found)) in
    let all : list_all is_plain_ascii s ≡ true = all_before is_plain_ascii inner end each (omega (arith, found, prefix_len-le-length is_plain_ascii inner)) in
    let whole : inner ≡ s ++ 34 ∷ 10 ∷ rest = sym (take-append-drop end inner) ∙ ap (λ r. s ++ r) behind in
    let split : slice_split is_feed bytes ≡ (34 ∷ (s ++ 34 ∷ [])) ∷ slice_split is_feed rest =
    ap (slice_split is_feed) (is ∙ ap (λ l. 34 ∷ l) whole) ∙ split_quoted s rest (plain_from_ascii s all) in
    lines_of-cut bytes (34 ∷ (s ++ 34 ∷ [])) rest split ∙ ap (λ l. l ∷ lines_of rest) (quoted_line s all)

-- what stands behind such a line
pub plain_behind : (bytes inner rest : List ℕ) (end : ℕ) → bytes ≡ 34 ∷ inner → end ≤ length inner → drop end inner ≡ 34 ∷ 10 ∷ rest → rest ≡ drop (length (take end inner) + 3) bytes
plain_behind bytes inner rest end is fits behind =
    let size : length (take end inner) + 3 ≡ suc (end + 2) = omega (arith, length-take-le end inner fits) in
    sym (ap (λ n. drop n bytes) size ∙ ap (drop (suc (end + 2))) is ∙ sym (drop-drop 2 end inner) ∙ ap (drop 2) behind)
