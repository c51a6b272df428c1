-- The second line has no line feed within, so it is told by the bytes that begin with it.
use Rattle.std.proofs.Common.{◌≡◌, ◌≢◌, ◌<◌, ◌^◌, ◌==◌, ◌+◌, ℕ, suc, true, false, List, [], ◌∷◌, ◌++◌, codes, Option, Some, None, length, take, get_or, zero, count_by, if◌then◌else◌, refl, sym, ap, ap₂, ◌∙◌, subst, arith}
use Rattle.std.specs.Char.{digit_value}
use Rattle.std.specs.Fmt.{decimal}
use Rattle.std.specs.List.{AllByRecursion, position, slice_split}
use Rattle.std.proofs.lemmas.List.Quantifiers.{position-Some}
use Rattle.std.proofs.lemmas.List.Splits.{length-slice_split}
use Rattle.std.proofs.lemmas.List.Sums.{sum_by-append, sum_by-cons}
use Rattle.book_core.proofs.Cut.{cut_none}
use Rattle.std.specs.Str.Parse.{AllDigits}
use Rattle.std.proofs.lemmas.Bool.{eq-eqb, ne_eqb}
use Rattle.std.proofs.lemmas.Fmt.{decimal_is_IsNumeral}
use Rattle.json.specs.Print.{quoted}
use Rattle.flag_text.specs.Printing.{text_of}
use Rattle.flag_text.specs.Shape.{text}
use Rattle.book_core.specs.Printing.{by_shape}
use Rattle.book_core.proofs.Fed.{no_feed-input}
use Rattle.note_tallies.specs.Cut.{HasNoFeed}
use Rattle.note_tallies.specs.File.{Head, head_shape, end_shape, without_feed}

append : (xs ys : List ℕ) → HasNoFeed xs → HasNoFeed ys → HasNoFeed (xs ++ ys)
append [] ys first later = later
append (x ∷ xs) ys first later = (first.0, append xs ys first.1 later)

in_quotes : (s : List ℕ) → HasNoFeed (quoted s)
unfolding text_of
in_quotes s = no_feed-input s

digits : (ds : List ℕ) → AllDigits 10 ds → HasNoFeed ds
digits [] all = tt
digits (d ∷ ds) all =
    let here : (d == 10) ≡ false = ne_eqb d 10 (λ e. let low : digit_value 10 < 10 = subst (λ x. digit_value x < 10) e all.0 in omega (arith, low)) in
    (here, digits ds all.1)

number : (n : ℕ) → n < 2 ^ 64 → HasNoFeed (decimal n)
number n small = digits (decimal n) (decimal_is_IsNumeral n small).0.1

of_member : (k d rest : List ℕ) → HasNoFeed d → HasNoFeed rest → HasNoFeed (quoted k ++ 58 ∷ (d ++ rest))
of_member k d rest here later = append (quoted k) (58 ∷ (d ++ rest)) (in_quotes k) (refl, append d rest here later)

of_by : (by : Option (List ℕ)) → HasNoFeed (text_of (by_shape by))
unfolding text_of
of_by None = (refl, (refl, (refl, (refl, tt))))
of_by (Some s) = in_quotes s

of_end : (end : Option (List ℕ)) → HasNoFeed (text_of (end_shape end))
unfolding text_of
of_end None = (refl, (refl, (refl, (refl, tt))))
of_end (Some line) = in_quotes (without_feed line)

pub of_head : (h : Head) → h.page.site < 2 ^ 32 → h.inputs < 2 ^ 53 → h.total < 2 ^ 32 → HasNoFeed (text_of (head_shape h))
unfolding text_of
of_head h site inputs total =
    let total_text = quoted (codes "total") ++ 58 ∷ (decimal h.total ++ 125 ∷ []) in
    let site_text = quoted (codes "site") ++ 58 ∷ (decimal h.page.site ++ 44 ∷ total_text) in
    let last_text = quoted (codes "last") ++ 58 ∷ (text_of (end_shape h.last) ++ 44 ∷ site_text) in
    let inputs_text = quoted (codes "inputs") ++ 58 ∷ (decimal h.inputs ++ 44 ∷ last_text) in
    let flag_text = quoted (codes "flag") ++ 58 ∷ (quoted h.page.flag ++ 44 ∷ inputs_text) in
    let first_text = quoted (codes "first") ++ 58 ∷ (text_of (end_shape h.first) ++ 44 ∷ flag_text) in
    let a : HasNoFeed total_text = of_member (codes "total") (decimal h.total) (125 ∷ []) (number h.total (omega (arith, total))) (refl, tt) in
    let b : HasNoFeed site_text = of_member (codes "site") (decimal h.page.site) (44 ∷ total_text) (number h.page.site (omega (arith, site))) (refl, a) in
    let d : HasNoFeed last_text = of_member (codes "last") (text_of (end_shape h.last)) (44 ∷ site_text) (of_end h.last) (refl, b) in
    let e : HasNoFeed inputs_text = of_member (codes "inputs") (decimal h.inputs) (44 ∷ last_text) (number h.inputs (omega (arith, inputs))) (refl, d) in
    let f : HasNoFeed flag_text = of_member (codes "flag") (quoted h.page.flag) (44 ∷ inputs_text) (in_quotes h.page.flag) (refl, e) in
    let g : HasNoFeed first_text = of_member (codes "first") (text_of (end_shape h.first)) (44 ∷ flag_text) (of_end h.first) (refl, f) in
    (refl, of_member (codes "by") (text_of (by_shape h.page.by)) (44 ∷ first_text) (of_by h.page.by) (refl, g))

-- ---- the bytes up to a line feed

same_byte : (x y : ℕ) (xs ys : List ℕ) → x ∷ xs ≡ y ∷ ys → (x ≡ y) × (xs ≡ ys)
same_byte x y xs ys e = (cc, cc)

pub one_line : (xs ys rest more : List ℕ) → HasNoFeed xs → HasNoFeed ys → xs ++ 10 ∷ rest ≡ ys ++ 10 ∷ more → (xs ≡ ys) × (rest ≡ more)
one_line [] [] rest more one other is = (refl, (same_byte 10 10 rest more is).1)
one_line [] (y ∷ ys) rest more one other is =
    let feed : (y == 10) ≡ true = eq-eqb y 10 (let e : 10 ≡ y = (same_byte 10 y rest (ys ++ 10 ∷ more) is).0 in cc) in
    let none : (y == 10) ≡ false = other.0 in
    cc
one_line (x ∷ xs) [] rest more one other is =
    let feed : (x == 10) ≡ true = eq-eqb x 10 ((same_byte x 10 (xs ++ 10 ∷ rest) more is).0) in
    let none : (x == 10) ≡ false = one.0 in
    cc
one_line (x ∷ xs) (y ∷ ys) rest more one other is =
    let parts = same_byte x y (xs ++ 10 ∷ rest) (ys ++ 10 ∷ more) is in
    let later = one_line xs ys rest more one.1 other.1 parts.1 in
    (ap₂ (λ (b : ℕ) (bs : List ℕ). b ∷ bs) parts.0 later.0, later.1)

-- those before the first line feed have none
pub none_before : (xs : List ℕ) (at : ℕ) → at < length xs → ((k : ℕ) → k < at → (get_or xs k 0 == 10) ≡ false) → HasNoFeed (take at xs)
none_before [] zero within none = tt
none_before [] (suc at) within none = absurd (omega (arith, within))
none_before (x ∷ xs) zero within none = tt
none_before (x ∷ xs) (suc at) within none = (none 0 (omega arith), none_before xs at (omega (arith, within)) (λ k below. none (suc k) (omega (arith, below))))

pub cut_feed : (bytes : List ℕ) (at : ℕ) → Some at ≡ position (λ b. b == 10) bytes → HasNoFeed (take at bytes)
cut_feed bytes at first =
    let here = position-Some (λ b. b == 10) bytes at 0 (sym first) in
    none_before bytes at here.0 here.2

pub no_feed_nowhere : (bytes line rest : List ℕ) → None ≡ position (λ b. b == 10) bytes → bytes ≢ line ++ 10 ∷ rest
no_feed_nowhere bytes line rest first is =
    let parts = length-slice_split (λ (b : ℕ). b == 10) bytes in
    let one : length (slice_split (λ (b : ℕ). b == 10) bytes) ≡ 1 = ap length (cut_none (λ (b : ℕ). b == 10) bytes first) in
    let count : count_by (λ (b : ℕ). b == 10) bytes ≡ count_by (λ (b : ℕ). b == 10) (line ++ 10 ∷ rest) = ap (count_by (λ (b : ℕ). b == 10)) is in
    let split = sum_by-append (λ (b : ℕ). if b == 10 then 1 else 0) line (10 ∷ rest) in
    let more = sum_by-cons (λ (b : ℕ). if b == 10 then 1 else 0) 10 rest in
    omega (arith, parts, one, count, split, more)
