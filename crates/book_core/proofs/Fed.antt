-- A compact JSON text has no line feed.
use Rattle.std.proofs.Common.{◌≡◌, ℕ, ◌+◌, ◌/◌, ◌%◌, ◌<◌, ◌≤◌, ◌^◌, ⊎_elim, Bool, true, false, cond, ◌||◌, ◌==◌, nat_lt, List, [], ◌∷◌, ◌++◌, Option, Some, None, codes, refl, subst, arith}
use borrow.Author.Tests.{ltb-false}
use Rattle.std.specs.Char.{digit_char, digit_value}
use Rattle.std.specs.Fmt.{decimal}
use Rattle.std.specs.List.{AllByRecursion}
use Rattle.std.specs.Str.Parse.{AllDigits}
use Rattle.std.proofs.lemmas.Bool.{eqb-true, ne_eqb, or_cases}
use Rattle.std.proofs.lemmas.Fmt.{decimal_is_IsNumeral}
use Rattle.json.specs.Print.{escape_byte, escape_letter, escape, quoted}
use Rattle.flag_text.specs.Printing.{text_of}
use Rattle.flag_text.specs.Shape.{text}
use Rattle.book_core.specs.Page.{PageName}
use Rattle.book_core.specs.Printing.{header_shape, by_shape, page_shape}
use Rattle.book_core.specs.Reading.{is_feed}

abbrev pub NoFeed : List ℕ → Type 0
NoFeed bytes = AllByRecursion (λ (b : ℕ). is_feed b ≡ false) bytes

no_feed-append : (xs ys : List ℕ) → NoFeed xs → NoFeed ys → NoFeed (xs ++ ys)
no_feed-append [] ys first later = later
no_feed-append (x ∷ xs) ys first later = (first.0, no_feed-append xs ys first.1 later)

no_feed-above : (x : ℕ) → 11 ≤ x → is_feed x ≡ false
no_feed-above x above = ne_eqb x 10 (λ e. omega (arith, e, above))

no_feed-digit : (d : ℕ) → is_feed (digit_char d) ≡ false
no_feed-digit d = elim (nat_lt d 10) as (λ b. is_feed (cond b (48 + d) (87 + d)) ≡ false) [ true ↦ no_feed-above (48 + d) (omega arith) | false ↦ no_feed-above (87 + d) (omega arith) ]

no_feed-letters : (a b c d e f : Bool) (x : ℕ) → (a ≡ true → is_feed x ≡ false) → is_feed (cond a x (cond b 98 (cond c 102 (cond d 110 (cond e 114 (cond f 116 0)))))) ≡ false
no_feed-letters true b c d e f x own = own refl
no_feed-letters false true c d e f x own = refl
no_feed-letters false false true d e f x own = refl
no_feed-letters false false false true e f x own = refl
no_feed-letters false false false false true f x own = refl
no_feed-letters false false false false false true x own = refl
no_feed-letters false false false false false false x own = refl

no_feed-letter : (x : ℕ) → is_feed (escape_letter x) ≡ false
no_feed-letter x =
    no_feed-letters ((x == 34) || (x == 92)) (x == 8) (x == 12) (x == 10) (x == 13) (x == 9) x (λ e.
    ⊎_elim
    (λ (quote : (x == 34) ≡ true). no_feed-above x (omega (arith, eqb-true x 34 quote)))
    (λ (slash : (x == 92) ≡ true). no_feed-above x (omega (arith, eqb-true x 92 slash)))
    (or_cases (x == 34) (x == 92) e))

no_feed-escape_byte : (x : ℕ) → NoFeed (escape_byte x)
unfolding escape_byte
no_feed-escape_byte x =
    let letter = no_feed-letter x in
    let high : nat_lt x 32 ≡ false → is_feed x ≡ false = λ e. no_feed-above x (omega (arith, ltb-false x 32 e)) in
    let rest : NoFeed (cond (nat_lt x 32) (92 ∷ 117 ∷ 48 ∷ 48 ∷ digit_char (x / 16) ∷ digit_char (x % 16) ∷ []) (x ∷ [])) =
    elim (nat_lt x 32) as (λ b. (b ≡ false → is_feed x ≡ false) → NoFeed (cond b (92 ∷ 117 ∷ 48 ∷ 48 ∷ digit_char (x / 16) ∷ digit_char (x % 16) ∷ []) (x ∷ []))) [
      | true ↦ λ _. (refl, (refl, (refl, (refl, (no_feed-digit (x / 16), (no_feed-digit (x % 16), tt))))))
      | false ↦ λ own. (own refl, tt)
    ] high in
    elim (nat_lt 0 (escape_letter x)) as (λ b. NoFeed (cond b (92 ∷ escape_letter x ∷ []) (cond (nat_lt x 32) (92 ∷ 117 ∷ 48 ∷ 48 ∷ digit_char (x / 16) ∷ digit_char (x % 16) ∷ []) (x ∷ [])))) [
      | true ↦ (refl, (letter, tt))
      | false ↦ rest
    ]

no_feed-escape : (s : List ℕ) → NoFeed (escape s)
no_feed-escape [] = tt
no_feed-escape (x ∷ xs) = no_feed-append (escape_byte x) (escape xs) (no_feed-escape_byte x) (no_feed-escape xs)

no_feed-quoted : (s : List ℕ) → NoFeed (quoted s)
no_feed-quoted s = (refl, no_feed-append (escape s) (34 ∷ []) (no_feed-escape s) (refl, tt))

no_feed-digits : (ds : List ℕ) → AllDigits 10 ds → NoFeed ds
no_feed-digits [] all = tt
no_feed-digits (d ∷ ds) all =
    let here : is_feed d ≡ false = ne_eqb d 10 (λ e. let low : digit_value 10 < 10 = subst (λ x. digit_value x < 10) e all.0 in omega (arith, low)) in
    (here, no_feed-digits ds all.1)

no_feed-decimal : (n : ℕ) → n < 2 ^ 64 → NoFeed (decimal n)
no_feed-decimal n small = no_feed-digits (decimal n) (decimal_is_IsNumeral n small).0.1

pub no_feed-input : (s : List ℕ) → NoFeed (text_of (text s))
unfolding text_of
no_feed-input s = no_feed-quoted s

pub no_feed-header : NoFeed (text_of header_shape)
unfolding text_of escape_byte
no_feed-header =
    let digits = no_feed-append (decimal 1) (125 ∷ []) (no_feed-decimal 1 (omega arith)) (refl, tt) in
    (refl, (refl, (refl, (refl, (refl, (refl, (refl, (refl, digits))))))))

no_feed-member : (k d rest : List ℕ) → NoFeed d → NoFeed rest → NoFeed (quoted k ++ 58 ∷ (d ++ rest))
no_feed-member k d rest here later = no_feed-append (quoted k) (58 ∷ (d ++ rest)) (no_feed-quoted k) (refl, no_feed-append d rest here later)

no_feed-by : (by : Option (List ℕ)) → NoFeed (text_of (by_shape by))
unfolding text_of
no_feed-by None = (refl, (refl, (refl, (refl, tt))))
no_feed-by (Some s) = no_feed-quoted s

pub no_feed-page : (page : PageName) → page.site < 2 ^ 32 → NoFeed (text_of (page_shape page))
unfolding text_of
no_feed-page page small =
    let site = quoted (codes "site") ++ 58 ∷ (decimal page.site ++ 125 ∷ []) in
    let flag = quoted (codes "flag") ++ 58 ∷ (quoted page.flag ++ 44 ∷ site) in
    let ends : NoFeed site = no_feed-member (codes "site") (decimal page.site) (125 ∷ []) (no_feed-decimal page.site (omega arith)) (refl, tt) in
    let goes : NoFeed flag = no_feed-member (codes "flag") (quoted page.flag) (44 ∷ site) (no_feed-quoted page.flag) (refl, ends) in
    (refl, no_feed-member (codes "by") (text_of (by_shape page.by)) (44 ∷ flag) (no_feed-by page.by) (refl, goes))
