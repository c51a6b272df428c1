-- A string reads alike whatever stands behind its closing quote.
use Rattle.std.proofs.Common.{◌≡◌, ℕ, ◌+◌, Bool, true, false, cond, ◌&&◌, ◌==◌, nat_lt, List, [], ◌∷◌, ◌++◌, drop, Option, Some, None, option_and_then, refl, sym, ap, ◌∙◌, subst, true≢false}
use Rattle.std.proofs.lemmas.Bool.{and_parts, eqb-true}
use Rattle.std.specs.Char.{encode_utf8, is_digit}
use Rattle.json.specs.Align.{span, span_byte}
use Rattle.json.specs.Lex.{Mode, backslash, between, in_escape, in_string, lex, operator, other, quote, space}
use Rattle.json.specs.Text.{Within, after_backslash, after_high, after_u, code_unit, content, is_high_surrogate, is_low_surrogate, plain, prepend, short_escape, surrogate_pair}
use Rattle.json.specs.Word.{is_operator, is_space}
use Rattle.text_spans.proofs.Lexing.{escaped, string_closed, string_escapes, string_goes}
use Rattle.product_laws.proofs.Words.{one_more}

-- how the lexer stands within a string
abbrev pub mode_of : Within → Mode
mode_of plain = in_string
mode_of after_backslash = in_escape
mode_of after_u = in_string
mode_of (after_high h) = in_string

-- Within a string there are so many bytes up to its closing quote, whatever stands behind it.
pub record Closes (m : Within) (xs s : List ℕ) : Type 0 where
  pub bytes : List ℕ
  pub rest : List ℕ
  pub is : xs ≡ bytes ++ rest
  pub passed : drop (span (mode_of m) xs) xs ≡ rest
  pub again : (r : List ℕ) → content m (bytes ++ r) ≡ Some s
  pub lexed : (r : List ℕ) → lex (mode_of m) (bytes ++ r) ≡ lex between r
  pub front : List ℕ
  pub quoted : bytes ≡ front ++ 34 ∷ []

-- ---- a byte that is passed over

passes : (o s : Bool) (k : Mode → ℕ) → span_byte in_string (cond o operator (cond s space other)) k ≡ 1 + k in_string
passes true s k = refl
passes false true k = refl
passes false false k = refl

span_goes : (x : ℕ) (xs : List ℕ) → (x == 34) ≡ false → (x == 92) ≡ false → span in_string (x ∷ xs) ≡ 1 + span in_string xs
unfolding span
span_goes x xs q b =
    ap (λ i. span_byte in_string (cond i quote (cond (x == 92) backslash (cond (is_operator x) operator (cond (is_space x) space other)))) (λ n. span n xs)) q
    ∙ ap (λ i. span_byte in_string (cond i backslash (cond (is_operator x) operator (cond (is_space x) space other))) (λ n. span n xs)) b
    ∙ passes (is_operator x) (is_space x) (λ n. span n xs)

span_closes : (xs : List ℕ) → span in_string (34 ∷ xs) ≡ 1
unfolding span
span_closes xs = refl

span_escapes : (xs : List ℕ) → span in_string (92 ∷ xs) ≡ 1 + span in_escape xs
unfolding span
span_escapes xs = refl

span_escaped : (x : ℕ) (xs : List ℕ) → span in_escape (x ∷ xs) ≡ 1 + span in_string xs
unfolding span
span_escaped x xs = refl

goes_past : (x : ℕ) (xs : List ℕ) → (x == 34) ≡ false → (x == 92) ≡ false → drop (span in_string (x ∷ xs)) (x ∷ xs) ≡ drop (span in_string xs) xs
goes_past x xs q b = ap (λ n. drop n (x ∷ xs)) (span_goes x xs q b) ∙ one_more (span in_string xs) x xs

escapes_past : (xs : List ℕ) → drop (span in_string (92 ∷ xs)) (92 ∷ xs) ≡ drop (span in_escape xs) xs
escapes_past xs = ap (λ n. drop n (92 ∷ xs)) (span_escapes xs) ∙ one_more (span in_escape xs) 92 xs

escaped_past : (x : ℕ) (xs : List ℕ) → drop (span in_escape (x ∷ xs)) (x ∷ xs) ≡ drop (span in_string xs) xs
escaped_past x xs = ap (λ n. drop n (x ∷ xs)) (span_escaped x xs) ∙ one_more (span in_string xs) x xs

-- ---- what the bytes stand for

prepended : (bs : List ℕ) (o : Option (List ℕ)) (s : List ℕ) → prepend bs o ≡ Some s → (t : List ℕ) × (o ≡ Some t) × (bs ++ t ≡ s)
prepended bs None s e = cc
prepended bs (Some t) s e = (t, refl, cc)

closing : (xs s : List ℕ) → Some [] ≡ Some s → Closes plain (34 ∷ xs) s
unfolding content
closing xs s e = record {
  bytes = 34 ∷ [];
  rest = xs;
  is = refl;
  passed = ap (λ n. drop n (34 ∷ xs)) (span_closes xs);
  again = λ r. e;
  lexed = λ r. string_closed r;
  front = [];
  quoted = refl;
}

slashed : (xs s : List ℕ) → Closes after_backslash xs s → Closes plain (92 ∷ xs) s
unfolding content
slashed xs s c = record {
  bytes = 92 ∷ c.bytes;
  rest = c.rest;
  is = ap (λ l. 92 ∷ l) c.is;
  passed = escapes_past xs ∙ c.passed;
  again = λ r. c.again r;
  lexed = λ r. string_escapes (c.bytes ++ r) ∙ c.lexed r;
  front = 92 ∷ c.front;
  quoted = ap (λ l. 92 ∷ l) c.quoted;
}

byte_passed : (x : ℕ) (xs s t : List ℕ) → (x == 34) ≡ false → (x == 92) ≡ false → nat_lt x 32 ≡ false → x ∷ t ≡ s → Closes plain xs t → Closes plain (x ∷ xs) s
unfolding content
byte_passed x xs s t q b low same c = record {
  bytes = x ∷ c.bytes;
  rest = c.rest;
  is = ap (λ l. x ∷ l) c.is;
  passed = goes_past x xs q b ∙ c.passed;
  again = λ r. rw (q, b, low) (ap (prepend (x ∷ [])) (c.again r) ∙ ap Some same);
  lexed = λ r. string_goes x (c.bytes ++ r) q b ∙ c.lexed r;
  front = x ∷ c.front;
  quoted = ap (λ l. x ∷ l) c.quoted;
}

plain_byte : (x : ℕ) (xs s : List ℕ) → ((t : List ℕ) → content after_backslash xs ≡ Some t → Closes after_backslash xs t) → ((t : List ℕ) → content plain xs ≡ Some t → Closes plain xs t)
    → cond (x == 34) (Some []) (cond (x == 92) (content after_backslash xs) (cond (nat_lt x 32) None (prepend (x ∷ []) (content plain xs)))) ≡ Some s → Closes plain (x ∷ xs) s
plain_byte x xs s slash more e = at (x == 34) (x == 92) (nat_lt x 32) refl refl refl e
  where
    at : (q b low : Bool) → (x == 34) ≡ q → (x == 92) ≡ b → nat_lt x 32 ≡ low → cond q (Some []) (cond b (content after_backslash xs) (cond low None (prepend (x ∷ []) (content plain xs)))) ≡ Some s → Closes plain (x ∷ xs) s
    at true b low hq hb hl e = subst (λ y. Closes plain (y ∷ xs) s) (sym (eqb-true x 34 hq)) (closing xs s e)
    at false true low hq hb hl e = subst (λ y. Closes plain (y ∷ xs) s) (sym (eqb-true x 92 hb)) (slashed xs s (slash s e))
    at false false true hq hb hl e = cc
    at false false false hq hb hl e = let p = prepended (x ∷ []) (content plain xs) s e in byte_passed x xs s p.0 hq hb hl p.2 (more p.0 p.1)

unit_escape : (xs s : List ℕ) → Closes after_u xs s → Closes after_backslash (117 ∷ xs) s
unfolding content
unit_escape xs s c = record {
  bytes = 117 ∷ c.bytes;
  rest = c.rest;
  is = ap (λ l. 117 ∷ l) c.is;
  passed = escaped_past 117 xs ∙ c.passed;
  again = λ r. c.again r;
  lexed = λ r. escaped 117 (c.bytes ++ r) ∙ c.lexed r;
  front = 117 ∷ c.front;
  quoted = ap (λ l. 117 ∷ l) c.quoted;
}

short : (x : ℕ) (xs s t : List ℕ) (o : Option ℕ) (c : ℕ) → (x == 117) ≡ false → short_escape x ≡ Some c → c ∷ t ≡ s → Closes plain xs t → Closes after_backslash (x ∷ xs) s
unfolding content
short x xs s t o c u is same more = record {
  bytes = x ∷ more.bytes;
  rest = more.rest;
  is = ap (λ l. x ∷ l) more.is;
  passed = escaped_past x xs ∙ more.passed;
  again = λ r. rw (u, is) (ap (prepend (c ∷ [])) (more.again r) ∙ ap Some same);
  lexed = λ r. escaped x (more.bytes ++ r) ∙ more.lexed r;
  front = x ∷ more.front;
  quoted = ap (λ l. x ∷ l) more.quoted;
}

escaped_byte : (x : ℕ) (xs s : List ℕ) → ((t : List ℕ) → content after_u xs ≡ Some t → Closes after_u xs t) → ((t : List ℕ) → content plain xs ≡ Some t → Closes plain xs t)
    → cond (x == 117) (content after_u xs) (option_and_then (λ c. prepend (c ∷ []) (content plain xs)) (short_escape x)) ≡ Some s → Closes after_backslash (x ∷ xs) s
escaped_byte x xs s unit more e = at (x == 117) (short_escape x) refl refl e
  where
    at : (u : Bool) (o : Option ℕ) → (x == 117) ≡ u → short_escape x ≡ o → cond u (content after_u xs) (option_and_then (λ c. prepend (c ∷ []) (content plain xs)) o) ≡ Some s → Closes after_backslash (x ∷ xs) s
    at true o hu ho e = subst (λ y. Closes after_backslash (y ∷ xs) s) (sym (eqb-true x 117 hu)) (unit_escape xs s (unit s e))
    at false None hu ho e = cc
    at false (Some c) hu ho e = let p = prepended (c ∷ []) (content plain xs) s e in short x xs s p.0 (Some c) c hu ho p.2 (more p.0 p.1)

-- ---- four digits

-- neither a quote nor a backslash
abbrev Passes : ℕ → Type 0
Passes x = ((x == 34) ≡ false) × ((x == 92) ≡ false)

digit_passes : (x : ℕ) → is_digit x 16 ≡ true → Passes x
digit_passes x h = (by 34 (λ e. ap (λ y. is_digit y 16) e) (x == 34) refl, by 92 (λ e. ap (λ y. is_digit y 16) e) (x == 92) refl)
  where
    by : (c : ℕ) → (x ≡ c → is_digit x 16 ≡ false) → (b : Bool) → (x == c) ≡ b → b ≡ false
    by c never true e = absurd (true≢false (sym h ∙ never (eqb-true x c e)))
    by c never false e = refl

pub record AreDigits (a b c d : ℕ) : Type 0 where
  pub first : Passes a
  pub second : Passes b
  pub third : Passes c
  pub fourth : Passes d

digits : (a b c d u : ℕ) → code_unit a b c d ≡ Some u → AreDigits a b c d
unfolding code_unit
digits a b c d u e = by _ (is_digit a 16 && is_digit b 16 && is_digit c 16 && is_digit d 16) refl e
  where
    by : (o : Option ℕ) (t : Bool) → (is_digit a 16 && is_digit b 16 && is_digit c 16 && is_digit d 16) ≡ t → cond t o None ≡ Some u → AreDigits a b c d
    by o false h f = cc
    by o true h f =
        let p = and_parts _ _ h in
        let q = and_parts _ _ p.0 in
        let r = and_parts _ _ q.0 in
        record { first = digit_passes a r.0; second = digit_passes b r.1; third = digit_passes c q.1; fourth = digit_passes d p.1 }

four_past : (a b c d : ℕ) (xs : List ℕ) → AreDigits a b c d → drop (span in_string (a ∷ b ∷ c ∷ d ∷ xs)) (a ∷ b ∷ c ∷ d ∷ xs) ≡ drop (span in_string xs) xs
four_past a b c d xs are =
    goes_past a (b ∷ c ∷ d ∷ xs) are.first.0 are.first.1 ∙ goes_past b (c ∷ d ∷ xs) are.second.0 are.second.1 ∙ goes_past c (d ∷ xs) are.third.0 are.third.1 ∙ goes_past d xs are.fourth.0 are.fourth.1

four_lexed : (a b c d : ℕ) (xs : List ℕ) → AreDigits a b c d → lex in_string (a ∷ b ∷ c ∷ d ∷ xs) ≡ lex in_string xs
four_lexed a b c d xs are =
    string_goes a (b ∷ c ∷ d ∷ xs) are.first.0 are.first.1 ∙ string_goes b (c ∷ d ∷ xs) are.second.0 are.second.1 ∙ string_goes c (d ∷ xs) are.third.0 are.third.1 ∙ string_goes d xs are.fourth.0 are.fourth.1

-- ---- a code unit

after_unit : (a b c d u : ℕ) (m : Within) (xs s t : List ℕ) → code_unit a b c d ≡ Some u → mode_of m ≡ in_string
    → ((r : List ℕ) → content m r ≡ Some t → option_and_then (λ u. cond (is_high_surrogate u) (content (after_high u) r) (cond (is_low_surrogate u) None (prepend (encode_utf8 u) (content plain r)))) (Some u) ≡ Some s)
    → Closes m xs t → Closes after_u (a ∷ b ∷ c ∷ d ∷ xs) s
unfolding content
after_unit a b c d u m xs s t is mode means more =
    let are = digits a b c d u is in
    record {
      bytes = a ∷ b ∷ c ∷ d ∷ more.bytes;
      rest = more.rest;
      is = ap (λ l. a ∷ b ∷ c ∷ d ∷ l) more.is;
      passed = four_past a b c d xs are ∙ ap (λ n. drop (span n xs) xs) (sym mode) ∙ more.passed;
      again = λ r. rw is (means (more.bytes ++ r) (more.again r));
      lexed = λ r. four_lexed a b c d (more.bytes ++ r) are ∙ ap (λ n. lex n (more.bytes ++ r)) (sym mode) ∙ more.lexed r;
      front = a ∷ b ∷ c ∷ d ∷ more.front;
      quoted = ap (λ l. a ∷ b ∷ c ∷ d ∷ l) more.quoted;
    }

unit : (a b c d : ℕ) (xs s : List ℕ) → ((h : ℕ) (t : List ℕ) → content (after_high h) xs ≡ Some t → Closes (after_high h) xs t) → ((t : List ℕ) → content plain xs ≡ Some t → Closes plain xs t)
    → option_and_then (λ u. cond (is_high_surrogate u) (content (after_high u) xs) (cond (is_low_surrogate u) None (prepend (encode_utf8 u) (content plain xs)))) (code_unit a b c d) ≡ Some s
    → Closes after_u (a ∷ b ∷ c ∷ d ∷ xs) s
unit a b c d xs s high more e = at (code_unit a b c d) refl e
  where
    by : (u : ℕ) → code_unit a b c d ≡ Some u → (h l : Bool) → is_high_surrogate u ≡ h → is_low_surrogate u ≡ l → cond h (content (after_high u) xs) (cond l None (prepend (encode_utf8 u) (content plain xs))) ≡ Some s
        → Closes after_u (a ∷ b ∷ c ∷ d ∷ xs) s
    by u is true l hh hl e = after_unit a b c d u (after_high u) xs s s is refl (λ r f. rw hh f) (high u s e)
    by u is false true hh hl e = cc
    by u is false false hh hl e =
        let p = prepended (encode_utf8 u) (content plain xs) s e in
        after_unit a b c d u plain xs s p.0 is refl (λ r f. rw (hh, hl) (ap (prepend (encode_utf8 u)) f ∙ ap Some p.2)) (more p.0 p.1)

    at : (o : Option ℕ) → code_unit a b c d ≡ o
        → option_and_then (λ u. cond (is_high_surrogate u) (content (after_high u) xs) (cond (is_low_surrogate u) None (prepend (encode_utf8 u) (content plain xs)))) o ≡ Some s → Closes after_u (a ∷ b ∷ c ∷ d ∷ xs) s
    at None is e = cc
    at (Some u) is e = by u is (is_high_surrogate u) (is_low_surrogate u) refl refl e

-- ---- the second unit of a pair

low_unit : (h a b c d l : ℕ) (xs s t : List ℕ) → code_unit a b c d ≡ Some l → is_low_surrogate l ≡ true → encode_utf8 (surrogate_pair h l) ++ t ≡ s → Closes plain xs t → Closes (after_high h) (92 ∷ 117 ∷ a ∷ b ∷ c ∷ d ∷ xs) s
unfolding content
low_unit h a b c d l xs s t is low same more =
    let are = digits a b c d l is in
    record {
      bytes = 92 ∷ 117 ∷ a ∷ b ∷ c ∷ d ∷ more.bytes;
      rest = more.rest;
      is = ap (λ l. 92 ∷ 117 ∷ a ∷ b ∷ c ∷ d ∷ l) more.is;
      passed = escapes_past (117 ∷ a ∷ b ∷ c ∷ d ∷ xs) ∙ escaped_past 117 (a ∷ b ∷ c ∷ d ∷ xs) ∙ four_past a b c d xs are ∙ more.passed;
      again = λ r. rw (is, low) (ap (prepend (encode_utf8 (surrogate_pair h l))) (more.again r) ∙ ap Some same);
      lexed = λ r. string_escapes (117 ∷ a ∷ b ∷ c ∷ d ∷ more.bytes ++ r) ∙ escaped 117 (a ∷ b ∷ c ∷ d ∷ more.bytes ++ r) ∙ four_lexed a b c d (more.bytes ++ r) are ∙ more.lexed r;
      front = 92 ∷ 117 ∷ a ∷ b ∷ c ∷ d ∷ more.front;
      quoted = ap (λ l. 92 ∷ 117 ∷ a ∷ b ∷ c ∷ d ∷ l) more.quoted;
    }

pair : (h x y a b c d : ℕ) (xs s : List ℕ) → ((t : List ℕ) → content plain xs ≡ Some t → Closes plain xs t)
    → cond ((x == 92) && (y == 117)) (option_and_then (λ l. cond (is_low_surrogate l) (prepend (encode_utf8 (surrogate_pair h l)) (content plain xs)) None) (code_unit a b c d)) None ≡ Some s
    → Closes (after_high h) (x ∷ y ∷ a ∷ b ∷ c ∷ d ∷ xs) s
pair h x y a b c d xs s more e = at ((x == 92) && (y == 117)) (code_unit a b c d) refl refl e
  where
    by : (l : ℕ) (low : Bool) → code_unit a b c d ≡ Some l → is_low_surrogate l ≡ low → cond low (prepend (encode_utf8 (surrogate_pair h l)) (content plain xs)) None ≡ Some s → Closes (after_high h) (92 ∷ 117 ∷ a ∷ b ∷ c ∷ d ∷ xs) s
    by l false is hl e = cc
    by l true is hl e = let p = prepended (encode_utf8 (surrogate_pair h l)) (content plain xs) s e in low_unit h a b c d l xs s p.0 is hl p.2 (more p.0 p.1)

    at : (t : Bool) (o : Option ℕ) → ((x == 92) && (y == 117)) ≡ t → code_unit a b c d ≡ o
        → cond t (option_and_then (λ l. cond (is_low_surrogate l) (prepend (encode_utf8 (surrogate_pair h l)) (content plain xs)) None) o) None ≡ Some s → Closes (after_high h) (x ∷ y ∷ a ∷ b ∷ c ∷ d ∷ xs) s
    at false o ht is e = cc
    at true None ht is e = cc
    at true (Some l) ht is e =
        let p = and_parts (x == 92) (y == 117) ht in
        subst (λ z. Closes (after_high h) (z ∷ y ∷ a ∷ b ∷ c ∷ d ∷ xs) s) (sym (eqb-true x 92 p.0))
        (subst (λ z. Closes (after_high h) (92 ∷ z ∷ a ∷ b ∷ c ∷ d ∷ xs) s) (sym (eqb-true y 117 p.1)) (by l (is_low_surrogate l) is refl e))

-- ---- all of it

pub closes : (m : Within) (xs s : List ℕ) → content m xs ≡ Some s → Closes m xs s
unfolding content
closes plain [] s e = cc
closes plain (x ∷ xs) s e = plain_byte x xs s (λ t. closes after_backslash xs t) (λ t. closes plain xs t) e
closes after_backslash [] s e = cc
closes after_backslash (x ∷ xs) s e = escaped_byte x xs s (λ t. closes after_u xs t) (λ t. closes plain xs t) e
closes after_u [] s e = cc
closes after_u (a ∷ []) s e = cc
closes after_u (a ∷ b ∷ []) s e = cc
closes after_u (a ∷ b ∷ c ∷ []) s e = cc
closes after_u (a ∷ b ∷ c ∷ d ∷ xs) s e = unit a b c d xs s (λ h t. closes (after_high h) xs t) (λ t. closes plain xs t) e
closes (after_high h) [] s e = cc
closes (after_high h) (x ∷ []) s e = cc
closes (after_high h) (x ∷ y ∷ []) s e = cc
closes (after_high h) (x ∷ y ∷ a ∷ []) s e = cc
closes (after_high h) (x ∷ y ∷ a ∷ b ∷ []) s e = cc
closes (after_high h) (x ∷ y ∷ a ∷ b ∷ c ∷ []) s e = cc
closes (after_high h) (x ∷ y ∷ a ∷ b ∷ c ∷ d ∷ xs) s e = pair h x y a b c d xs s (λ t. closes plain xs t) e
