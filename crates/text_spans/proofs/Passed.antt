-- How far each token goes, a byte at a time.
use Rattle.std.proofs.Common.{◌≡◌, ℕ, suc, ◌+◌, Bool, true, false, cond, not, ◌==◌, List, [], ◌∷◌, length, drop, refl, sym, ap, ◌∙◌, arith}
use Rattle.std.specs.List.{prefix_len}
use Rattle.json.specs.Align.{span_byte, span}
use Rattle.json.specs.Word.{is_operator, is_space}
use Rattle.json.specs.Lex.{quote, backslash, operator, space, other, Mode, in_escape, in_string}
use Rattle.text_spans.specs.Place.{after_string, after_token, after_word, ends_number, from_token, is_mark}
use Rattle.text_spans.proofs.Lexing.{differs, no_bytes}

one_more : (n x : ℕ) (xs : List ℕ) → drop (1 + n) (x ∷ xs) ≡ drop n xs
one_more n x xs = let e : 1 + n ≡ suc n = omega arith in ap (λ k. drop k (x ∷ xs)) e

-- what is dropped by a test that the first byte passes, or does not
passing : (p : ℕ → Bool) (x : ℕ) (xs : List ℕ) → p x ≡ true → drop (prefix_len p (x ∷ xs)) (x ∷ xs) ≡ drop (prefix_len p xs) xs
passing p x xs e = ap (λ b. drop (cond b (1 + prefix_len p xs) 0) (x ∷ xs)) e ∙ one_more (prefix_len p xs) x xs

stopping : (p : ℕ → Bool) (x : ℕ) (xs : List ℕ) → p x ≡ false → drop (prefix_len p (x ∷ xs)) (x ∷ xs) ≡ x ∷ xs
stopping p x xs e = ap (λ b. drop (cond b (1 + prefix_len p xs) 0) (x ∷ xs)) e

-- ---- the byte that a token begins with

pub mark_passed : (t : List ℕ) (x : ℕ) (xs : List ℕ) → t ≡ x ∷ xs → is_mark x ≡ true → from_token t ≡ from_token xs
mark_passed t x xs e m = ap from_token e ∙ passing is_mark x xs m

pub starts_here : (t : List ℕ) (x : ℕ) (xs : List ℕ) → t ≡ x ∷ xs → is_mark x ≡ false → t ≡ from_token t
starts_here t x xs e m = e ∙ sym (stopping is_mark x xs m) ∙ ap from_token (sym e)

pub nothing_starts : (t : List ℕ) → length t ≡ 0 → t ≡ from_token t
nothing_starts t n = let e : t ≡ [] = no_bytes t n in e ∙ ap from_token (sym e)

-- ---- strings

passes : (o s : Bool) (k : Mode → ℕ) → span_byte in_string (cond o operator (cond s space other)) k ≡ 1 + k in_string
passes true s k = refl
passes false true k = refl
passes false false k = refl

span_plain : (x : ℕ) (xs : List ℕ) → (x == 34) ≡ false → (x == 92) ≡ false → span in_string (x ∷ xs) ≡ 1 + span in_string xs
unfolding span
span_plain x xs q b =
    ap (λ i. span_byte in_string (cond i quote (cond (x == 92) backslash (cond (is_operator x) operator (cond (is_space x) space other)))) (λ n. span n xs)) q
    ∙ ap (λ i. span_byte in_string (cond i backslash (cond (is_operator x) operator (cond (is_space x) space other))) (λ n. span n xs)) b
    ∙ passes (is_operator x) (is_space x) (λ n. span n xs)

quoted : (xs : List ℕ) → after_string (34 ∷ xs) ≡ xs
unfolding span
quoted xs = refl

slashed : (xs : List ℕ) → span in_string (92 ∷ xs) ≡ 1 + span in_escape xs
unfolding span
slashed xs = refl

escaped : (x : ℕ) (xs : List ℕ) → span in_escape (x ∷ xs) ≡ 1 + span in_string xs
unfolding span
escaped x xs = refl

none_escaped : span in_escape [] ≡ 0
unfolding span
none_escaped = refl

none_quoted : span in_string [] ≡ 0
unfolding span
none_quoted = refl

-- the bytes that are left of a string in which a backslash came last
abbrev pub after_slash : List ℕ → List ℕ
after_slash t = drop (span in_escape t) t

pub quote_passed : (t : List ℕ) (x : ℕ) (xs : List ℕ) → t ≡ x ∷ xs → x ≡ 34 → after_string t ≡ xs
quote_passed t x xs e q = ap after_string (e ∙ ap (λ y. y ∷ xs) q) ∙ quoted xs

pub slash_passed : (t : List ℕ) (x : ℕ) (xs : List ℕ) → t ≡ x ∷ xs → x ≡ 92 → after_string t ≡ after_slash xs
slash_passed t x xs e b = ap after_string (e ∙ ap (λ y. y ∷ xs) b) ∙ ap (λ n. drop n (92 ∷ xs)) (slashed xs) ∙ one_more (span in_escape xs) 92 xs

pub byte_passed : (t : List ℕ) (x : ℕ) (xs : List ℕ) → t ≡ x ∷ xs → (x ≡ 34 → ⊥) → (x ≡ 92 → ⊥) → after_string t ≡ after_string xs
byte_passed t x xs e q b = ap after_string e ∙ ap (λ n. drop n (x ∷ xs)) (span_plain x xs (differs x 34 q) (differs x 92 b)) ∙ one_more (span in_string xs) x xs

pub string_ended : (t : List ℕ) → length t ≡ 0 → after_string t ≡ t
string_ended t n = let e : t ≡ [] = no_bytes t n in ap after_string e ∙ ap (λ k. drop k []) none_quoted ∙ sym e

pub escape_passed : (t : List ℕ) (x : ℕ) (xs : List ℕ) → t ≡ x ∷ xs → after_string xs ≡ after_slash t
escape_passed t x xs e = sym (ap after_slash e ∙ ap (λ n. drop n (x ∷ xs)) (escaped x xs) ∙ one_more (span in_string xs) x xs)

pub none_escapes : (t : List ℕ) → length t ≡ 0 → after_string t ≡ after_slash t
none_escapes t n =
    let e : t ≡ [] = no_bytes t n in
    ap after_string e ∙ ap (λ k. drop k []) (none_quoted ∙ sym none_escaped) ∙ ap after_slash (sym e)

-- ---- numbers and literals

pub word_passed : (t : List ℕ) (x : ℕ) (xs : List ℕ) → t ≡ x ∷ xs → ends_number x ≡ false → after_word t ≡ after_word xs
word_passed t x xs e h = ap after_word e ∙ passing (λ y. not (ends_number y)) x xs (ap not h)

pub word_ended : (t : List ℕ) (x : ℕ) (xs : List ℕ) → t ≡ x ∷ xs → ends_number x ≡ true → t ≡ after_word t
word_ended t x xs e h = e ∙ sym (stopping (λ y. not (ends_number y)) x xs (ap not h)) ∙ ap after_word (sym e)

pub no_word : (t : List ℕ) → length t ≡ 0 → t ≡ after_word t
no_word t n = let e : t ≡ [] = no_bytes t n in e ∙ ap after_word (sym e)

-- ---- tokens

pub bracket_passed : (x : ℕ) (xs : List ℕ) → ends_number x ≡ true → xs ≡ after_token (x ∷ xs)
bracket_passed x xs e = ap (λ b. cond b xs (cond (x == 34) (after_string xs) (after_word xs))) (sym e)

pub string_passed : (x : ℕ) (xs : List ℕ) → ends_number x ≡ false → x ≡ 34 → after_string xs ≡ after_token (x ∷ xs)
string_passed x xs e q = ap (λ y. after_token (y ∷ xs)) (sym q)

pub token_passed : (x : ℕ) (xs : List ℕ) → ends_number x ≡ false → (x ≡ 34 → ⊥) → after_word xs ≡ after_token (x ∷ xs)
token_passed x xs e q =
    ap (λ b. cond b (after_string xs) (after_word xs)) (sym (differs x 34 q)) ∙ ap (λ b. cond b xs (cond (x == 34) (after_string xs) (after_word xs))) (sym e)

pub token_at : (t : List ℕ) (x : ℕ) (xs r : List ℕ) → t ≡ x ∷ xs → r ≡ after_token (x ∷ xs) → r ≡ after_token t
token_at t x xs r e h = h ∙ ap after_token (sym e)

pub no_token : (t : List ℕ) → length t ≡ 0 → t ≡ after_token t
no_token t n = let e : t ≡ [] = no_bytes t n in e ∙ ap after_token (sym e)
