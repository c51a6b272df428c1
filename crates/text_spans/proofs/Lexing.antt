-- The lexemes of a text, a byte at a time.
use Rattle.std.proofs.Common.{◌≡◌, ℕ, ◌+◌, Bool, true, false, cond, ◌||◌, ◌==◌, List, [], ◌∷◌, length, drop, refl, sym, ap, ◌∙◌, subst, arith, length-drop}
use Rattle.std.proofs.lemmas.List.{drop-drop}
use Rattle.std.proofs.lemmas.Bool.{true≢false, false≢true, eqb-true}
use Rattle.json.specs.Word.{is_operator, is_space}
use Rattle.json.specs.Lex.{Lexeme, Class, quote, backslash, operator, space, other, Mode, between, in_word, in_string, in_escape, lex_byte, lex}
use Rattle.text_spans.specs.Place.{IsEnd, ends_number}

-- ---- ends of a text

pub end_same : (t : List ℕ) → IsEnd t t
end_same t = (0, omega arith, refl)

-- the end of an end
pub end_end : (a b c : List ℕ) → IsEnd a b → IsEnd b c → IsEnd a c
end_end a b c (n, le, e) (m, lf, f) = (m + n, omega (arith, le, lf, ap length f, length-drop m c), e ∙ ap (drop n) f ∙ drop-drop n m c)

pub end_next : (x : ℕ) (xs c : List ℕ) → IsEnd (x ∷ xs) c → IsEnd xs c
end_next x xs c e = end_end xs (x ∷ xs) c (1, omega arith, refl) e

-- ---- strings

pub string_over : lex in_string [] ≡ lex between []
unfolding lex
string_over = refl

pub string_closed : (xs : List ℕ) → lex in_string (34 ∷ xs) ≡ lex between xs
unfolding lex
string_closed xs = refl

pub string_escapes : (xs : List ℕ) → lex in_string (92 ∷ xs) ≡ lex in_escape xs
unfolding lex
string_escapes xs = refl

in_string_goes : (o s : Bool) (x : ℕ) (xs : List ℕ) (k : Mode → List Lexeme) → lex_byte in_string (cond o operator (cond s space other)) x xs k ≡ k in_string
in_string_goes true s x xs k = refl
in_string_goes false true x xs k = refl
in_string_goes false false x xs k = refl

pub string_goes : (x : ℕ) (xs : List ℕ) → (x == 34) ≡ false → (x == 92) ≡ false → lex in_string (x ∷ xs) ≡ lex in_string xs
unfolding lex
string_goes x xs q b =
    ap (λ c. lex_byte in_string c x xs (λ n. lex n xs)) (ap (λ i. cond i quote (cond (x == 92) backslash (cond (is_operator x) operator (cond (is_space x) space other)))) q ∙ ap (λ i. cond i backslash (cond (is_operator x) operator (cond (is_space x) space other))) b)
    ∙ in_string_goes (is_operator x) (is_space x) x xs (λ n. lex n xs)

pub escaped_over : lex in_escape [] ≡ lex in_string []
unfolding lex
escaped_over = refl

pub escaped : (x : ℕ) (xs : List ℕ) → lex in_escape (x ∷ xs) ≡ lex in_string xs
unfolding lex
escaped x xs = refl

-- ---- words

pub word_over : lex in_word [] ≡ lex between []
unfolding lex
word_over = refl

by_operator : (x : ℕ) (xs : List ℕ) (k : Mode → List Lexeme) → lex_byte in_word operator x xs k ≡ lex_byte between operator x xs k
by_operator x xs k = refl

-- a byte that is an operator or a blank is neither a quote nor a backslash
quoted : (x : ℕ) → (x == 34) ≡ true → ends_number x ≡ false
quoted x e = ap ends_number (eqb-true x 34 e)

slashed : (x : ℕ) → (x == 92) ≡ true → ends_number x ≡ false
slashed x e = ap ends_number (eqb-true x 92 e)

-- the class of a byte, by these four
abbrev pub class_by : Bool → Bool → Bool → Bool → Class
class_by q b o s = cond q quote (cond b backslash (cond o operator (cond s space other)))

ends : (q b o s : Bool) (x : ℕ) (xs : List ℕ) (k : Mode → List Lexeme) → (q ≡ true → (o || s) ≡ false) → (b ≡ true → (o || s) ≡ false) → (o || s) ≡ true
    → lex_byte in_word (class_by q b o s) x xs k ≡ lex_byte between (class_by q b o s) x xs k
ends true b o s x xs k f g e = absurd (true≢false (sym e ∙ f refl))
ends false true o s x xs k f g e = absurd (true≢false (sym e ∙ g refl))
ends false false true s x xs k f g e = refl
ends false false false true x xs k f g e = refl
ends false false false false x xs k f g e = absurd (false≢true e)

goes : (q b o s : Bool) (x : ℕ) (xs : List ℕ) (k : Mode → List Lexeme) → (o || s) ≡ false → lex_byte in_word (class_by q b o s) x xs k ≡ k in_word
goes true b o s x xs k e = refl
goes false true o s x xs k e = refl
goes false false true s x xs k e = absurd (true≢false e)
goes false false false true x xs k e = absurd (true≢false e)
goes false false false false x xs k e = refl

pub word_ends : (x : ℕ) (xs : List ℕ) → ends_number x ≡ true → lex in_word (x ∷ xs) ≡ lex between (x ∷ xs)
unfolding lex
word_ends x xs e = ends (x == 34) (x == 92) (is_operator x) (is_space x) x xs (λ n. lex n xs) (quoted x) (slashed x) e

pub word_goes : (x : ℕ) (xs : List ℕ) → ends_number x ≡ false → lex in_word (x ∷ xs) ≡ lex in_word xs
unfolding lex
word_goes x xs e = goes (x == 34) (x == 92) (is_operator x) (is_space x) x xs (λ n. lex n xs) e

-- ---- the same, of a text that is known by its first byte and the rest

pub no_bytes : (t : List ℕ) → length t ≡ 0 → t ≡ []
no_bytes [] e = refl
no_bytes (x ∷ xs) e = absurd (omega (arith, e))

pub escaped_at : (t : List ℕ) (x : ℕ) (xs : List ℕ) → t ≡ x ∷ xs → lex in_escape t ≡ lex in_string xs
escaped_at t x xs e = ap (lex in_escape) e ∙ escaped x xs

pub escaped_none : (t : List ℕ) → length t ≡ 0 → lex in_escape t ≡ lex in_string t
escaped_none t e = let n : t ≡ [] = no_bytes t e in ap (lex in_escape) n ∙ escaped_over ∙ ap (lex in_string) (sym n)

pub closed_at : (t : List ℕ) (x : ℕ) (xs : List ℕ) → t ≡ x ∷ xs → x ≡ 34 → lex in_string t ≡ lex between xs
closed_at t x xs e q = ap (lex in_string) (e ∙ ap (λ y. y ∷ xs) q) ∙ string_closed xs

pub escapes_at : (t : List ℕ) (x : ℕ) (xs : List ℕ) → t ≡ x ∷ xs → x ≡ 92 → lex in_string t ≡ lex in_escape xs
escapes_at t x xs e b = ap (lex in_string) (e ∙ ap (λ y. y ∷ xs) b) ∙ string_escapes xs

pub differs : (x c : ℕ) → (x ≡ c → ⊥) → (x == c) ≡ false
differs x c never = by (x == c) refl
  where
    by : (b : Bool) → (x == c) ≡ b → b ≡ false
    by true e = absurd (never (eqb-true x c e))
    by false e = refl

pub goes_at : (t : List ℕ) (x : ℕ) (xs : List ℕ) → t ≡ x ∷ xs → (x ≡ 34 → ⊥) → (x ≡ 92 → ⊥) → lex in_string t ≡ lex in_string xs
goes_at t x xs e q b = ap (lex in_string) e ∙ string_goes x xs (differs x 34 q) (differs x 92 b)

pub string_none : (t : List ℕ) → length t ≡ 0 → lex in_string t ≡ lex between t
string_none t e = let n : t ≡ [] = no_bytes t e in ap (lex in_string) n ∙ string_over ∙ ap (lex between) (sym n)

pub ends_at : (t : List ℕ) (x : ℕ) (xs : List ℕ) → t ≡ x ∷ xs → ends_number x ≡ true → lex in_word t ≡ lex between t
ends_at t x xs e h = ap (lex in_word) e ∙ word_ends x xs h ∙ ap (lex between) (sym e)

pub word_at : (t : List ℕ) (x : ℕ) (xs : List ℕ) → t ≡ x ∷ xs → ends_number x ≡ false → lex in_word t ≡ lex in_word xs
word_at t x xs e h = ap (lex in_word) e ∙ word_goes x xs h

pub word_none : (t : List ℕ) → length t ≡ 0 → lex in_word t ≡ lex between t
word_none t e = let n : t ≡ [] = no_bytes t e in ap (lex in_word) n ∙ word_over ∙ ap (lex between) (sym n)

-- the end of an end that begins with a byte
pub end_at : (t : List ℕ) (x : ℕ) (xs c : List ℕ) → t ≡ x ∷ xs → IsEnd t c → IsEnd xs c
end_at t x xs c e h = end_next x xs c (subst (λ (l : List ℕ). IsEnd l c) e h)
