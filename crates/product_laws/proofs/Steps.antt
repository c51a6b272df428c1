-- The first token of a text takes the same bytes whatever stands behind it.
use Rattle.std.proofs.Common.{◌≡◌, ℕ, ◌<◌, ◌⊎◌, inl, inr, Bool, true, false, cond, not, ◌||◌, ◌==◌, nat_lt, List, [], ◌∷◌, ◌++◌, get_or, Option, Some, None, refl, sym, ap, ap₂, ◌∙◌, subst, arith, true≢false}
use Rattle.std.proofs.lemmas.Bool.{and_parts, eqb-true, false≢true, ltb-true, or_cases, or_parts}
use Rattle.std.specs.List.{list_all}
use Rattle.json.specs.Align.{is_good}
use Rattle.json.specs.Lex.{Lexeme, between, in_string, in_word, lex, string_token, token}
use Rattle.json.specs.Text.{content, plain}
use Rattle.json.specs.Token.{Token}
use Rattle.json.specs.Word.{ends_word, is_operator, is_space, word}
use Rattle.text_spans.specs.Place.{after_string, after_token, after_word, ends_number, is_mark}
use Rattle.product_laws.proofs.Strings.{Closes, closes}
use Rattle.product_laws.proofs.Words.{IsWord, after_first, after_word_is, goes, is_word, word_there}

-- what may stand behind a token: behind a word what ends it
abbrev pub Follows : Token → List ℕ → Type 0
Follows k r = is_word k ≡ true → ends_word r ≡ true

-- the last of these bytes is ASCII
pub record EndsLow (bytes : List ℕ) : Type 0 where
  pub front : List ℕ
  pub last : ℕ
  pub is : bytes ≡ front ++ last ∷ []
  pub low : last < 128

-- The token takes these bytes of a text, and does so before whatever may stand behind it.
pub record TakesToken (here rest : List ℕ) (k : Token) : Type 0 where
  pub bytes : List ℕ
  pub is : here ≡ bytes ++ rest
  pub follows : Follows k rest
  pub again : (r : List ℕ) → Follows k r → lex between (bytes ++ r) ≡ token k ∷ lex between r
  pub ends : EndsLow bytes
  pub first : get_or here 0 0 < 128

-- the first token of a text, and what it takes where it is good
abbrev pub First : ℕ → List ℕ → Type 0
First x xs = (k : Token) × (ls : List Lexeme) × (lex between (x ∷ xs) ≡ token k ∷ ls) × (is_good k ≡ true → TakesToken (x ∷ xs) (after_token (x ∷ xs)) k)

-- ---- brackets

bracket : (c : ℕ) (xs : List ℕ) (k : Token) → c < 128 → is_word k ≡ false → ((r : List ℕ) → lex between (c ∷ r) ≡ token k ∷ lex between r) → TakesToken (c ∷ xs) xs k
bracket c xs k low none again = record {
  bytes = c ∷ [];
  is = refl;
  follows = λ e. absurd (true≢false (sym e ∙ none));
  again = λ r f. again r;
  ends = record { front = []; last = c; is = refl; low = low };
  first = low;
}

bracket_first : (x : ℕ) (xs : List ℕ) → is_operator x ≡ true → (x == 44) ≡ false → (x == 58) ≡ false → First x xs
unfolding lex
bracket_first x xs e comma colon = a (or_cases _ _ e)
  where
    f : (((x == 123) ≡ true) ⊎ ((x == 125) ≡ true)) → First x xs
    f (inl h) = subst (λ y. First y xs) (sym (eqb-true x 123 h)) (Token.begin_object, lex between xs, refl, λ g. bracket 123 xs Token.begin_object (omega arith) refl (λ r. refl))
    f (inr h) = subst (λ y. First y xs) (sym (eqb-true x 125 h)) (Token.end_object, lex between xs, refl, λ g. bracket 125 xs Token.end_object (omega arith) refl (λ r. refl))

    d : ((((x == 123) || (x == 125)) ≡ true) ⊎ ((x == 91) ≡ true)) → First x xs
    d (inl h) = f (or_cases _ _ h)
    d (inr h) = subst (λ y. First y xs) (sym (eqb-true x 91 h)) (Token.begin_array, lex between xs, refl, λ g. bracket 91 xs Token.begin_array (omega arith) refl (λ r. refl))

    c : (((((x == 123) || (x == 125)) || (x == 91)) ≡ true) ⊎ ((x == 93) ≡ true)) → First x xs
    c (inl h) = d (or_cases _ _ h)
    c (inr h) = subst (λ y. First y xs) (sym (eqb-true x 93 h)) (Token.end_array, lex between xs, refl, λ g. bracket 93 xs Token.end_array (omega arith) refl (λ r. refl))

    b : ((((((x == 123) || (x == 125)) || (x == 91)) || (x == 93)) ≡ true) ⊎ ((x == 58) ≡ true)) → First x xs
    b (inl h) = c (or_cases _ _ h)
    b (inr h) = absurd (true≢false (sym h ∙ colon))

    a : (((((((x == 123) || (x == 125)) || (x == 91)) || (x == 93)) || (x == 58)) ≡ true) ⊎ ((x == 44) ≡ true)) → First x xs
    a (inl h) = b (or_cases _ _ h)
    a (inr h) = absurd (true≢false (sym h ∙ comma))

-- ---- strings

string_taken : (xs s : List ℕ) → Closes plain xs s → TakesToken (34 ∷ xs) (after_string xs) (Token.string s)
unfolding lex
string_taken xs s c = record {
  bytes = 34 ∷ c.bytes;
  is = ap (λ l. 34 ∷ l) (c.is ∙ ap (λ r. c.bytes ++ r) (sym c.passed));
  follows = λ e. absurd (false≢true e);
  again = λ r f. ap₂ (λ o l. token (string_token o) ∷ l) (c.again r) (c.lexed r);
  ends = record { front = 34 ∷ c.front; last = 34; is = ap (λ l. 34 ∷ l) c.quoted; low = omega arith };
  first = omega arith;
}

quote_first : (xs : List ℕ) → First 34 xs
unfolding lex
quote_first xs = (string_token (content plain xs), lex in_string xs, refl, by (content plain xs) refl)
  where
    by : (o : Option (List ℕ)) → content plain xs ≡ o → is_good (string_token o) ≡ true → TakesToken (34 ∷ xs) (after_string xs) (string_token o)
    by None e g = absurd (false≢true g)
    by (Some s) e g = string_taken xs s (closes plain xs s e)

slash_first : (xs : List ℕ) → First 92 xs
unfolding lex
slash_first xs = (Token.bad, lex in_word xs, refl, λ g. absurd (false≢true g))

-- ---- numbers and literals

low_last : (w : List ℕ) (x : ℕ) → list_all goes (x ∷ w) ≡ true → EndsLow (x ∷ w)
low_last [] x h = record { front = []; last = x; is = refl; low = ltb-true x 128 (and_parts _ _ (and_parts _ _ h).0).1 }
low_last (y ∷ w) x h =
    let more = low_last w y (and_parts _ _ h).1 in
    record { front = x ∷ more.front; last = more.last; is = ap (λ l. x ∷ l) more.is; low = more.low }

some_bytes : (x : ℕ) (xs w rest : List ℕ) → x ∷ xs ≡ w ++ rest → ends_number x ≡ false → ends_word rest ≡ true → list_all goes w ≡ true → EndsLow w
some_bytes x xs [] rest e none ended h = absurd (true≢false (sym ended ∙ ap ends_word (sym e) ∙ none))
some_bytes x xs (y ∷ w) rest e none ended h = low_last w y h

low_first : (x : ℕ) (xs w rest : List ℕ) → x ∷ xs ≡ w ++ rest → ends_number x ≡ false → ends_word rest ≡ true → list_all goes w ≡ true → x < 128
low_first x xs [] rest e none ended h = absurd (true≢false (sym ended ∙ ap ends_word (sym e) ∙ none))
low_first x xs (y ∷ w) rest e none ended h =
    let same : x ≡ y = ap (λ l. get_or l 0 0) e in
    let low : y < 128 = ltb-true y 128 (and_parts (not (ends_number y)) (nat_lt y 128) (and_parts (goes y) (list_all goes w) h).0).1 in
    omega (arith, same, low)

word_taken : (x : ℕ) (xs : List ℕ) (k : Token) → ends_number x ≡ false → (x == 34) ≡ false → IsWord (x ∷ xs) k → TakesToken (x ∷ xs) (after_token (x ∷ xs)) k
word_taken x xs k none quote w =
    let rest : w.rest ≡ after_token (x ∷ xs) =
    sym (after_word_is w.bytes w.rest w.go w.ended) ∙ ap after_word (sym w.is) ∙ sym (after_first x xs none) ∙ ap (λ b. cond b (after_string xs) (after_word xs)) (sym quote)
    ∙ ap (λ b. cond b xs (cond (x == 34) (after_string xs) (after_word xs))) (sym none) in
    record {
      bytes = w.bytes;
      is = w.is ∙ ap (λ r. w.bytes ++ r) rest;
      follows = λ e. ap ends_word (sym rest) ∙ w.ended;
      again = λ r f. w.again r (f w.word);
      ends = some_bytes x xs w.bytes w.rest w.is none w.ended w.go;
      first = low_first x xs w.bytes w.rest w.is none w.ended w.go;
    }

-- ---- each of them

word_first : (x : ℕ) (xs : List ℕ) → (x == 34) ≡ false → (x == 92) ≡ false → is_operator x ≡ false → is_space x ≡ false → First x xs
unfolding lex
word_first x xs q b o s =
    (word (x ∷ xs), lex in_word xs, rw (q, b, o, s), λ g. word_taken x xs (word (x ∷ xs)) (rw (o, s)) q (word_there (x ∷ xs) g))

pub first_token : (x : ℕ) (xs : List ℕ) → is_mark x ≡ false → First x xs
first_token x xs m = by (x == 34) (x == 92) (is_operator x) refl refl refl
  where
    marks : (is_space x ≡ false) × (((x == 44) || (x == 58)) ≡ false)
    marks = or_parts _ _ m

    by : (q b o : Bool) → (x == 34) ≡ q → (x == 92) ≡ b → is_operator x ≡ o → First x xs
    by true b o hq hb ho = subst (λ y. First y xs) (sym (eqb-true x 34 hq)) (quote_first xs)
    by false true o hq hb ho = subst (λ y. First y xs) (sym (eqb-true x 92 hb)) (slash_first xs)
    by false false true hq hb ho = let two = or_parts _ _ marks.1 in bracket_first x xs ho two.0 two.1
    by false false false hq hb ho = word_first x xs hq hb ho marks.0
