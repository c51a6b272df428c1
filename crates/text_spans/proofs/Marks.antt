-- Blanks, commas and colons, and the byte that a token begins with.
use Rattle.std.proofs.Common.{◌≡◌, ℕ, Bool, true, false, not, ◌||◌, ◌==◌, List, [], ◌∷◌, length, ◌⊎◌, inl, inr, refl, sym, ap, ◌∙◌, subst}
use Rattle.std.proofs.lemmas.Bool.{true≢false, eqb-true, or_cases, or_parts}
use Rattle.json.specs.Word.{is_operator, is_space, word}
use Rattle.json.specs.Text.{content, plain}
use Rattle.json.specs.Lex.{Lexeme, token, comma, colon, string_token, Mode, between, in_word, in_string, lex_byte, lex}
use Rattle.json.specs.Lex.{Place, fresh, after_value, after_comma, after_key, punctuate}
use Rattle.json.specs.Token.{Token, bad}
use Rattle.text_spans.specs.Place.{Stand, begins_token, ends_number, is_mark}
use Rattle.text_spans.proofs.Lexing.{class_by, differs, no_bytes}

or_last : (P : ℕ → Type 0) (x c : ℕ) (b : Bool) → P c → (b ≡ true → P x) → (b ≡ true) ⊎ ((x == c) ≡ true) → P x
or_last P x c b p f (inl e) = f e
or_last P x c b p f (inr e) = subst P (sym (eqb-true x c e)) p

six : (P : ℕ → Type 0) → P 123 → P 125 → P 91 → P 93 → P 58 → P 44 → (x : ℕ) → is_operator x ≡ true → P x
six P a b c d e f x k =
    or_last P x 44 _ f (λ h. or_last P x 58 _ e (λ i. or_last P x 93 _ d (λ j. or_last P x 91 _ c (λ l. or_last P x 125 _ b (λ m. subst P (sym (eqb-true x 123 m)) a)
    (or_cases _ _ l)) (or_cases _ _ j)) (or_cases _ _ i)) (or_cases _ _ h)) (or_cases _ _ k)

four : (P : ℕ → Type 0) → P 32 → P 9 → P 10 → P 13 → (x : ℕ) → is_space x ≡ true → P x
four P a b c d x k =
    or_last P x 13 _ d (λ h. or_last P x 10 _ c (λ i. or_last P x 9 _ b (λ j. subst P (sym (eqb-true x 32 j)) a) (or_cases _ _ i)) (or_cases _ _ h)) (or_cases _ _ k)

-- ---- marks

blank : (x : ℕ) (xs : List ℕ) → is_space x ≡ true → lex between (x ∷ xs) ≡ lex between xs
unfolding lex
blank x xs e = four (λ y. lex between (y ∷ xs) ≡ lex between xs) refl refl refl refl x e

a_comma : (xs : List ℕ) → lex between (44 ∷ xs) ≡ comma ∷ lex between xs
unfolding lex
a_comma xs = refl

a_colon : (xs : List ℕ) → lex between (58 ∷ xs) ≡ colon ∷ lex between xs
unfolding lex
a_colon xs = refl

past_comma : (p : Place) (ls : List Lexeme) → ((q : Place) × (punctuate p (comma ∷ ls) ≡ punctuate q ls)) ⊎ (punctuate p (comma ∷ ls) ≡ bad ∷ [])
unfolding punctuate
past_comma fresh ls = inr refl
past_comma after_value ls = inl (after_comma, refl)
past_comma after_comma ls = inr refl
past_comma after_key ls = inr refl

past_colon : (p : Place) (ls : List Lexeme) → ((q : Place) × (punctuate p (colon ∷ ls) ≡ punctuate q ls)) ⊎ (punctuate p (colon ∷ ls) ≡ bad ∷ [])
unfolding punctuate
past_colon fresh ls = inr refl
past_colon after_value ls = inr refl
past_colon after_comma ls = inr refl
past_colon after_key ls = inl (fresh, refl)

-- where the tokens stand, after a lexeme that is none
passed : (ts : List Token) (text xs : List ℕ) (l : Lexeme) → lex between text ≡ l ∷ lex between xs
    → ((p : Place) (ls : List Lexeme) → ((q : Place) × (punctuate p (l ∷ ls) ≡ punctuate q ls)) ⊎ (punctuate p (l ∷ ls) ≡ bad ∷ [])) → Stand ts text → Stand ts xs
passed ts text xs l e past (inr over) = inr over
passed ts text xs l e past (inl (p, is)) = go (past p (lex between xs))
  where
    go : ((q : Place) × (punctuate p (l ∷ lex between xs) ≡ punctuate q (lex between xs))) ⊎ (punctuate p (l ∷ lex between xs) ≡ bad ∷ []) → Stand ts xs
    go (inl (q, same)) = inl (q, is ∙ ap (punctuate p) e ∙ same)
    go (inr ends) = inr (inr (is ∙ ap (punctuate p) e ∙ ends))

past_blank : (ts : List Token) (text xs : List ℕ) → lex between text ≡ lex between xs → Stand ts text → Stand ts xs
past_blank ts text xs e (inr over) = inr over
past_blank ts text xs e (inl (p, is)) = inl (p, is ∙ ap (punctuate p) e)

at_mark : (x : ℕ) (xs : List ℕ) (ts : List Token) → (is_space x ≡ true) ⊎ (((x == 44) || (x == 58)) ≡ true) → Stand ts (x ∷ xs) → Stand ts xs
at_mark x xs ts (inl e) h = past_blank ts (x ∷ xs) xs (blank x xs e) h
at_mark x xs ts (inr e) h = go (or_cases (x == 44) (x == 58) e)
  where
    go : ((x == 44) ≡ true) ⊎ ((x == 58) ≡ true) → Stand ts xs
    go (inl c) = passed ts (x ∷ xs) xs comma (ap (λ y. lex between (y ∷ xs)) (eqb-true x 44 c) ∙ a_comma xs) past_comma h
    go (inr c) = passed ts (x ∷ xs) xs colon (ap (λ y. lex between (y ∷ xs)) (eqb-true x 58 c) ∙ a_colon xs) past_colon h

pub past_mark : (t : List ℕ) (x : ℕ) (xs : List ℕ) → t ≡ x ∷ xs → is_mark x ≡ true → (ts : List Token) → Stand ts t → Stand ts xs
past_mark t x xs e m ts h = at_mark x xs ts (or_cases (is_space x) _ m) (subst (λ (l : List ℕ). Stand ts l) e h)

pub begins_at : (t : List ℕ) (x : ℕ) (xs : List ℕ) → t ≡ x ∷ xs → is_mark x ≡ false → begins_token t ≡ true
begins_at t x xs e m = ap begins_token e ∙ ap not m

pub begins_none : (t : List ℕ) → length t ≡ 0 → begins_token t ≡ true
begins_none t e = ap begins_token (no_bytes t e)

-- ---- the first byte of a token

abbrev Bracket : List ℕ → ℕ → Type 0
Bracket xs y = is_mark y ≡ false → (t : Token) × (lex between (y ∷ xs) ≡ token t ∷ lex between xs)

brackets : (x : ℕ) (xs : List ℕ) → is_operator x ≡ true → Bracket xs x
unfolding lex
brackets x xs e =
    six (Bracket xs) (λ _. (Token.begin_object, refl)) (λ _. (Token.end_object, refl)) (λ _. (Token.begin_array, refl)) (λ _. (Token.end_array, refl)) (λ m. absurd (true≢false m)) (λ m. absurd (true≢false m)) x e

pub bracket : (x : ℕ) (xs : List ℕ) → ends_number x ≡ true → is_mark x ≡ false → (t : Token) × (lex between (x ∷ xs) ≡ token t ∷ lex between xs)
bracket x xs e m = go (or_cases (is_operator x) (is_space x) e)
  where
    go : (is_operator x ≡ true) ⊎ (is_space x ≡ true) → (t : Token) × (lex between (x ∷ xs) ≡ token t ∷ lex between xs)
    go (inl o) = brackets x xs o m
    go (inr s) = absurd (true≢false (sym s ∙ (or_parts (is_space x) _ m).0))

pub string_at : (x : ℕ) (xs rest : List ℕ) → x ≡ 34 → lex in_string xs ≡ lex between rest → (t : Token) × (lex between (x ∷ xs) ≡ token t ∷ lex between rest)
unfolding lex
string_at x xs rest q e = (string_token (content plain xs), ap (λ y. lex between (y ∷ xs)) q ∙ ap (λ ls. token (string_token (content plain xs)) ∷ ls) e)

in_a_word : (q b o s : Bool) (x : ℕ) (xs : List ℕ) (k : Mode → List Lexeme) → q ≡ false → (o || s) ≡ false → (t : Token) × (lex_byte between (class_by q b o s) x xs k ≡ token t ∷ k in_word)
in_a_word true b o s x xs k f e = absurd (true≢false f)
in_a_word false true o s x xs k f e = (bad, refl)
in_a_word false false true s x xs k f e = absurd (true≢false e)
in_a_word false false false true x xs k f e = absurd (true≢false e)
in_a_word false false false false x xs k f e = (word (x ∷ xs), refl)

pub word_from : (x : ℕ) (xs rest : List ℕ) → ends_number x ≡ false → (x ≡ 34 → ⊥) → lex in_word xs ≡ lex between rest → (t : Token) × (lex between (x ∷ xs) ≡ token t ∷ lex between rest)
unfolding lex
word_from x xs rest e q h =
    let found : (t : Token) × (lex between (x ∷ xs) ≡ token t ∷ lex in_word xs) = in_a_word (x == 34) (x == 92) (is_operator x) (is_space x) x xs (λ n. lex n xs) (differs x 34 q) e in
    (found.0, found.1 ∙ ap (λ ls. token found.0 ∷ ls) h)
