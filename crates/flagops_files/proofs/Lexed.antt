-- The bytes that the lexemes of a line stand for: blanks up to a bracket or a quote, and the first byte of a text.
use Rattle.std.proofs.Common.{◌≡◌, ℕ, ◌⊎◌, inl, inr, Bool, true, false, not, cond, ◌||◌, ◌&&◌, ◌==◌, nat_lt, List, [], ◌∷◌, ◌++◌, Option, Some, None, refl, sym, ap, ◌∙◌, subst}
use Rattle.std.proofs.lemmas.Bool.{true≢false, false≢true, eqb-true, not-true, not-false, or_cases, or_left, or_right}
use Rattle.flag_text.proofs.Bools.{both, left, right}
use Rattle.json.specs.Token.{Token, begin_object, end_object, begin_array, end_array, key, string, number, boolean, null, bad}
use Rattle.json.specs.Text.{content, plain, prepend}
use Rattle.json.specs.Word.{is_operator, is_space, head, ends_word, number_before, after_number, word}
use Rattle.json.specs.Lex.{Lexeme, token, comma, colon, Class, quote, backslash, operator, space, other, operator_lexeme, string_token, Mode, between, lex_byte, lex}
use Rattle.flagops_shell.specs.Beginning.{is_mark, after_blanks, begins_name, begins_member, begins_object, may_begin_record}
use Rattle.flagops_files.proofs.Blanks.{after_blanks-mark, after_blanks-blank}

-- ---- which lexeme a byte begins

-- the class of a byte, by what is asked of it in turn
abbrev class_by : Bool → Bool → Bool → Bool → Class
class_by q b o s = cond q quote (cond b backslash (cond o operator (cond s space other)))

-- an object opens
abbrev is_opening : Token → Bool
is_opening begin_object = true
is_opening end_object = false
is_opening begin_array = false
is_opening end_array = false
is_opening (key s) = false
is_opening (string s) = false
is_opening (number s) = false
is_opening (boolean b) = false
is_opening null = false
is_opening bad = false

-- a text
abbrev is_string : Token → Bool
is_string begin_object = false
is_string end_object = false
is_string begin_array = false
is_string end_array = false
is_string (key s) = false
is_string (string s) = true
is_string (number s) = false
is_string (boolean b) = false
is_string null = false
is_string bad = false

abbrev opens : Lexeme → Bool
opens (token t) = is_opening t
opens comma = false
opens colon = false

abbrev quotes : Lexeme → Bool
quotes (token t) = is_string t
quotes comma = false
quotes colon = false

-- a number or a literal is neither
abbrev is_word : Token → Bool
is_word t = not (is_opening t) && not (is_string t)

word_if : (b : Bool) (t u : Token) → is_word t ≡ true → is_word u ≡ true → is_word (cond b t u) ≡ true
word_if true t u p q = p
word_if false t u p q = q

number_is_word : (t : List ℕ) (o : Option (List ℕ)) → is_word (number_before t o) ≡ true
number_is_word t None = refl
number_is_word t (Some rest) = word_if (ends_word rest) _ bad refl refl

word_is_word : (t : List ℕ) → is_word (word t) ≡ true
unfolding word
word_is_word t =
    word_if (head t == 116) _ _ (word_if _ (boolean true) bad refl refl)
    (word_if (head t == 102) _ _ (word_if _ (boolean false) bad refl refl)
    (word_if (head t == 110) _ _ (word_if _ null bad refl refl) (number_is_word t (after_number t))))

word_opens_none : (t : Token) → is_word t ≡ true → is_opening t ≡ true → ⊥
word_opens_none t w o = true≢false (sym (left (not (is_opening t)) _ w) ∙ ap not o)

word_quotes_none : (t : Token) → is_word t ≡ true → is_string t ≡ true → ⊥
word_quotes_none t w o = true≢false (sym (right (not (is_opening t)) _ w) ∙ ap not o)

string_opens_none : (o : Option (List ℕ)) → is_opening (string_token o) ≡ true → ⊥
string_opens_none None e = false≢true e
string_opens_none (Some s) e = false≢true e

-- neither of two lexemes passes the test
neither : (f : Lexeme → Bool) (b : Bool) (l m : Lexeme) → f l ≡ false → f m ≡ false → f (cond b l m) ≡ false
neither f true l m p q = p
neither f false l m p q = q

only_first : (b : Bool) (l : Lexeme) → opens l ≡ false → opens (cond b (token begin_object) l) ≡ true → b ≡ true
only_first true l none e = refl
only_first false l none e = absurd (false≢true (sym none ∙ e))

opening_operator : (x : ℕ) → opens (operator_lexeme x) ≡ true → x ≡ 123
opening_operator x e =
    eqb-true x 123 (only_first (x == 123) _ (neither opens (x == 125) (token end_object) _ refl (neither opens (x == 91) (token begin_array) _ refl (neither opens (x == 93) (token end_array) _ refl (neither opens (x == 44) comma colon refl refl)))) e)

no_string_operator : (x : ℕ) → quotes (operator_lexeme x) ≡ false
no_string_operator x =
    neither quotes (x == 123) (token begin_object) _ refl (neither quotes (x == 125) (token end_object) _ refl (neither quotes (x == 91) (token begin_array) _ refl (neither quotes (x == 93) (token end_array) _ refl (neither quotes (x == 44) comma colon refl refl))))

-- ---- the byte that a lexeme begins with, where it is no blank

opened_by : (q b o s : Bool) (x : ℕ) (xs : List ℕ) (k : Mode → List Lexeme) (l : Lexeme) (ls : List Lexeme) → s ≡ false → opens l ≡ true → lex_byte between (class_by q b o s) x xs k ≡ l ∷ ls → (x ≡ 123) × (k between ≡ ls)
opened_by true b o s x xs k l ls solid is e = let same : token (string_token (content plain xs)) ≡ l = cc in absurd (string_opens_none (content plain xs) (ap opens same ∙ is))
opened_by false true o s x xs k l ls solid is e = let same : token bad ≡ l = cc in absurd (false≢true (ap opens same ∙ is))
opened_by false false true s x xs k l ls solid is e = let same : operator_lexeme x ≡ l = cc in (opening_operator x (ap opens same ∙ is), cc)
opened_by false false false true x xs k l ls solid is e = absurd (true≢false solid)
opened_by false false false false x xs k l ls solid is e = let same : token (word (x ∷ xs)) ≡ l = cc in absurd (word_opens_none (word (x ∷ xs)) (word_is_word (x ∷ xs)) (ap opens same ∙ is))

opened : (x : ℕ) (xs : List ℕ) (l : Lexeme) (ls : List Lexeme) → is_space x ≡ false → opens l ≡ true → lex between (x ∷ xs) ≡ l ∷ ls → (x ≡ 123) × (lex between xs ≡ ls)
unfolding lex
opened x xs l ls solid is e = opened_by (x == 34) (x == 92) (is_operator x) (is_space x) x xs (λ m. lex m xs) l ls solid is e

-- a text is told by its quote
text_by : (q : Bool) (x : ℕ) (xs s : List ℕ) → q ≡ true → (x == 34) ≡ q → token (string_token (content plain xs)) ≡ token (string s) → (x ≡ 34) × (content plain xs ≡ Some s)
text_by q x xs s t is e = go (content plain xs) refl e
  where
    go : (o : Option (List ℕ)) → content plain xs ≡ o → token (string_token o) ≡ token (string s) → (x ≡ 34) × (content plain xs ≡ Some s)
    go None f g = absurd (false≢true (ap quotes g))
    go (Some r) f g = let same : r ≡ s = cc in (eqb-true x 34 (is ∙ t), f ∙ ap Some same)

quoted_by : (q b o s : Bool) (x : ℕ) (xs : List ℕ) (k : Mode → List Lexeme) (r : List ℕ) (ls : List Lexeme) → s ≡ false → (x == 34) ≡ q → lex_byte between (class_by q b o s) x xs k ≡ token (string r) ∷ ls → (x ≡ 34) × (content plain xs ≡ Some r)
quoted_by true b o s x xs k r ls solid is e = let same : token (string_token (content plain xs)) ≡ token (string r) = cc in text_by true x xs r refl is same
quoted_by false true o s x xs k r ls solid is e = let same : token bad ≡ token (string r) = cc in absurd (false≢true (ap quotes same))
quoted_by false false true s x xs k r ls solid is e = let same : operator_lexeme x ≡ token (string r) = cc in absurd (false≢true (sym (no_string_operator x) ∙ ap quotes same))
quoted_by false false false true x xs k r ls solid is e = absurd (true≢false solid)
quoted_by false false false false x xs k r ls solid is e = let same : token (word (x ∷ xs)) ≡ token (string r) = cc in absurd (word_quotes_none (word (x ∷ xs)) (word_is_word (x ∷ xs)) (ap quotes same))

texted : (x : ℕ) (xs r : List ℕ) (ls : List Lexeme) → is_space x ≡ false → lex between (x ∷ xs) ≡ token (string r) ∷ ls → (x ≡ 34) × (content plain xs ≡ Some r)
unfolding lex
texted x xs r ls solid e = quoted_by (x == 34) (x == 92) (is_operator x) (is_space x) x xs (λ m. lex m xs) r ls solid refl e

-- ---- blanks

one_of : (P : ℕ → Type 0) (x c : ℕ) (b : Bool) → P c → (b ≡ true → P x) → (b ≡ true) ⊎ ((x == c) ≡ true) → P x
one_of P x c b p f (inl e) = f e
one_of P x c b p f (inr e) = subst P (sym (eqb-true x c e)) p

three : (P : ℕ → Type 0) → P 32 → P 9 → P 13 → (x : ℕ) → is_mark x ≡ false → P x
three P a b c x e =
    one_of P x 13 _ c (λ h. one_of P x 9 _ b (λ i. subst P (sym (eqb-true x 32 i)) a) (or_cases _ _ h)) (or_cases (x == 32 || x == 9) (x == 13) (not-false _ e))

lex_blank : (x : ℕ) (xs : List ℕ) → is_mark x ≡ false → lex between (x ∷ xs) ≡ lex between xs
unfolding lex
lex_blank x xs e = three (λ y. lex between (y ∷ xs) ≡ lex between xs) refl refl refl x e

no_space : (a b c d : Bool) → not ((a || b) || d) ≡ true → c ≡ false → (((a || b) || c) || d) ≡ false
no_space true b c d h e = absurd (false≢true h)
no_space false true c d h e = absurd (false≢true h)
no_space false false true d h e = absurd (true≢false e)
no_space false false false true h e = absurd (false≢true h)
no_space false false false false h e = refl

solid_mark : (x : ℕ) → is_mark x ≡ true → (x == 10) ≡ false → is_space x ≡ false
solid_mark x h e = no_space (x == 32) (x == 9) (x == 10) (x == 13) h e

-- no line feed
abbrev pub feedless : List ℕ → Bool
feedless [] = true
feedless (x ∷ xs) = not (x == 10) && feedless xs

-- the byte that the lexeme l begins with, behind the blanks of a line, and what follows it there
record Begun (line : List ℕ) (l : Lexeme) (ls : List Lexeme) : Type 0 where
  first : ℕ
  after : List ℕ
  blanks : (rest : List ℕ) → after_blanks (line ++ rest) ≡ first ∷ (after ++ rest)
  lexed : lex between (first ∷ after) ≡ l ∷ ls
  solid : is_space first ≡ false
  free : feedless after ≡ true

begun : (line : List ℕ) (l : Lexeme) (ls : List Lexeme) → feedless line ≡ true → lex between line ≡ l ∷ ls → Begun line l ls
unfolding lex
begun [] l ls f e = cc
begun (x ∷ xs) l ls f e = go (is_mark x) refl (λ h. begun xs l ls (right (not (x == 10)) _ f) h)
  where
    go : (b : Bool) → is_mark x ≡ b → (lex between xs ≡ l ∷ ls → Begun xs l ls) → Begun (x ∷ xs) l ls
    go true m later = record {
      first = x;
      after = xs;
      blanks = λ rest. after_blanks-mark x (xs ++ rest) m;
      lexed = e;
      solid = solid_mark x m (not-true _ (left (not (x == 10)) _ f));
      free = right (not (x == 10)) _ f;
    }
    go false m later =
        let h = later (sym (lex_blank x xs m) ∙ e) in
        record { first = h.first; after = h.after; blanks = λ rest. after_blanks-blank x (xs ++ rest) m ∙ h.blanks rest; lexed = h.lexed; solid = h.solid; free = h.free }

-- ---- the name

first_by : (q b c : Bool) (escape o : Option (List ℕ)) (x y : ℕ) (k : List ℕ) → cond q (Some []) (cond b escape (cond c None (prepend (x ∷ []) o))) ≡ Some (y ∷ k) → (b ≡ true) ⊎ (x ≡ y)
first_by true b c escape o x y k e = let same : [] ≡ y ∷ k = cc in cc
first_by false true c escape o x y k e = inl refl
first_by false false true escape o x y k e = cc
first_by false false false escape None x y k e = cc
first_by false false false escape (Some s) x y k e = let same : x ∷ s ≡ y ∷ k = cc in inr cc

-- a text that begins with `b` is written so, or with an escape
named : (k xs rest : List ℕ) → content plain xs ≡ Some (98 ∷ k) → begins_name (xs ++ rest) ≡ true
unfolding content
named k [] rest e = cc
named k (x ∷ xs) rest e = go (first_by (x == 34) (x == 92) (nat_lt x 32) _ (content plain xs) x 98 k e)
  where
    go : ((x == 92) ≡ true) ⊎ (x ≡ 98) → begins_name (x ∷ (xs ++ rest)) ≡ true
    go (inl h) = or_left (x == 98 || x == 92) _ (or_right (x == 98) _ h)
    go (inr h) = or_left (x == 98 || x == 92) _ (or_left (x == 98) _ (ap (λ y. y == 98) h))

-- a line whose lexemes are those of an object whose first name begins with `b`, whatever follows it
pub line_may_begin : (line rest k : List ℕ) (ls : List Lexeme) → feedless line ≡ true → lex between line ≡ token begin_object ∷ (token (string (98 ∷ k)) ∷ ls) → may_begin_record (line ++ rest) ≡ true
unfolding may_begin_record
line_may_begin line rest k ls f e =
    let a = begun line (token begin_object) (token (string (98 ∷ k)) ∷ ls) f e in
    let object = opened a.first a.after (token begin_object) (token (string (98 ∷ k)) ∷ ls) a.solid refl a.lexed in
    let c = begun a.after (token (string (98 ∷ k))) ls a.free object.1 in
    let text = texted c.first c.after (98 ∷ k) ls c.solid c.lexed in
    let member : begins_member (after_blanks (a.after ++ rest)) ≡ true = ap begins_member (c.blanks rest) ∙ both (c.first == 34) _ (ap (λ y. y == 34) text.0) (named k c.after rest text.1) in
    ap begins_object (a.blanks rest) ∙ both (a.first == 123) _ (ap (λ y. y == 123) object.0) member
