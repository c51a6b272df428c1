-- The numbers of a text in which other bytes stand in the place of some: each is one that was there, or one of these bytes.
use Rattle.std.proofs.Common.{◌≡◌, ◌⊎◌, inl, inr, ℕ, zero, suc, ◌+◌, Bool, true, false, cond, not, ◌&&◌, ◌||◌, ◌==◌, nat_lt, List, [], ◌∷◌, ◌++◌, drop, Option, Some, None, option_and_then, refl, sym, ap, ap₂, ◌∙◌, subst, arith, append_assoc, true≢false}
use Rattle.std.proofs.lemmas.Bool.{and_from, and_parts, eqb-true, false≢true, or_cases, or_parts}
use Rattle.std.proofs.lemmas.List.{append_cancel_right}
use Rattle.std.specs.List.{list_all, prefix_len}
use Rattle.std.specs.Str.{bytes_eq}
use Rattle.json.proofs.Printed.Numbers.{in_word-ended}
use Rattle.json.specs.Align.{is_good, mode_after, span, span_byte}
use Rattle.json.specs.Json.{Json, null, boolean, number, string, array, object, Items, no_items, item, Members, no_members, member, document}
use Rattle.json.specs.Lex.{Class, quote, backslash, operator, space, other, class, Lexeme, token, comma, colon, Mode, between, in_word, in_string, in_escape, lex, lex_byte, string_token}
use Rattle.json.specs.Text.{content, plain}
use Rattle.json.specs.Token.{Token}
use Rattle.json.specs.Word.{ends_word, is_operator, is_space, word}
use Rattle.text_spans.specs.Place.{after_string, after_token, after_word, behind, ends_number, from_token, is_mark}
use Rattle.text_spans.specs.Path.{Place, Stands, Step, name, index, item_place, member_place, place, place_of, token_count}
use Rattle.product_laws.proofs.Words.{IsWord, goes, one_more, word_there}

-- ---- modes

-- the mode in which the lexer passes on behind a byte
abbrev pub next : Mode → Class → Mode
next between c = mode_after c
next in_word quote = in_word
next in_word backslash = in_word
next in_word operator = between
next in_word space = between
next in_word other = in_word
next in_string quote = between
next in_string backslash = in_escape
next in_string operator = in_string
next in_string space = in_string
next in_string other = in_string
next in_escape c = in_string

-- behind these bytes
abbrev pub after : Mode → List ℕ → Mode
after m [] = m
after m (x ∷ xs) = after (next m (class x)) xs

-- a lexeme may begin here, or what ends the word before
abbrev pub Starts : Mode → List ℕ → Type 0
Starts m t = (m ≡ between) ⊎ ((m ≡ in_word) × (ends_word t ≡ true))

same_start : (m : Mode) (t : List ℕ) → Starts m t → lex m t ≡ lex between t
same_start m t (inl e) = ap (λ n. lex n t) e
same_start m t (inr h) = ap (λ n. lex n t) h.0 ∙ in_word-ended t h.1

lexed : (m : Mode) (x : ℕ) (xs : List ℕ) → lex m (x ∷ xs) ≡ lex_byte m (class x) x xs (λ n. lex n xs)
unfolding lex
lexed m x xs = refl

pub nothing_lexed : (m : Mode) → lex m [] ≡ []
unfolding lex
nothing_lexed m = refl

not_between : {X : Type 0} → in_word ≡ between → X
not_between e = cc

-- ---- bytes that end no word

no_end : (x : ℕ) → goes x ≡ true → ends_number x ≡ false
no_end x g = by (ends_number x) (and_parts (not (ends_number x)) (nat_lt x 128) g).0
  where
    by : (b : Bool) → not b ≡ true → b ≡ false
    by true e = absurd (false≢true e)
    by false e = refl

in_word_still : (x : ℕ) → ends_number x ≡ false → next in_word (class x) ≡ in_word
in_word_still x none = by (x == 34) (x == 92) (is_operator x) (is_space x) (or_parts (is_operator x) (is_space x) none).0 (or_parts (is_operator x) (is_space x) none).1
  where
    by : (q b o s : Bool) → o ≡ false → s ≡ false → next in_word (cond q quote (cond b backslash (cond o operator (cond s space other)))) ≡ in_word
    by true b o s eo es = refl
    by false true o s eo es = refl
    by false false true s eo es = absurd (true≢false eo)
    by false false false true eo es = absurd (true≢false es)
    by false false false false eo es = refl

-- the word that begins some bytes begins them before whatever ends it
module _ (b c : List ℕ) where
  abbrev Ends : List ℕ → List ℕ → Type 0
  Ends w a = (r : List ℕ) × (a ++ b ≡ w ++ r) × (ends_word r ≡ true)

  ended_by : Starts in_word b → ends_word b ≡ true
  ended_by (inl e) = not_between e
  ended_by (inr h) = h.1

  word_ends : (w a rest : List ℕ) → a ++ c ≡ w ++ rest → list_all goes w ≡ true → ends_word rest ≡ true → Starts (after in_word a) b → Starts (after in_word a) c → Ends w a
  word_ends [] [] rest is go ended s t = (b, refl, ended_by s)
  word_ends [] (z ∷ a) rest is go ended s t = (z ∷ (a ++ b), refl, ap ends_word is ∙ ended)
  word_ends (y ∷ w) [] rest is go ended s (inl e) = not_between e
  word_ends (y ∷ w) [] rest is go ended s (inr h) = absurd (true≢false (sym h.1 ∙ ap ends_word is ∙ no_end y (and_parts (goes y) (list_all goes w) go).0))
  word_ends (y ∷ w) (z ∷ a) rest is go ended s t =
      let parts = and_parts (goes y) (list_all goes w) go in
      let head : z ≡ y = cc in
      let tail : a ++ c ≡ w ++ rest = cc in
      let still : next in_word (class z) ≡ in_word = ap (λ x. next in_word (class x)) head ∙ in_word_still y (no_end y parts.0) in
      let more = word_ends w a rest tail parts.1 ended (subst (λ (n : Mode). Starts (after n a) b) still s) (subst (λ (n : Mode). Starts (after n a) c) still t) in
      (more.0, ap₂ (λ x xs. x ∷ xs) head more.1, more.2)

-- ---- the numbers of lexemes

module _ (P : List ℕ → Bool) where
  abbrev pub token_has : Token → Bool
  token_has Token.begin_object = true
  token_has Token.end_object = true
  token_has Token.begin_array = true
  token_has Token.end_array = true
  token_has (Token.key s) = true
  token_has (Token.string s) = true
  token_has (Token.number s) = P s
  token_has (Token.boolean b) = true
  token_has Token.null = true
  token_has Token.bad = true

  abbrev pub lexeme_has : Lexeme → Bool
  lexeme_has (token t) = token_has t
  lexeme_has comma = true
  lexeme_has colon = true

  -- each number is one of these
  abbrev pub have : List Lexeme → Bool
  have ls = list_all lexeme_has ls

  pub text_has : (o : Option (List ℕ)) → lexeme_has (token (string_token o)) ≡ true
  text_has None = refl
  text_has (Some s) = refl

  fault_has : (k : Token) → is_good k ≡ false → token_has k ≡ true
  fault_has Token.begin_object e = refl
  fault_has Token.end_object e = refl
  fault_has Token.begin_array e = refl
  fault_has Token.end_array e = refl
  fault_has (Token.key s) e = refl
  fault_has (Token.string s) e = refl
  fault_has (Token.number s) e = absurd (true≢false e)
  fault_has (Token.boolean b) e = refl
  fault_has Token.null e = refl
  fault_has Token.bad e = refl

  first_is : {a b : Token} {l m : List Lexeme} → token a ∷ l ≡ token b ∷ m → a ≡ b
  first_is h = cc

  word_lexed : (x : ℕ) (xs : List ℕ) → class x ≡ other → lex between (x ∷ xs) ≡ token (word (x ∷ xs)) ∷ lex in_word xs
  word_lexed x xs e = lexed between x xs ∙ ap (λ k. lex_byte between k x xs (λ n. lex n xs)) e

  module _ (b c : List ℕ) where
    word_has : (x : ℕ) (a : List ℕ) → class x ≡ other → Starts (after in_word a) b → Starts (after in_word a) c → token_has (word (x ∷ (a ++ b))) ≡ true → token_has (word (x ∷ (a ++ c))) ≡ true
    word_has x a e s t h = by (is_good (word (x ∷ (a ++ c)))) refl
      where
        still : in_word ≡ next in_word (class x)
        still = ap (next in_word) (sym e)

        by : (g : Bool) → is_good (word (x ∷ (a ++ c))) ≡ g → token_has (word (x ∷ (a ++ c))) ≡ true
        by false g = fault_has (word (x ∷ (a ++ c))) g
        by true g =
            let w = word_there (x ∷ (a ++ c)) g in
            let ends = word_ends b c w.bytes (x ∷ a) w.rest w.is w.go w.ended (subst (λ (n : Mode). Starts (after n a) b) still s) (subst (λ (n : Mode). Starts (after n a) c) still t) in
            let same : word (x ∷ (a ++ b)) ≡ word (x ∷ (a ++ c)) = first_is (sym (word_lexed x (a ++ b) e) ∙ ap (lex between) ends.1 ∙ w.again ends.0 ends.2) in
            ap token_has (sym same) ∙ h

    -- what the bytes behind the byte x are lexed as goes on alike
    abbrev Alike : List ℕ → Mode → Type 0
    Alike a m = Starts (after m a) b → Starts (after m a) c → have (lex m (a ++ b)) ≡ true → have (lex m (a ++ c)) ≡ true

    byte_alike : (x : ℕ) (a : List ℕ) → ((m : Mode) → Alike a m) → (m : Mode) (k : Class) → class x ≡ k → Starts (after (next m k) a) b → Starts (after (next m k) a) c
        → have (lex_byte m k x (a ++ b) (λ n. lex n (a ++ b))) ≡ true → have (lex_byte m k x (a ++ c) (λ n. lex n (a ++ c))) ≡ true
    byte_alike x a more between quote e s t h = and_from _ _ (text_has (content plain (a ++ c))) (more in_string s t (and_parts _ _ h).1)
    byte_alike x a more between backslash e s t h = more in_word s t h
    byte_alike x a more between operator e s t h = let p = and_parts _ _ h in and_from _ _ p.0 (more between s t p.1)
    byte_alike x a more between space e s t h = more between s t h
    byte_alike x a more between other e s t h = let p = and_parts _ _ h in and_from _ _ (word_has x a e s t p.0) (more in_word s t p.1)
    byte_alike x a more in_word quote e s t h = more in_word s t h
    byte_alike x a more in_word backslash e s t h = more in_word s t h
    byte_alike x a more in_word operator e s t h = let p = and_parts _ _ h in and_from _ _ p.0 (more between s t p.1)
    byte_alike x a more in_word space e s t h = more between s t h
    byte_alike x a more in_word other e s t h = more in_word s t h
    byte_alike x a more in_string quote e s t h = more between s t h
    byte_alike x a more in_string backslash e s t h = more in_escape s t h
    byte_alike x a more in_string operator e s t h = more in_string s t h
    byte_alike x a more in_string space e s t h = more in_string s t h
    byte_alike x a more in_string other e s t h = more in_string s t h
    byte_alike x a more in_escape quote e s t h = more in_string s t h
    byte_alike x a more in_escape backslash e s t h = more in_string s t h
    byte_alike x a more in_escape operator e s t h = more in_string s t h
    byte_alike x a more in_escape space e s t h = more in_string s t h
    byte_alike x a more in_escape other e s t h = more in_string s t h

    -- other bytes may follow
    pub spliced : have (lex between c) ≡ true → (a : List ℕ) (m : Mode) → Alike a m
    spliced fine [] m s t h = ap have (same_start m c t) ∙ fine
    spliced fine (x ∷ a) m s t h = ap have (lexed m x (a ++ c)) ∙ byte_alike x a (spliced fine a) m (class x) refl s t (ap have (sym (lexed m x (a ++ b))) ∙ h)

  -- ---- what follows some bytes

  module _ (b : List ℕ) where
    abbrev Left : List ℕ → Mode → Type 0
    Left a m = Starts (after m a) b → have (lex m (a ++ b)) ≡ true → have (lex between b) ≡ true

    byte_left : (x : ℕ) (a : List ℕ) → ((m : Mode) → Left a m) → (m : Mode) (k : Class) → Starts (after (next m k) a) b → have (lex_byte m k x (a ++ b) (λ n. lex n (a ++ b))) ≡ true → have (lex between b) ≡ true
    byte_left x a more between quote s h = more in_string s (and_parts _ _ h).1
    byte_left x a more between backslash s h = more in_word s h
    byte_left x a more between operator s h = more between s (and_parts _ _ h).1
    byte_left x a more between space s h = more between s h
    byte_left x a more between other s h = more in_word s (and_parts _ _ h).1
    byte_left x a more in_word quote s h = more in_word s h
    byte_left x a more in_word backslash s h = more in_word s h
    byte_left x a more in_word operator s h = more between s (and_parts _ _ h).1
    byte_left x a more in_word space s h = more between s h
    byte_left x a more in_word other s h = more in_word s h
    byte_left x a more in_string quote s h = more between s h
    byte_left x a more in_string backslash s h = more in_escape s h
    byte_left x a more in_string operator s h = more in_string s h
    byte_left x a more in_string space s h = more in_string s h
    byte_left x a more in_string other s h = more in_string s h
    byte_left x a more in_escape quote s h = more in_string s h
    byte_left x a more in_escape backslash s h = more in_string s h
    byte_left x a more in_escape operator s h = more in_string s h
    byte_left x a more in_escape space s h = more in_string s h
    byte_left x a more in_escape other s h = more in_string s h

    pub left_has : (a : List ℕ) (m : Mode) → Left a m
    left_has [] m s h = ap have (sym (same_start m b s)) ∙ h
    left_has (x ∷ a) m s h = byte_left x a (left_has a) m (class x) s (ap have (sym (lexed m x (a ++ b))) ∙ h)

-- ---- edges of a text

-- behind these bytes a lexeme may begin, or nothing is left
abbrev pub Edge : Mode → List ℕ → Type 0
Edge m t = Starts m t ⊎ (t ≡ [])

abbrev IsEdge : List ℕ → List ℕ → Type 0
IsEdge text u = (a : List ℕ) × (text ≡ a ++ u) × Edge (after between a) u

after-push : (a : List ℕ) (m : Mode) (x : ℕ) → after m (a ++ x ∷ []) ≡ next (after m a) (class x)
after-push [] m x = refl
after-push (y ∷ a) m x = after-push a (next m (class y)) x

pushed : (text a xs : List ℕ) (x : ℕ) → text ≡ a ++ (x ∷ xs) → text ≡ (a ++ x ∷ []) ++ xs
pushed text a xs x e = e ∙ sym (append_assoc a (x ∷ []) xs)

-- a byte that ends a word is of one of two classes
end_class : (x : ℕ) → ends_number x ≡ true → (class x ≡ operator) ⊎ (class x ≡ space)
end_class x e = elim (or_cases (is_operator x) (is_space x) e) [
  | inl h ↦ inl (first (x == 34) (x == 92) refl refl h)
  | inr h ↦ second (x == 34) (x == 92) (is_operator x) refl refl refl h
]
  where
    quote_ends : (x == 34) ≡ true → ends_number x ≡ false
    quote_ends h = ap ends_number (eqb-true x 34 h)

    slash_ends : (x == 92) ≡ true → ends_number x ≡ false
    slash_ends h = ap ends_number (eqb-true x 92 h)

    first : (q b : Bool) → (x == 34) ≡ q → (x == 92) ≡ b → is_operator x ≡ true → cond q quote (cond b backslash (cond (is_operator x) operator (cond (is_space x) space other))) ≡ operator
    first true b hq hb h = absurd (true≢false (sym e ∙ quote_ends hq))
    first false true hq hb h = absurd (true≢false (sym e ∙ slash_ends hb))
    first false false hq hb h = ap (λ o. cond o operator (cond (is_space x) space other)) h

    second : (q b o : Bool) → (x == 34) ≡ q → (x == 92) ≡ b → is_operator x ≡ o → is_space x ≡ true
        → (cond q quote (cond b backslash (cond o operator (cond (is_space x) space other))) ≡ operator) ⊎ (cond q quote (cond b backslash (cond o operator (cond (is_space x) space other))) ≡ space)
    second true b o hq hb ho h = absurd (true≢false (sym e ∙ quote_ends hq))
    second false true o hq hb ho h = absurd (true≢false (sym e ∙ slash_ends hb))
    second false false true hq hb ho h = inl refl
    second false false false hq hb ho h = inr (ap (λ s. cond s space other) h)

-- it is followed by the beginning of a lexeme
pub ended_next : (m : Mode) (x : ℕ) (xs : List ℕ) → ends_number x ≡ true → Edge m (x ∷ xs) → next m (class x) ≡ between
ended_next m x xs e edge = by edge (end_class x e)
  where
    by : Edge m (x ∷ xs) → (class x ≡ operator) ⊎ (class x ≡ space) → next m (class x) ≡ between
    by (inl (inl is)) (inl k) = ap₂ next is k
    by (inl (inl is)) (inr k) = ap₂ next is k
    by (inl (inr h)) (inl k) = ap₂ next h.0 k
    by (inl (inr h)) (inr k) = ap₂ next h.0 k
    by (inr none) k = cc

mark_ends : (x : ℕ) → is_mark x ≡ true → ends_number x ≡ true
mark_ends x e = elim (or_cases (is_space x) ((x == 44) || (x == 58)) e) [
  | inl h ↦ either (is_operator x) (is_space x) h
  | inr h ↦ elim (or_cases (x == 44) (x == 58) h) [
    | inl is ↦ ap ends_number (eqb-true x 44 is)
    | inr is ↦ ap ends_number (eqb-true x 58 is)
  ]
]
  where
    either : (o s : Bool) → s ≡ true → (o || s) ≡ true
    either true s h = refl
    either false s h = h

-- another byte but a quote begins a word
begins_word : (x : ℕ) → ends_number x ≡ false → (x == 34) ≡ false → next between (class x) ≡ in_word
begins_word x none quoted = by (x == 34) (x == 92) (is_operator x) (is_space x) quoted (or_parts (is_operator x) (is_space x) none).0 (or_parts (is_operator x) (is_space x) none).1
  where
    by : (q b o s : Bool) → q ≡ false → o ≡ false → s ≡ false → mode_after (cond q quote (cond b backslash (cond o operator (cond s space other)))) ≡ in_word
    by true b o s eq eo es = absurd (true≢false eq)
    by false true o s eq eo es = refl
    by false false true s eq eo es = absurd (true≢false eo)
    by false false false true eq eo es = absurd (true≢false es)
    by false false false false eq eo es = refl

module _ (text : List ℕ) where
  -- behind its marks
  marks_edge : (u a : List ℕ) → text ≡ a ++ u → Edge (after between a) u → IsEdge text (from_token u)
  marks_edge [] a is edge = (a, is, edge)
  marks_edge (x ∷ xs) a is edge =
      let more : (a : List ℕ) → text ≡ a ++ xs → Edge (after between a) xs → IsEdge text (from_token xs) = marks_edge xs in by (is_mark x) refl more
    where
      by : (m : Bool) → is_mark x ≡ m → ((a : List ℕ) → text ≡ a ++ xs → Edge (after between a) xs → IsEdge text (from_token xs)) → IsEdge text (drop (cond m (1 + prefix_len is_mark xs) 0) (x ∷ xs))
      by false m more = (a, is, edge)
      by true m more =
          let new : after between (a ++ x ∷ []) ≡ between = after-push a between x ∙ ended_next (after between a) x xs (mark_ends x m) edge in
          subst (λ (l : List ℕ). IsEdge text l) (sym (one_more (prefix_len is_mark xs) x xs)) (more (a ++ x ∷ []) (pushed text a xs x is) (inl (inl new)))

  -- behind a word
  word_edge : (u a : List ℕ) → text ≡ a ++ u → after between a ≡ in_word → IsEdge text (after_word u)
  word_edge [] a is m = (a, is, inr refl)
  word_edge (x ∷ xs) a is m = let more : (a : List ℕ) → text ≡ a ++ xs → after between a ≡ in_word → IsEdge text (after_word xs) = word_edge xs in by (ends_number x) refl more
    where
      by : (b : Bool) → ends_number x ≡ b → ((a : List ℕ) → text ≡ a ++ xs → after between a ≡ in_word → IsEdge text (after_word xs)) → IsEdge text (drop (cond (not b) (1 + prefix_len (λ y. not (ends_number y)) xs) 0) (x ∷ xs))
      by true e more = (a, is, inl (inr (m, e)))
      by false e more =
          let new : after between (a ++ x ∷ []) ≡ in_word = after-push a between x ∙ ap (λ n. next n (class x)) m ∙ in_word_still x e in
          subst (λ (l : List ℕ). IsEdge text l) (sym (one_more (prefix_len (λ y. not (ends_number y)) xs) x xs)) (more (a ++ x ∷ []) (pushed text a xs x is) new)

  -- behind a string, within which it is
  abbrev InString : List ℕ → List ℕ → Type 0
  InString a u = (after between a ≡ in_string → IsEdge text (drop (span in_string u) u)) × (after between a ≡ in_escape → IsEdge text (drop (span in_escape u) u))

  module _ (x : ℕ) (xs a : List ℕ) (is : text ≡ a ++ (x ∷ xs)) (more : (a : List ℕ) → text ≡ a ++ xs → InString a xs) where
    further : InString (a ++ x ∷ []) xs
    further = more (a ++ x ∷ []) (pushed text a xs x is)

    moved : (m n : Mode) (k : Class) → class x ≡ k → after between a ≡ m → next m k ≡ n → after between (a ++ x ∷ []) ≡ n
    moved m n k e at to = after-push a between x ∙ ap₂ next at e ∙ to

    one_behind : (n : ℕ) → IsEdge text (drop n xs) → IsEdge text (drop (1 + n) (x ∷ xs))
    one_behind n h = subst (λ (l : List ℕ). IsEdge text l) (sym (one_more n x xs)) h

    in_string_byte : after between a ≡ in_string → (k : Class) → class x ≡ k → IsEdge text (drop (span_byte in_string k (λ n. span n xs)) (x ∷ xs))
    in_string_byte at quote e = (a ++ x ∷ [], pushed text a xs x is, inl (inl (moved in_string between quote e at refl)))
    in_string_byte at backslash e = one_behind (span in_escape xs) (further.1 (moved in_string in_escape backslash e at refl))
    in_string_byte at operator e = one_behind (span in_string xs) (further.0 (moved in_string in_string operator e at refl))
    in_string_byte at space e = one_behind (span in_string xs) (further.0 (moved in_string in_string space e at refl))
    in_string_byte at other e = one_behind (span in_string xs) (further.0 (moved in_string in_string other e at refl))

    escaped_byte : after between a ≡ in_escape → IsEdge text (drop (span_byte in_escape (class x) (λ n. span n xs)) (x ∷ xs))
    escaped_byte at = one_behind (span in_string xs) (further.0 (moved in_escape in_string (class x) refl at refl))

  spanned : (m : Mode) (x : ℕ) (xs : List ℕ) → span m (x ∷ xs) ≡ span_byte m (class x) (λ n. span n xs)
  unfolding span
  spanned m x xs = refl

  nothing_spanned : (m : Mode) → drop (span m []) [] ≡ (let none : List ℕ = [] in none)
  unfolding span
  nothing_spanned m = refl

  string_edge : (u a : List ℕ) → text ≡ a ++ u → InString a u
  string_edge [] a is = (λ at. (a, is ∙ ap (λ l. a ++ l) (sym (nothing_spanned in_string)), inr (nothing_spanned in_string)), λ at. (a, is ∙ ap (λ l. a ++ l) (sym (nothing_spanned in_escape)), inr (nothing_spanned in_escape)))
  string_edge (x ∷ xs) a is =
      let more : (a : List ℕ) → text ≡ a ++ xs → InString a xs = string_edge xs in (
        λ at. subst (λ (n : ℕ). IsEdge text (drop n (x ∷ xs))) (sym (spanned in_string x xs)) (in_string_byte x xs a is more at (class x) refl),
        λ at. subst (λ (n : ℕ). IsEdge text (drop n (x ∷ xs))) (sym (spanned in_escape x xs)) (escaped_byte x xs a is more at),
      )

  -- behind a token
  begun : (m : Mode) (x : ℕ) (xs : List ℕ) → ends_number x ≡ false → Edge m (x ∷ xs) → m ≡ between
  begun m x xs none (inl (inl is)) = is
  begun m x xs none (inl (inr h)) = absurd (true≢false (sym h.1 ∙ none))
  begun m x xs none (inr e) = cc

  token_edge : (u : List ℕ) → IsEdge text u → IsEdge text (after_token u)
  token_edge [] e = e
  token_edge (x ∷ xs) (a, is, edge) = by (ends_number x) (x == 34) refl refl
    where
      by : (b q : Bool) → ends_number x ≡ b → (x == 34) ≡ q → IsEdge text (cond b xs (cond q (after_string xs) (after_word xs)))
      by true q e h = (a ++ x ∷ [], pushed text a xs x is, inl (inl (after-push a between x ∙ ended_next (after between a) x xs e edge)))
      by false true e h =
          let at : after between (a ++ x ∷ []) ≡ in_string = after-push a between x ∙ ap₂ (λ m y. next m (class y)) (begun (after between a) x xs e edge) (eqb-true x 34 h) in
          (string_edge xs (a ++ x ∷ []) (pushed text a xs x is)).0 at
      by false false e h =
          let at : after between (a ++ x ∷ []) ≡ in_word = after-push a between x ∙ ap (λ m. next m (class x)) (begun (after between a) x xs e edge) ∙ begins_word x e h in
          word_edge xs (a ++ x ∷ []) (pushed text a xs x is) at

  behind_edge : (n : ℕ) (u : List ℕ) → IsEdge text u → IsEdge text (behind n u)
  unfolding behind
  behind_edge zero u e = e
  behind_edge (suc n) u e = behind_edge n (after_token (from_token u)) (token_edge (from_token u) (marks_edge u e.0 e.1 e.2))

  -- ---- the place of a value

  abbrev Edges : Option Place → Type 0
  Edges None = Unit {0}
  Edges (Some q) = IsEdge text q.0 × IsEdge text q.1

  either_edges : (b : Bool) (o p : Option Place) → Edges o → Edges p → Edges (cond b o p)
  either_edges true o p h g = h
  either_edges false o p h g = g

  mutual
    place_edges : (path : List Step) (j : Json) (u : List ℕ) → IsEdge text u → Edges (place path j u)
    place_edges [] j u e = (marks_edge u e.0 e.1 e.2, behind_edge (token_count j) u e)
    place_edges (index i ∷ path) (array js) u e = item_edges i path js (behind 1 u) (behind_edge 1 u e)
    place_edges (name k ∷ path) (object ms) u e = member_edges k path ms None (behind 1 u) tt (behind_edge 1 u e)
    place_edges (name k ∷ path) (array js) u e = tt
    place_edges (index i ∷ path) (object ms) u e = tt
    place_edges (name k ∷ path) null u e = tt
    place_edges (index i ∷ path) null u e = tt
    place_edges (name k ∷ path) (boolean b) u e = tt
    place_edges (index i ∷ path) (boolean b) u e = tt
    place_edges (name k ∷ path) (number s) u e = tt
    place_edges (index i ∷ path) (number s) u e = tt
    place_edges (name k ∷ path) (string s) u e = tt
    place_edges (index i ∷ path) (string s) u e = tt

    item_edges : (i : ℕ) (path : List Step) (js : Items) (u : List ℕ) → IsEdge text u → Edges (item_place i path js u)
    item_edges zero path no_items u e = tt
    item_edges (suc i) path no_items u e = tt
    item_edges zero path (item j js) u e = place_edges path j u e
    item_edges (suc i) path (item j js) u e = item_edges i path js (behind (token_count j) u) (behind_edge (token_count j) u e)

    member_edges : (k : List ℕ) (path : List Step) (ms : Members) (found : Option Place) (u : List ℕ) → Edges found → IsEdge text u → Edges (member_place k path ms found u)
    member_edges k path no_members found u h e = h
    member_edges k path (member l j ms) found u h e =
        member_edges k path ms _ (behind (suc (token_count j)) u) (either_edges (bytes_eq l k) (place path j (behind 1 u)) found (place_edges path j (behind 1 u) (behind_edge 1 u e)) h) (behind_edge (suc (token_count j)) u e)

  found_edges : (path : List Step) → Edges (place_of path text)
  found_edges path = by (document text)
    where
      by : (o : Option Json) → Edges (option_and_then (λ j. place path j text) o)
      by None = tt
      by (Some j) = place_edges path j text ([], refl, inl (inl refl))

  -- where a value stands, its bytes begin at an edge, and so do those behind it
  pub stands_at : (path : List Step) (front old back : List ℕ) → Stands text path front old back → Edge (after between front) (old ++ back) × Edge (after between (front ++ old)) back
  stands_at path front old back h =
      let edges : IsEdge text (old ++ back) × IsEdge text back = subst Edges h.there (found_edges path) in
      let first : edges.0.0 ≡ front = append_cancel_right edges.0.0 front (old ++ back) (sym edges.0.1 ∙ h.whole) in
      let second : edges.1.0 ≡ front ++ old = append_cancel_right edges.1.0 (front ++ old) back (sym edges.1.1 ∙ h.whole ∙ sym (append_assoc front old back)) in
      (subst (λ (l : List ℕ). Edge (after between l) (old ++ back)) first edges.0.2, subst (λ (l : List ℕ). Edge (after between l) back) second edges.1.2)
