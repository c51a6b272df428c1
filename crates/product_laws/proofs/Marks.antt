-- Blanks, commas and colons before a token.
use Rattle.std.proofs.Common.{◌≡◌, ℕ, ◌+◌, ◌⊎◌, inl, inr, Bool, true, false, cond, not, ◌||◌, ◌==◌, List, [], ◌∷◌, ◌++◌, drop, refl, sym, ap, ◌∙◌, subst}
use Rattle.std.proofs.lemmas.Bool.{and_from, and_parts, eqb-true, false≢true, or_cases}
use Rattle.std.specs.List.{list_all, prefix_len}
use Rattle.json.specs.Align.{is_good}
use Rattle.json.specs.Lex.{Lexeme, Place, after_comma, after_key, after_value, begins_colon, between, colon, comma, fresh, lex, punctuate}
use Rattle.json.specs.Token.{Token, bad}
use Rattle.json.specs.Word.{ends_word, is_space}
use Rattle.text_spans.specs.Place.{begins_token, from_token, is_mark}
use Rattle.product_laws.proofs.Words.{one_more}

-- ---- up to the byte that a token begins with

-- a text up to its first token, and from there
pub record Begins (t : List ℕ) : Type 0 where
  pub marks : List ℕ
  pub is : t ≡ marks ++ from_token t
  pub are : list_all is_mark marks ≡ true
  pub token : begins_token (from_token t) ≡ true

begins_byte : (b : Bool) (x : ℕ) (xs : List ℕ) → is_mark x ≡ b → Begins xs → Begins (x ∷ xs)
begins_byte false x xs e more =
    let here : x ∷ xs ≡ from_token (x ∷ xs) = ap (λ c. drop (cond c (1 + prefix_len is_mark xs) 0) (x ∷ xs)) (sym e) in
    record { marks = []; is = here; are = refl; token = ap begins_token (sym here) ∙ ap not e }
begins_byte true x xs e more =
    let there : from_token xs ≡ from_token (x ∷ xs) = sym (ap (λ c. drop (cond c (1 + prefix_len is_mark xs) 0) (x ∷ xs)) e ∙ one_more (prefix_len is_mark xs) x xs) in
    record {
      marks = x ∷ more.marks;
      is = ap (λ l. x ∷ l) (more.is ∙ ap (λ l. more.marks ++ l) there);
      are = and_from (is_mark x) _ e more.are;
      token = ap begins_token (sym there) ∙ more.token;
    }

pub begins : (t : List ℕ) → Begins t
begins [] = record { marks = []; is = refl; are = refl; token = refl }
begins (x ∷ xs) = begins_byte (is_mark x) x xs refl (begins xs)

pub begins_here : (here : List ℕ) → begins_token here ≡ true → from_token here ≡ here
begins_here [] e = refl
begins_here (x ∷ xs) e = by (is_mark x) refl e
  where
    by : (b : Bool) → is_mark x ≡ b → not b ≡ true → from_token (x ∷ xs) ≡ x ∷ xs
    by true h f = absurd (false≢true f)
    by false h f = ap (λ c. drop (cond c (1 + prefix_len is_mark xs) 0) (x ∷ xs)) h

-- ---- as lexemes

-- a mark is passed over, or is a comma, or a colon
abbrev Lexed : ℕ → Type 0
Lexed x = ((r : List ℕ) → lex between (x ∷ r) ≡ lex between r) ⊎ (((r : List ℕ) → lex between (x ∷ r) ≡ comma ∷ lex between r) ⊎ ((r : List ℕ) → lex between (x ∷ r) ≡ colon ∷ lex between r))

blank : (x : ℕ) → is_space x ≡ true → Lexed x
unfolding lex
blank x e = c (or_cases _ _ e)
  where
    a : (((x == 32) ≡ true) ⊎ ((x == 9) ≡ true)) → Lexed x
    a (inl h) = subst (λ y. Lexed y) (sym (eqb-true x 32 h)) (inl (λ r. refl))
    a (inr h) = subst (λ y. Lexed y) (sym (eqb-true x 9 h)) (inl (λ r. refl))

    b : ((((x == 32) || (x == 9)) ≡ true) ⊎ ((x == 10) ≡ true)) → Lexed x
    b (inl h) = a (or_cases _ _ h)
    b (inr h) = subst (λ y. Lexed y) (sym (eqb-true x 10 h)) (inl (λ r. refl))

    c : (((((x == 32) || (x == 9)) || (x == 10)) ≡ true) ⊎ ((x == 13) ≡ true)) → Lexed x
    c (inl h) = b (or_cases _ _ h)
    c (inr h) = subst (λ y. Lexed y) (sym (eqb-true x 13 h)) (inl (λ r. refl))

a_mark : (x : ℕ) → ((x == 44) ≡ true) ⊎ ((x == 58) ≡ true) → Lexed x
unfolding lex
a_mark x (inl h) = subst (λ y. Lexed y) (sym (eqb-true x 44 h)) (inr (inl (λ r. refl)))
a_mark x (inr h) = subst (λ y. Lexed y) (sym (eqb-true x 58 h)) (inr (inr (λ r. refl)))

lexed : (x : ℕ) → is_mark x ≡ true → Lexed x
lexed x m = by (or_cases (is_space x) ((x == 44) || (x == 58)) m)
  where
    by : (is_space x ≡ true) ⊎ (((x == 44) || (x == 58)) ≡ true) → Lexed x
    by (inl h) = blank x h
    by (inr h) = a_mark x (or_cases _ _ h)

-- ---- as places

-- from one place to another
abbrev Moves : Lexeme → Place → Type 0
Moves l p = ((q : Place) × ((ls : List Lexeme) → punctuate p (l ∷ ls) ≡ punctuate q ls)) ⊎ ((ls : List Lexeme) → punctuate p (l ∷ ls) ≡ bad ∷ [])

past_comma : (p : Place) → Moves comma p
unfolding punctuate
past_comma fresh = inr (λ ls. refl)
past_comma after_value = inl (after_comma, λ ls. refl)
past_comma after_comma = inr (λ ls. refl)
past_comma after_key = inr (λ ls. refl)

past_colon : (p : Place) → Moves colon p
unfolding punctuate
past_colon fresh = inr (λ ls. refl)
past_colon after_value = inr (λ ls. refl)
past_colon after_comma = inr (λ ls. refl)
past_colon after_key = inl (fresh, λ ls. refl)

-- the marks lead from one place to another, whatever follows
abbrev pub Passes : List ℕ → Place → Place → Type 0
Passes m p q = (r : List ℕ) → punctuate p (lex between (m ++ r)) ≡ punctuate q (lex between r)

pub no_fault : {P : Type 0} (k : Token) (us : List Token) → bad ∷ [] ≡ k ∷ us → is_good k ≡ true → P
no_fault k us e g = let same : bad ≡ k = cc in absurd (false≢true (ap is_good same ∙ g))

module _ (k : Token) (us : List Token) (good : is_good k ≡ true) (r : List ℕ) where
  moved : (x : ℕ) (m : List ℕ) (p : Place) (l : Lexeme) → ((r : List ℕ) → lex between (x ∷ r) ≡ l ∷ lex between r) → Moves l p
      → ((q : Place) → punctuate q (lex between (m ++ r)) ≡ k ∷ us → (n : Place) × Passes m q n) → punctuate p (lex between (x ∷ (m ++ r))) ≡ k ∷ us → (n : Place) × Passes (x ∷ m) p n
  moved x m p l is (inl (q, same)) more e =
      let next = more q (sym (same (lex between (m ++ r))) ∙ ap (punctuate p) (sym (is (m ++ r))) ∙ e) in
      (next.0, λ s. ap (punctuate p) (is (m ++ s)) ∙ same (lex between (m ++ s)) ∙ next.1 s)
  moved x m p l is (inr fault) more e = no_fault k us (sym (fault (lex between (m ++ r))) ∙ ap (punctuate p) (sym (is (m ++ r))) ∙ e) good

  past : (x : ℕ) (m : List ℕ) (p : Place) → Lexed x → ((q : Place) → punctuate q (lex between (m ++ r)) ≡ k ∷ us → (n : Place) × Passes m q n)
      → punctuate p (lex between (x ∷ (m ++ r))) ≡ k ∷ us → (n : Place) × Passes (x ∷ m) p n
  past x m p (inl is) more e =
      let next = more p (ap (punctuate p) (sym (is (m ++ r))) ∙ e) in
      (next.0, λ s. ap (punctuate p) (is (m ++ s)) ∙ next.1 s)
  past x m p (inr (inl is)) more e = moved x m p comma is (past_comma p) more e
  past x m p (inr (inr is)) more e = moved x m p colon is (past_colon p) more e

  -- where a good token comes, the marks before it are passed
  pub passed : (m : List ℕ) (p : Place) → list_all is_mark m ≡ true → punctuate p (lex between (m ++ r)) ≡ k ∷ us → (q : Place) × Passes m p q
  passed [] p are e = (p, λ s. refl)
  passed (x ∷ m) p are e = let parts = and_parts (is_mark x) (list_all is_mark m) are in past x m p (lexed x parts.0) (λ q. passed m q parts.1) e

-- ---- the first lexeme and the first byte

-- two texts begin alike
abbrev pub Alike : List ℕ → List ℕ → Type 0
Alike a b = (begins_colon (lex between a) ≡ begins_colon (lex between b)) × (ends_word a ≡ ends_word b)

alike_byte : (x : ℕ) (a b : List ℕ) → Lexed x → Alike a b → Alike (x ∷ a) (x ∷ b)
alike_byte x a b (inl is) h = (ap begins_colon (is a) ∙ h.0 ∙ ap begins_colon (sym (is b)), refl)
alike_byte x a b (inr (inl is)) h = (ap begins_colon (is a) ∙ ap begins_colon (sym (is b)), refl)
alike_byte x a b (inr (inr is)) h = (ap begins_colon (is a) ∙ ap begins_colon (sym (is b)), refl)

pub alike : (m a b : List ℕ) → list_all is_mark m ≡ true → Alike a b → Alike (m ++ a) (m ++ b)
alike [] a b are h = h
alike (x ∷ m) a b are h = let parts = and_parts (is_mark x) (list_all is_mark m) are in alike_byte x (m ++ a) (m ++ b) (lexed x parts.0) (alike m a b parts.1 h)
