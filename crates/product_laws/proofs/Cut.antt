-- The bytes of some tokens of a text are a text of just these.
use Rattle.std.proofs.Common.{◌≡◌, ℕ, suc, Bool, true, false, not, List, [], ◌∷◌, ◌++◌, length, refl, sym, ap, ◌∙◌, subst, append-nil, append_assoc}
use Rattle.std.proofs.lemmas.Bool.{and_parts, false≢true}
use Rattle.std.specs.List.{list_all}
use Rattle.json.specs.Align.{is_good}
use Rattle.json.specs.Lex.{Lexeme, Place, after_comma, after_key, after_value, begins_colon, between, fresh, if_allowed, lex, may_begin, may_close, place_token, punctuate, token}
use Rattle.json.specs.Print.{ends}
use Rattle.json.specs.Token.{Token, begin_object, end_object, begin_array, end_array, key, string, number, boolean, null, bad}
use Rattle.json.specs.Word.{ends_word}
use Rattle.text_spans.specs.Place.{after_token, behind, begins_token, from_token, is_mark, place_after}
use Rattle.product_laws.proofs.Marks.{Alike, Begins, Passes, alike, begins, no_fault, passed}
use Rattle.product_laws.proofs.Steps.{EndsLow, First, Follows, TakesToken, first_token}

-- ---- a token at a place

-- a lexeme gives a token, whatever follows
pub record Gives (p : Place) (l : Token) (b : Bool) (k : Token) : Type 0 where
  pub good : is_good l ≡ true
  pub here : (f : Place → List Token) → place_token p l b f ≡ k ∷ f (place_after k)
  pub first : (f : Place → List Token) → place_token fresh l b f ≡ k ∷ f (place_after k)
  pub last : ends k ≡ true → (f : Place → List Token) → place_token p l false f ≡ k ∷ f (place_after k)

gave : (t : Bool) (l k : Token) (f : Place → List Token) (n : Place) (us : List Token) → is_good k ≡ true → if_allowed t l f n ≡ k ∷ us → (t ≡ true) × (l ≡ k) × (f n ≡ us)
gave true l k f n us g e = (refl, cc, cc)
gave false l k f n us g e = no_fault k us e g

allowed : (t : Bool) (l k : Token) (n : Place) → t ≡ true → l ≡ k → n ≡ place_after l → (f : Place → List Token) → if_allowed t l f n ≡ k ∷ f (place_after k)
allowed t l k n e same at f = ap (λ b. if_allowed b l f n) e ∙ ap (λ m. l ∷ f m) at ∙ ap (λ m. m ∷ f (place_after m)) same

module _ (k : Token) (f : Place → List Token) (us : List Token) (g : is_good k ≡ true) where
  pub gives : (p : Place) (l : Token) (b : Bool) → place_token p l b f ≡ k ∷ us → Gives p l b k
  gives p begin_object b e =
      let h = gave (may_begin p) begin_object k f fresh us g e in
      record { good = refl; here = allowed (may_begin p) begin_object k fresh h.0 h.1 refl; first = allowed true begin_object k fresh refl h.1 refl; last = λ z. allowed (may_begin p) begin_object k fresh h.0 h.1 refl }
  gives p end_object b e =
      let h = gave (may_close p) end_object k f after_value us g e in
      record { good = refl; here = allowed (may_close p) end_object k after_value h.0 h.1 refl; first = allowed true end_object k after_value refl h.1 refl; last = λ z. allowed (may_close p) end_object k after_value h.0 h.1 refl }
  gives p begin_array b e =
      let h = gave (may_begin p) begin_array k f fresh us g e in
      record { good = refl; here = allowed (may_begin p) begin_array k fresh h.0 h.1 refl; first = allowed true begin_array k fresh refl h.1 refl; last = λ z. allowed (may_begin p) begin_array k fresh h.0 h.1 refl }
  gives p end_array b e =
      let h = gave (may_close p) end_array k f after_value us g e in
      record { good = refl; here = allowed (may_close p) end_array k after_value h.0 h.1 refl; first = allowed true end_array k after_value refl h.1 refl; last = λ z. allowed (may_close p) end_array k after_value h.0 h.1 refl }
  gives p (key s) b e = no_fault k us e g
  gives p (string s) true e =
      let h = gave (may_begin p) (key s) k f after_key us g e in
      record { good = refl; here = allowed (may_begin p) (key s) k after_key h.0 h.1 refl; first = allowed true (key s) k after_key refl h.1 refl; last = λ z. absurd (false≢true (ap ends h.1 ∙ z)) }
  gives p (string s) false e =
      let h = gave (may_begin p) (string s) k f after_value us g e in
      record { good = refl; here = allowed (may_begin p) (string s) k after_value h.0 h.1 refl; first = allowed true (string s) k after_value refl h.1 refl; last = λ z. allowed (may_begin p) (string s) k after_value h.0 h.1 refl }
  gives p (number s) b e =
      let h = gave (may_begin p) (number s) k f after_value us g e in
      record { good = refl; here = allowed (may_begin p) (number s) k after_value h.0 h.1 refl; first = allowed true (number s) k after_value refl h.1 refl; last = λ z. allowed (may_begin p) (number s) k after_value h.0 h.1 refl }
  gives p (boolean v) b e =
      let h = gave (may_begin p) (boolean v) k f after_value us g e in
      record { good = refl; here = allowed (may_begin p) (boolean v) k after_value h.0 h.1 refl; first = allowed true (boolean v) k after_value refl h.1 refl; last = λ z. allowed (may_begin p) (boolean v) k after_value h.0 h.1 refl }
  gives p null b e =
      let h = gave (may_begin p) null k f after_value us g e in
      record { good = refl; here = allowed (may_begin p) null k after_value h.0 h.1 refl; first = allowed true null k after_value refl h.1 refl; last = λ z. allowed (may_begin p) null k after_value h.0 h.1 refl }
  gives p bad b e = no_fault k us e g

-- ---- the first token of a text

-- the first token of a text, behind its marks
pub record Step (p : Place) (k : Token) (us : List Token) (t : List ℕ) : Type 0 where
  pub marks : List ℕ
  pub is : t ≡ marks ++ from_token t
  pub are : list_all is_mark marks ≡ true
  pub begun : begins_token (from_token t) ≡ true
  pub place : Place
  pub passed : Passes marks p place
  pub lexeme : Token
  pub takes : TakesToken (from_token t) (after_token (from_token t)) lexeme
  pub gives : Gives place lexeme (begins_colon (lex between (after_token (from_token t)))) k
  pub rest : us ≡ punctuate (place_after k) (lex between (after_token (from_token t)))

at_token : (p : Place) (l : Token) (ls : List Lexeme) → punctuate p (token l ∷ ls) ≡ place_token p l (begins_colon ls) (λ n. punctuate n ls)
unfolding punctuate
at_token fresh l ls = refl
at_token after_value l ls = refl
at_token after_comma l ls = refl
at_token after_key l ls = refl

none_left : (p : Place) (k : Token) (us : List Token) → is_good k ≡ true → punctuate p (lex between []) ≡ k ∷ us → ⊥
unfolding punctuate lex
none_left fresh k us g e = cc
none_left after_value k us g e = cc
none_left after_comma k us g e = no_fault k us e g
none_left after_key k us g e = no_fault k us e g

rest_is : {a b : Token} {l m : List Lexeme} → token a ∷ l ≡ token b ∷ m → l ≡ m
rest_is h = cc

rest_of : {a b : Token} {l m : List Token} → a ∷ l ≡ b ∷ m → l ≡ m
rest_of h = cc

module _ (p : Place) (k : Token) (us : List Token) (t : List ℕ) (good : is_good k ≡ true) (reads : punctuate p (lex between t) ≡ k ∷ us) where
  first_byte : (b : Begins t) (q : Place) → Passes b.marks p q → (here : List ℕ) → from_token t ≡ here → punctuate q (lex between here) ≡ k ∷ us → Step p k us t
  first_byte b q passes [] is e = absurd (none_left q k us good e)
  first_byte b q passes (x ∷ xs) is e = by (is_mark x) refl
    where
      by : (m : Bool) → is_mark x ≡ m → Step p k us t
      by true m = absurd (false≢true (sym (ap not m) ∙ sym (ap begins_token is) ∙ b.token))
      by false m =
          let f : First x xs = first_token x xs m in
          let placed : place_token q f.0 (begins_colon f.1) (λ n. punctuate n f.1) ≡ k ∷ us = sym (at_token q f.0 f.1) ∙ ap (punctuate q) (sym f.2) ∙ e in
          let g = gives k (λ n. punctuate n f.1) us good q f.0 (begins_colon f.1) placed in
          let takes = f.3 g.good in
          let after = after_token (x ∷ xs) in
          let same : f.1 ≡ lex between after = rest_is (sym f.2 ∙ ap (lex between) takes.is ∙ takes.again after takes.follows) in
          let left : us ≡ punctuate (place_after k) f.1 = rest_of (sym placed ∙ g.here (λ n. punctuate n f.1)) in
          record {
            marks = b.marks;
            is = b.is;
            are = b.are;
            begun = b.token;
            place = q;
            passed = passes;
            lexeme = f.0;
            takes = subst (λ (h : List ℕ). TakesToken h (after_token h) f.0) (sym is) takes;
            gives = subst (λ (h : List ℕ). Gives q f.0 (begins_colon (lex between (after_token h))) k) (sym is) (subst (λ (l : List Lexeme). Gives q f.0 (begins_colon l) k) same g);
            rest = left ∙ ap (punctuate (place_after k)) (same ∙ ap (λ h. lex between (after_token h)) (sym is));
          }

  pub step : Step p k us t
  step =
      let b = begins t in
      let e : punctuate p (lex between (b.marks ++ from_token t)) ≡ k ∷ us = ap (λ l. punctuate p (lex between l)) (sym b.is) ∙ reads in
      let q = passed k us good (from_token t) b.marks p b.are e in
      first_byte b q.0 q.1 (from_token t) refl (sym (q.1 (from_token t)) ∙ e)

-- ---- some of them

-- the last of these tokens ends a value
abbrev pub closes : List Token → Bool
closes [] = false
closes (k ∷ []) = ends k
closes (k ∷ l ∷ ts) = closes (l ∷ ts)

-- The first tokens of a text take these bytes of it, and what is left stands behind them.
pub record IsCut (n : ℕ) (p : Place) (ts r : List Token) (t : List ℕ) : Type 0 where
  pub old : List ℕ
  pub is : t ≡ old ++ behind n t
  pub reads : punctuate p (lex between old) ≡ ts
  pub place : Place
  pub after : punctuate place (lex between (behind n t)) ≡ r
  pub alike : Alike old t
  pub low : EndsLow old

low_behind : (a b : List ℕ) → EndsLow b → EndsLow (a ++ b)
low_behind a b h = record { front = a ++ h.front; last = h.last; is = ap (λ l. a ++ l) h.is ∙ sym (append_assoc a h.front (h.last ∷ [])); low = h.low }

low_head : (bytes a b : List ℕ) → EndsLow bytes → ends_word (bytes ++ a) ≡ ends_word (bytes ++ b)
low_head [] a b h = absurd (none h.front h.last h.is)
  where
    none : (front : List ℕ) (x : ℕ) → [] ≡ front ++ x ∷ [] → ⊥
    none [] x e = cc
    none (y ∷ front) x e = cc
low_head (x ∷ bytes) a b h = refl

ends_after : (k : Token) → is_good k ≡ true → ends k ≡ true → place_after k ≡ after_value
ends_after begin_object g e = absurd (false≢true e)
ends_after end_object g e = refl
ends_after begin_array g e = absurd (false≢true e)
ends_after end_array g e = refl
ends_after (key s) g e = absurd (false≢true e)
ends_after (string s) g e = refl
ends_after (number s) g e = refl
ends_after (boolean b) g e = refl
ends_after null g e = refl
ends_after bad g e = refl

nothing : lex between [] ≡ []
unfolding lex
nothing = refl

over : punctuate after_value [] ≡ []
unfolding punctuate
over = refl

module _ (p : Place) (k : Token) (us : List Token) (t : List ℕ) (s : Step p k us t) where
  abbrev pub behind_here : List ℕ
  behind_here = after_token (from_token t)

  begin_alike : (a b : List ℕ) → Follows s.lexeme a → Follows s.lexeme b → Alike (s.marks ++ (s.takes.bytes ++ a)) (s.marks ++ (s.takes.bytes ++ b))
  begin_alike a b f g = alike s.marks _ _ s.are (ap begins_colon (s.takes.again a f) ∙ ap begins_colon (sym (s.takes.again b g)), low_head s.takes.bytes a b s.takes.ends)

  text_is : t ≡ s.marks ++ (s.takes.bytes ++ behind_here)
  text_is = s.is ∙ ap (λ l. s.marks ++ l) s.takes.is

  reads_on : (r : List ℕ) → Follows s.lexeme r → punctuate p (lex between (s.marks ++ (s.takes.bytes ++ r))) ≡ place_token s.place s.lexeme (begins_colon (lex between r)) (λ n. punctuate n (lex between r))
  reads_on r f = s.passed (s.takes.bytes ++ r) ∙ ap (punctuate s.place) (s.takes.again r f) ∙ at_token s.place s.lexeme (lex between r)

  -- the token begins the text behind the marks
  pub reads_here : punctuate fresh (lex between (from_token t)) ≡ k ∷ us
  reads_here =
      let after = lex between behind_here in
      ap (λ l. punctuate fresh (lex between l)) s.takes.is ∙ ap (punctuate fresh) (s.takes.again behind_here s.takes.follows) ∙ at_token fresh s.lexeme after ∙ s.gives.first (λ n. punctuate n after)
      ∙ ap (λ l. k ∷ l) (sym s.rest)

  -- the last of them
  pub last_cut : is_good k ≡ true → ends k ≡ true → IsCut 1 p (k ∷ []) us t
  unfolding behind
  last_cut good end =
      let f : Follows s.lexeme [] = λ e. refl in
      let old = s.marks ++ (s.takes.bytes ++ []) in
      record {
        old = old;
        is = text_is ∙ ap (λ l. s.marks ++ l) (ap (λ l. l ++ behind_here) (sym (append-nil s.takes.bytes))) ∙ sym (append_assoc s.marks (s.takes.bytes ++ []) behind_here);
        reads =
            reads_on [] f ∙ ap (λ ls. place_token s.place s.lexeme (begins_colon ls) (λ n. punctuate n ls)) nothing ∙ s.gives.last end (λ n. punctuate n [])
            ∙ ap (λ q. k ∷ punctuate q []) (ends_after k good end) ∙ ap (λ l. k ∷ l) over;
        place = place_after k;
        after = sym s.rest;
        alike = subst (λ (l : List ℕ). Alike old l) (sym text_is) (begin_alike [] behind_here f s.takes.follows);
        low = low_behind s.marks (s.takes.bytes ++ []) (subst (λ (l : List ℕ). EndsLow l) (sym (append-nil s.takes.bytes)) s.takes.ends);
      }

  -- more of them follow
  pub next_cut : (n : ℕ) (ts r : List Token) → IsCut n (place_after k) ts r behind_here → IsCut (suc n) p (k ∷ ts) r t
  unfolding behind
  next_cut n ts r c =
      let f : Follows s.lexeme c.old = λ e. c.alike.1 ∙ s.takes.follows e in
      let old = s.marks ++ (s.takes.bytes ++ c.old) in
      record {
        old = old;
        is = text_is ∙ ap (λ l. s.marks ++ (s.takes.bytes ++ l)) c.is ∙ ap (λ l. s.marks ++ l) (sym (append_assoc s.takes.bytes c.old _)) ∙ sym (append_assoc s.marks (s.takes.bytes ++ c.old) _);
        reads =
            reads_on c.old f ∙ ap (λ b. place_token s.place s.lexeme b (λ n. punctuate n (lex between c.old))) c.alike.0 ∙ s.gives.here (λ n. punctuate n (lex between c.old))
            ∙ ap (λ l. k ∷ l) c.reads;
        place = c.place;
        after = c.after;
        alike = subst (λ (l : List ℕ). Alike old l) (sym text_is) (begin_alike c.old behind_here f s.takes.follows);
        low = low_behind s.marks _ (low_behind s.takes.bytes c.old c.low);
      }

pub cut : (ts r : List Token) (p : Place) (t : List ℕ) → list_all is_good ts ≡ true → closes ts ≡ true → punctuate p (lex between t) ≡ ts ++ r → IsCut (length ts) p ts r t
cut [] r p t good end e = absurd (false≢true end)
cut (k ∷ []) r p t good end e = let g = (and_parts (is_good k) _ good).0 in last_cut p k r t (step p k r t g e) g end
cut (k ∷ l ∷ ts) r p t good end e =
    let g = and_parts (is_good k) _ good in
    let s = step p k ((l ∷ ts) ++ r) t g.0 e in
    next_cut p k ((l ∷ ts) ++ r) t s (length (l ∷ ts)) (l ∷ ts) r (cut (l ∷ ts) r (place_after k) (after_token (from_token t)) g.1 end (sym s.rest))
