-- The bytes of a number or a literal, and that it reads alike before whatever ends a word.
use Rattle.std.proofs.Common.{◌≡◌, ℕ, suc, ◌+◌, ◌-◌, ◌<◌, ◌⊎◌, inl, inr, Bool, true, false, cond, not, ◌&&◌, ◌||◌, ◌==◌, nat_lt, List, [], ◌∷◌, ◌++◌, length, take, drop, Option, Some, None, option_and_then, refl, sym, ap, ap₂, ◌∙◌, arith, append_assoc, length-append, take_at, take-append-drop}
use Rattle.std.proofs.lemmas.Bool.{and_parts, and_from, eqb-true, false≢true, leb-true, lt-ltb, ne_eqb, or_cases}
use Rattle.std.proofs.lemmas.List.Folds.{list_all-append}
use Rattle.std.proofs.lemmas.Slice.Eq.{bytes_eq-Decides}
use Rattle.std.specs.Char.{is_ascii_digit}
use Rattle.std.specs.List.{list_all, prefix_len, starts_with}
use Rattle.json.specs.Align.{is_good}
use Rattle.json.specs.Ascii as ascii
use Rattle.json.specs.Lex.{between, lex, token}
use Rattle.json.specs.Print.{IsNumber}
use Rattle.json.specs.Token.{Token}
use Rattle.json.specs.Word.{after_digits, after_exponent, after_fraction, after_minus, after_number, after_sign, after_whole, ends_word, head, literal, number_before, word}
use Rattle.json.proofs.Printed.Numbers.{in_word-ended, lex-number, number_alone}
use Rattle.text_spans.specs.Place.{after_word, ends_number}

-- an ASCII byte that ends neither
abbrev pub goes : ℕ → Bool
goes x = not (ends_number x) && nat_lt x 128

-- a part of the grammar takes such bytes of a text
abbrev pub Takes : List ℕ → Option (List ℕ) → Type 0
Takes t None = Unit {0}
Takes t (Some r) = (w : List ℕ) × (t ≡ w ++ r) × (list_all goes w ≡ true)

nothing_taken : (t : List ℕ) → Takes t (Some t)
nothing_taken t = ([], refl, refl)

both : (t r : List ℕ) (o : Option (List ℕ)) → Takes t (Some r) → Takes r o → Takes t o
both t r None a b = tt
both t r (Some q) a b = (a.0 ++ b.0, a.1 ∙ ap (λ l. a.0 ++ l) b.1 ∙ sym (append_assoc a.0 b.0 q), list_all-append goes a.0 b.0 ∙ ap₂ (λ x y. x && y) a.2 b.2)

next : (t : List ℕ) (f : List ℕ → Option (List ℕ)) (o : Option (List ℕ)) → Takes t o → ((r : List ℕ) → Takes r (f r)) → Takes t (option_and_then f o)
next t f None a b = tt
next t f (Some r) a b = both t r (f r) a (b r)

either : (b : Bool) (t : List ℕ) (o p : Option (List ℕ)) → (b ≡ true → Takes t o) → (b ≡ false → Takes t p) → Takes t (cond b o p)
either true t o p f g = f refl
either false t o p f g = g refl

maybe : (b : Bool) (t : List ℕ) → (b ≡ true → Takes t (Some (drop 1 t))) → Takes t (Some (cond b (drop 1 t) t))
maybe true t f = f refl
maybe false t f = ([], refl, refl)

-- ---- the parts of a number

one : (c : ℕ) (t : List ℕ) → goes c ≡ true → (head t == c) ≡ true → Takes t (Some (drop 1 t))
one c [] g e = ([], refl, refl)
one c (x ∷ xs) g e = (x ∷ [], refl, ap (λ b. b && true) (ap goes (eqb-true x c e) ∙ g))

one_of : (a b : ℕ) (t : List ℕ) → goes a ≡ true → goes b ≡ true → ((head t == a) ≡ true) ⊎ ((head t == b) ≡ true) → Takes t (Some (drop 1 t))
one_of a b t g h (inl e) = one a t g e
one_of a b t g h (inr e) = one b t h e

digit_goes : (x : ℕ) → is_ascii_digit x ≡ true → goes x ≡ true
digit_goes x h =
    let low : 48 < suc x = omega (arith, leb-true 48 x (and_parts _ _ h).0) in
    let high : x < 58 = omega (arith, leb-true x 57 (and_parts _ _ h).1) in
    rw (
      ne_eqb x 123 (λ e. omega (arith, high, e)),
      ne_eqb x 125 (λ e. omega (arith, high, e)),
      ne_eqb x 91 (λ e. omega (arith, high, e)),
      ne_eqb x 93 (λ e. omega (arith, high, e)),
      ne_eqb x 58 (λ e. omega (arith, high, e)),
      ne_eqb x 44 (λ e. omega (arith, low, e)),
      ne_eqb x 32 (λ e. omega (arith, low, e)),
      ne_eqb x 9 (λ e. omega (arith, low, e)),
      ne_eqb x 10 (λ e. omega (arith, low, e)),
      ne_eqb x 13 (λ e. omega (arith, low, e)),
      lt-ltb x 128 (omega (arith, high)),
    )

pub one_more : (n x : ℕ) (xs : List ℕ) → drop (1 + n) (x ∷ xs) ≡ drop n xs
one_more n x xs = let e : 1 + n ≡ suc n = omega arith in ap (λ k. drop k (x ∷ xs)) e

run_byte : (b : Bool) (n x : ℕ) (xs : List ℕ) → (b ≡ true → goes x ≡ true) → Takes xs (Some (drop n xs)) → Takes (x ∷ xs) (Some (drop (cond b (1 + n) 0) (x ∷ xs)))
run_byte false n x xs g more = ([], refl, refl)
run_byte true n x xs g more = (x ∷ more.0, ap (λ l. x ∷ l) (more.1 ∙ ap (λ l. more.0 ++ l) (sym (one_more n x xs))), and_from (goes x) _ (g refl) more.2)

run : (t : List ℕ) → Takes t (Some (drop (prefix_len is_ascii_digit t) t))
run [] = ([], refl, refl)
run (x ∷ xs) = run_byte (is_ascii_digit x) (prefix_len is_ascii_digit xs) x xs (digit_goes x) (run xs)

digits : (t : List ℕ) → Takes t (after_digits t)
digits t = either (prefix_len is_ascii_digit t == 0) t None (Some (drop (prefix_len is_ascii_digit t) t)) (λ e. tt) (λ e. run t)

minus : (t : List ℕ) → Takes t (Some (after_minus t))
minus t = maybe (head t == 45) t (one 45 t refl)

sign : (t : List ℕ) → Takes t (Some (after_sign t))
sign t = maybe ((head t == 45) || (head t == 43)) t (λ e. one_of 45 43 t refl refl (or_cases (head t == 45) (head t == 43) e))

whole : (t : List ℕ) → Takes t (after_whole t)
whole t = either (head t == 48) t (Some (drop 1 t)) (after_digits t) (one 48 t refl) (λ e. digits t)

fraction : (t : List ℕ) → Takes t (after_fraction t)
fraction t = either (head t == 46) t (after_digits (drop 1 t)) (Some t) (λ e. both t (drop 1 t) _ (one 46 t refl e) (digits (drop 1 t))) (λ e. nothing_taken t)

exponent : (t : List ℕ) → Takes t (after_exponent t)
exponent t =
    either ((head t == 101) || (head t == 69)) t (after_digits (after_sign (drop 1 t))) (Some t)
    (λ e. both t (drop 1 t) _ (one_of 101 69 t refl refl (or_cases (head t == 101) (head t == 69) e)) (both (drop 1 t) (after_sign (drop 1 t)) _ (sign (drop 1 t)) (digits (after_sign (drop 1 t)))))
    (λ e. nothing_taken t)

number : (t : List ℕ) → Takes t (after_number t)
unfolding after_number
number t =
    next t after_exponent (option_and_then after_fraction (after_whole (after_minus t)))
    (next t after_fraction (after_whole (after_minus t)) (both t (after_minus t) _ (minus t) (whole (after_minus t))) fraction) exponent

-- ---- a word

-- a number or a literal
abbrev pub is_word : Token → Bool
is_word Token.begin_object = false
is_word Token.end_object = false
is_word Token.begin_array = false
is_word Token.end_array = false
is_word (Token.key s) = false
is_word (Token.string s) = false
is_word (Token.number s) = true
is_word (Token.boolean b) = true
is_word Token.null = true
is_word Token.bad = true

-- The first token of a text is a number or a literal that takes these bytes, and does so before whatever ends a word.
pub record IsWord (t : List ℕ) (k : Token) : Type 0 where
  pub bytes : List ℕ
  pub rest : List ℕ
  pub is : t ≡ bytes ++ rest
  pub go : list_all goes bytes ≡ true
  pub ended : ends_word rest ≡ true
  pub word : is_word k ≡ true
  pub again : (r : List ℕ) → ends_word r ≡ true → lex between (bytes ++ r) ≡ token k ∷ lex between r

-- a literal
literal_there : (t name : List ℕ) (k : Token) → is_word k ≡ true → list_all goes name ≡ true → ((r : List ℕ) → ends_word r ≡ true → lex between (name ++ r) ≡ token k ∷ lex between r)
    → is_good (literal name k t) ≡ true → IsWord t (literal name k t)
literal_there t name k is_one go again h = by (starts_with (λ a b. a == b) t name && ends_word (drop (length name) t)) refl h
  where
    by : (b : Bool) → (starts_with (λ a b. a == b) t name && ends_word (drop (length name) t)) ≡ b → is_good (cond b k Token.bad) ≡ true → IsWord t (cond b k Token.bad)
    by false e g = absurd (false≢true g)
    by true e g =
        let parts = and_parts _ _ e in
        let front : name ≡ take (length name) t = (bytes_eq-Decides name (take (length name) t)).0 parts.0 in
        record {
          bytes = name;
          rest = drop (length name) t;
          is = sym (take-append-drop (length name) t) ∙ ap (λ l. l ++ drop (length name) t) (sym front);
          go = go;
          ended = parts.1;
          word = is_one;
          again = again;
        }

number_there : (t : List ℕ) (o : Option (List ℕ)) → after_number t ≡ o → Takes t o → is_good (number_before t o) ≡ true → IsWord t (number_before t o)
number_there t None e taken h = absurd (false≢true h)
number_there t (Some rest) e taken h = by (ends_word rest) refl h
  where
    by : (b : Bool) → ends_word rest ≡ b → is_good (cond b (Token.number (take (length t - length rest) t)) Token.bad) ≡ true → IsWord t (cond b (Token.number (take (length t - length rest) t)) Token.bad)
    by false ended g = absurd (false≢true g)
    by true ended g =
        let w = taken.0 in
        let size : length t - length rest ≡ length w = omega (arith, ap length taken.1, length-append w rest) in
        let text : take (length t - length rest) t ≡ w = ap₂ (λ n l. take n l) size taken.1 ∙ take_at w rest (length w) refl in
        let alone : IsNumber w = number_alone w rest ended (ap after_number (sym taken.1) ∙ e) in
        record {
          bytes = w;
          rest = rest;
          is = taken.1;
          go = taken.2;
          ended = ended;
          word = refl;
          again = λ r ends. lex-number w r alone ends ∙ ap (λ s. token (Token.number s) ∷ lex between r) (sym text);
        }

true_reads : (r : List ℕ) → ends_word r ≡ true → lex between (ascii.true_text ++ r) ≡ token (Token.boolean true) ∷ lex between r
unfolding lex word
true_reads r ended = ap₂ (λ b l. token (cond b (Token.boolean true) Token.bad) ∷ l) ended (in_word-ended r ended)

false_reads : (r : List ℕ) → ends_word r ≡ true → lex between (ascii.false_text ++ r) ≡ token (Token.boolean false) ∷ lex between r
unfolding lex word
false_reads r ended = ap₂ (λ b l. token (cond b (Token.boolean false) Token.bad) ∷ l) ended (in_word-ended r ended)

null_reads : (r : List ℕ) → ends_word r ≡ true → lex between (ascii.null_text ++ r) ≡ token Token.null ∷ lex between r
unfolding lex word
null_reads r ended = ap₂ (λ b l. token (cond b Token.null Token.bad) ∷ l) ended (in_word-ended r ended)

pub word_there : (t : List ℕ) → is_good (word t) ≡ true → IsWord t (word t)
unfolding word
word_there t h = first (head t == 116) (head t == 102) (head t == 110) h
  where
    n : Token
    n = number_before t (after_number t)

    first : (a b c : Bool)
        → is_good (cond a (literal ascii.true_text (Token.boolean true) t) (cond b (literal ascii.false_text (Token.boolean false) t) (cond c (literal ascii.null_text Token.null t) n))) ≡ true
        → IsWord t (cond a (literal ascii.true_text (Token.boolean true) t) (cond b (literal ascii.false_text (Token.boolean false) t) (cond c (literal ascii.null_text Token.null t) n)))
    first true b c g = literal_there t ascii.true_text (Token.boolean true) refl refl true_reads g
    first false true c g = literal_there t ascii.false_text (Token.boolean false) refl refl false_reads g
    first false false true g = literal_there t ascii.null_text Token.null refl refl null_reads g
    first false false false g = number_there t (after_number t) refl (number t) g

-- ---- the text behind it

passing : (x : ℕ) (xs : List ℕ) → ends_number x ≡ false → after_word (x ∷ xs) ≡ after_word xs
passing x xs e = ap (λ b. drop (cond (not b) (1 + prefix_len (λ y. not (ends_number y)) xs) 0) (x ∷ xs)) e ∙ one_more (prefix_len (λ y. not (ends_number y)) xs) x xs

goes_on : (x : ℕ) → goes x ≡ true → ends_number x ≡ false
goes_on x g = by (ends_number x) (and_parts (not (ends_number x)) (nat_lt x 128) g).0
  where
    by : (b : Bool) → not b ≡ true → b ≡ false
    by true e = absurd (false≢true e)
    by false e = refl

ended_there : (rest : List ℕ) → ends_word rest ≡ true → after_word rest ≡ rest
ended_there [] e = refl
ended_there (x ∷ xs) e = ap (λ b. drop (cond (not b) (1 + prefix_len (λ y. not (ends_number y)) xs) 0) (x ∷ xs)) e

pub after_word_is : (w rest : List ℕ) → list_all goes w ≡ true → ends_word rest ≡ true → after_word (w ++ rest) ≡ rest
after_word_is [] rest go ended = ended_there rest ended
after_word_is (x ∷ w) rest go ended =
    let parts = and_parts (goes x) (list_all goes w) go in
    passing x (w ++ rest) (goes_on x parts.0) ∙ after_word_is w rest parts.1 ended

pub after_first : (x : ℕ) (xs : List ℕ) → ends_number x ≡ false → after_word xs ≡ after_word (x ∷ xs)
after_first x xs e = sym (passing x xs e)
