-- What is known of an escaped text.
use Rattle.std.proofs.Common.{◌≡◌, ℕ, ◌+◌, ◌/◌, ◌%◌, ◌≤◌, ◌==◌, Bool, true, false, cond, nat_lt, subst, lit≤, List, [], ◌∷◌, ◌++◌, map, flat_map, chars, encode_utf8_all, refl, sym, ap, ◌∙◌, arith}
use Rattle.std.specs.List.{AllByRecursion}
use Rattle.std.proofs.lemmas.Bool.{eqb-true, ne_eqb}
use Rattle.std.proofs.Math.Utf8.{encode}
use Rattle.picture.specs.Escape.{allowed, escaped, escaped_char, is_escaped, is_forbidden, read_behind}

-- a byte that stands for itself
record IsPlain (b : ℕ) : Type 0 where
  pub ampersand : (b == 38) ≡ false
  pub less : (b == 60) ≡ false
  pub greater : (b == 62) ≡ false
  pub double : (b == 34) ≡ false
  pub single : (b == 39) ≡ false

high_plain : (b : ℕ) → 64 ≤ b → IsPlain b
high_plain b high = record {
  ampersand = ne_eqb b 38 (λ e. omega (arith, high, e));
  less = ne_eqb b 60 (λ e. omega (arith, high, e));
  greater = ne_eqb b 62 (λ e. omega (arith, high, e));
  double = ne_eqb b 34 (λ e. omega (arith, high, e));
  single = ne_eqb b 39 (λ e. omega (arith, high, e));
}

more_bytes : (x y : Bool) (c : ℕ) → AllByRecursion IsPlain (cond x ((192 + c / 64) ∷ (128 + c % 64) ∷ []) (cond y ((224 + c / 4096) ∷ (128 + c / 64 % 64) ∷ (128 + c % 64) ∷ []) ((240 + c / 262144) ∷ (128 + c / 4096 % 64) ∷ (128 + c / 64 % 64) ∷ (128 + c % 64) ∷ [])))
more_bytes true y c = (high_plain _ (omega arith), (high_plain _ (omega arith), tt))
more_bytes false true c = (high_plain _ (omega arith), (high_plain _ (omega arith), (high_plain _ (omega arith), tt)))
more_bytes false false c = (high_plain _ (omega arith), (high_plain _ (omega arith), (high_plain _ (omega arith), (high_plain _ (omega arith), tt))))

first_byte : (x : Bool) (c : ℕ) (others : List ℕ) → (x ≡ true → IsPlain c) → AllByRecursion IsPlain others → AllByRecursion IsPlain (cond x (c ∷ []) others)
first_byte true c others plain more = (plain refl, tt)
first_byte false c others plain more = more

bytes_plain : (c : ℕ) → (nat_lt c 128 ≡ true → IsPlain c) → AllByRecursion IsPlain (encode c)
unfolding encode
bytes_plain c plain = first_byte (nat_lt c 128) c _ plain (more_bytes (nat_lt c 2048) (nat_lt c 65536) c)

-- ---- plain bytes in front

plain_escaped : (bs rest : List ℕ) → AllByRecursion IsPlain bs → is_escaped (bs ++ rest) ≡ is_escaped rest
plain_escaped [] rest all = refl
plain_escaped (b ∷ bs) rest all =
    let p = all.0 in
    rw (p.ampersand, p.less, p.greater, p.double, p.single) (plain_escaped bs rest all.1)

plain_read : (bs rest : List ℕ) → AllByRecursion IsPlain bs → read_behind 0 (bs ++ rest) ≡ bs ++ read_behind 0 rest
plain_read [] rest all = refl
plain_read (b ∷ bs) rest all = rw (all.0.ampersand) (ap (λ xs. b ∷ xs) (plain_read bs rest all.1))

-- ---- one character

-- what is written for one character, as what it reads as
record IsWritten (written read : List ℕ) : Type 0 where
  pub is_data : (rest : List ℕ) → is_escaped (written ++ rest) ≡ is_escaped rest
  pub back : (rest : List ℕ) → read_behind 0 (written ++ rest) ≡ read ++ read_behind 0 rest

plain_written : (bs : List ℕ) → AllByRecursion IsPlain bs → IsWritten bs bs
plain_written bs all = record { is_data = λ rest. plain_escaped bs rest all; back = λ rest. plain_read bs rest all }

entity_written : (c k : ℕ) (written : List ℕ) → (c == k) ≡ true → encode (allowed k) ≡ k ∷ [] → IsWritten written (k ∷ []) → IsWritten written (encode (allowed c))
entity_written c k written same is w =
    subst (IsWritten written) (sym (ap (λ n. encode (allowed n)) (eqb-true c k same) ∙ is)) w

choose : (x : Bool) (a b read : List ℕ) → (x ≡ true → IsWritten a read) → (x ≡ false → IsWritten b read) → IsWritten (cond x a b) read
choose true a b read = λ yes no. yes refl
choose false a b read = λ yes no. no refl

allowed_plain : (c : ℕ) (x : Bool) → (nat_lt c 128 ≡ true → IsPlain c) → nat_lt (cond x 65533 c) 128 ≡ true → IsPlain (cond x 65533 c)
allowed_plain c true plain low = high_plain 65533 (lit≤ tt)
allowed_plain c false plain low = plain low

char_written : (c : ℕ) → IsWritten (escaped_char c) (encode (allowed c))
unfolding encode
char_written c =
    let read = encode (allowed c) in
    choose (c == 38) _ _ read (λ e. entity_written c 38 _ e refl (record { is_data = λ rest. refl; back = λ rest. refl })) (λ a.
    choose (c == 60) _ _ read (λ e. entity_written c 60 _ e refl (record { is_data = λ rest. refl; back = λ rest. refl })) (λ b.
    choose (c == 62) _ _ read (λ e. entity_written c 62 _ e refl (record { is_data = λ rest. refl; back = λ rest. refl })) (λ d.
    choose (c == 34) _ _ read (λ e. entity_written c 34 _ e refl (record { is_data = λ rest. refl; back = λ rest. refl })) (λ f.
    choose (c == 39) _ _ read (λ e. entity_written c 39 _ e refl (record { is_data = λ rest. refl; back = λ rest. refl })) (λ g.
    plain_written read (bytes_plain (allowed c) (allowed_plain c (is_forbidden c) (λ low. record { ampersand = a; less = b; greater = d; double = f; single = g }))))))))

-- ---- all characters

pub all_data : (cs : List ℕ) → is_escaped (flat_map escaped_char cs) ≡ true
all_data [] = refl
all_data (c ∷ cs) = (char_written c).is_data (flat_map escaped_char cs) ∙ all_data cs

pub all_back : (cs : List ℕ) → read_behind 0 (flat_map escaped_char cs) ≡ encode_utf8_all (map allowed cs)
all_back [] = refl
all_back (c ∷ cs) = (char_written c).back (flat_map escaped_char cs) ∙ ap (λ bs. encode (allowed c) ++ bs) (all_back cs)

pub text_data : (text : List ℕ) → is_escaped (escaped text) ≡ true
unfolding escaped
text_data text = all_data (chars text)

pub text_back : (text : List ℕ) → read_behind 0 (escaped text) ≡ encode_utf8_all (map allowed (chars text))
unfolding escaped
text_back text = all_back (chars text)
