-- What a value takes of the tokens: as many brackets close as open.
use Rattle.std.proofs.Common.{◌≡◌, ◌≢◌, ℕ, zero, suc, ◌+◌, ◌-◌, ◌<◌, true, false, List, [], ◌∷◌, length, Option, Some, None, option_and_then, refl, sym, ap, ◌∙◌, ◌⊎◌, inl, inr, arith}
use Rattle.json.specs.Token.{Token}
use Rattle.json.specs.Lex.{after_value}
use Rattle.json.specs.Json.{Json, Items, Members, array, object, item, member, Parse, parse_map, after_end_array, read_key, items_step, members_step, items, members, value_with, value, skip_value}
use Rattle.json.proofs.Grammar.{closed_array, left, left-parse_map, read_key_is}
use Rattle.text_spans.specs.Place.{closed, is_closing, is_opening, place_after}

-- a parse gives the tokens back with as many brackets open
abbrev Level : {A : Type 0} → Parse A → Type 0
Level p = (n : ℕ) (ts r : List Token) → left (p ts) ≡ Some r → closed (suc n) ts ≡ closed (suc n) r

-- a parse takes the bracket that closes, too
abbrev Closes : {A : Type 0} → Parse A → Type 0
Closes p = (n : ℕ) (ts r : List Token) → left (p ts) ≡ Some r → closed (suc n) ts ≡ closed n r

module _ (p : Parse Json) (level : Level p) where
  items_close : (fuel : ℕ) → Closes (items p fuel)
  unfolding items closed
  items_close zero n ts r e = cc
  items_close (suc fuel) n ts r e = by_end (λ us. items_close fuel n us r) (after_end_array ts) refl e
    where
      Next : Type 0
      Next = (us : List Token) → left (items p fuel us) ≡ Some r → closed (suc n) us ≡ closed n r

      more : Next → (o : Option (Json × List Token)) → p ts ≡ o → left (option_and_then (λ q. parse_map (item q.0) (items p fuel q.1)) o) ≡ Some r → closed (suc n) ts ≡ closed n r
      more next None is e = cc
      more next (Some q) is e = level n ts q.1 (ap left is) ∙ next q.1 (sym (left-parse_map (item q.0) (items p fuel q.1)) ∙ e)

      by_end : Next → (o : Option (List Token)) → after_end_array ts ≡ o → left (items_step p (items p fuel) ts o) ≡ Some r → closed (suc n) ts ≡ closed n r
      by_end next (Some rest) is e = let same : rest ≡ r = cc in ap (closed (suc n)) (closed_array ts rest is) ∙ ap (closed n) same
      by_end next None is e = more next (p ts) refl e

  members_close : (fuel : ℕ) → Closes (members p fuel)
  unfolding members closed
  members_close zero n ts r e = cc
  members_close (suc fuel) n ts r e = by_key (λ us. members_close fuel n us r) (read_key ts) refl e
    where
      Next : Type 0
      Next = (us : List Token) → left (members p fuel us) ≡ Some r → closed (suc n) us ≡ closed n r

      more : Next → (k : List ℕ) (rest : List Token) → read_key ts ≡ Some (Some k, rest) → (o : Option (Json × List Token)) → p rest ≡ o
          → left (option_and_then (λ q. parse_map (member k q.0) (members p fuel q.1)) o) ≡ Some r → closed (suc n) ts ≡ closed n r
      more next k rest key None is e = cc
      more next k rest key (Some q) is e =
          ap (closed (suc n)) (read_key_is ts (Some k) rest key) ∙ level n rest q.1 (ap left is) ∙ next q.1 (sym (left-parse_map (member k q.0) (members p fuel q.1)) ∙ e)

      by_key : Next → (o : Option (Option (List ℕ) × List Token)) → read_key ts ≡ o → left (option_and_then (λ q. members_step p (members p fuel) q.0 q.1) o) ≡ Some r → closed (suc n) ts ≡ closed n r
      by_key next None is e = cc
      by_key next (Some (None, rest)) is e = let same : rest ≡ r = cc in ap (closed (suc n)) (read_key_is ts None rest is) ∙ ap (closed n) same
      by_key next (Some (Some k, rest)) is e = more next k rest is (p rest) refl e

module _ (a : Parse Items) (o : Parse Members) (in_list : Closes a) (in_object : Closes o) where
  with_level : Level (value_with a o)
  unfolding closed
  with_level n [] r e = cc
  with_level n (Token.begin_object ∷ ts) r e = in_object (suc n) ts r (sym (left-parse_map object (o ts)) ∙ e)
  with_level n (Token.end_object ∷ ts) r e = cc
  with_level n (Token.begin_array ∷ ts) r e = in_list (suc n) ts r (sym (left-parse_map array (a ts)) ∙ e)
  with_level n (Token.end_array ∷ ts) r e = cc
  with_level n (Token.key s ∷ ts) r e = cc
  with_level n (Token.string s ∷ ts) r e = let same : ts ≡ r = cc in ap (closed (suc n)) same
  with_level n (Token.number s ∷ ts) r e = let same : ts ≡ r = cc in ap (closed (suc n)) same
  with_level n (Token.boolean b ∷ ts) r e = let same : ts ≡ r = cc in ap (closed (suc n)) same
  with_level n (Token.null ∷ ts) r e = let same : ts ≡ r = cc in ap (closed (suc n)) same
  with_level n (Token.bad ∷ ts) r e = cc

  -- what opens is closed
  with_opened : (t : Token) (ts r : List Token) → (t ≡ Token.begin_object) ⊎ (t ≡ Token.begin_array) → left (value_with a o (t ∷ ts)) ≡ Some r → closed 1 ts ≡ Some r
  unfolding closed
  with_opened t ts r (inl is) e = in_object 0 ts r (sym (left-parse_map object (o ts)) ∙ ap (λ u. left (value_with a o (u ∷ ts))) (sym is) ∙ e)
  with_opened t ts r (inr is) e = in_list 0 ts r (sym (left-parse_map array (a ts)) ∙ ap (λ u. left (value_with a o (u ∷ ts))) (sym is) ∙ e)

nothing_closes : (A : Type 0) → Closes {A = A} (λ ts. None)
nothing_closes A n ts r e = cc

pub value_level : (d : ℕ) → Level (value d)
unfolding value
value_level zero n ts r e = with_level (λ ts. None) (λ ts. None) (nothing_closes Items) (nothing_closes Members) n ts r e
value_level (suc d) n ts r e =
    with_level (λ ts. items (value d) (length ts) ts) (λ ts. members (value d) (length ts) ts) (λ n ts r. items_close (value d) (value_level d) (length ts) n ts r)
    (λ n ts r. members_close (value d) (value_level d) (length ts) n ts r) n ts r e

pub opened : (d : ℕ) (t : Token) (ts r : List Token) → (t ≡ Token.begin_object) ⊎ (t ≡ Token.begin_array) → skip_value d (t ∷ ts) ≡ Some r → closed 1 ts ≡ Some r
unfolding value
opened zero t ts r is e = with_opened (λ ts. None) (λ ts. None) (nothing_closes Items) (nothing_closes Members) t ts r is e
opened (suc d) t ts r is e =
    with_opened (λ ts. items (value d) (length ts) ts) (λ ts. members (value d) (length ts) ts) (λ n ts r. items_close (value d) (value_level d) (length ts) n ts r)
    (λ n ts r. members_close (value d) (value_level d) (length ts) n ts r) t ts r is e

-- ---- a token at a time

pub opens_more : (n : ℕ) (t : Token) (ts : List Token) → 0 < n → is_opening t ≡ true → closed n (t ∷ ts) ≡ closed (n + 1) ts
unfolding closed
opens_more zero t ts h e = absurd (omega (arith, h))
opens_more (suc n) Token.begin_object ts h e = let k : suc (suc n) ≡ suc n + 1 = omega arith in ap (λ m. closed m ts) k
opens_more (suc n) Token.begin_array ts h e = let k : suc (suc n) ≡ suc n + 1 = omega arith in ap (λ m. closed m ts) k
opens_more (suc n) Token.end_object ts h e = cc
opens_more (suc n) Token.end_array ts h e = cc
opens_more (suc n) (Token.key s) ts h e = cc
opens_more (suc n) (Token.string s) ts h e = cc
opens_more (suc n) (Token.number s) ts h e = cc
opens_more (suc n) (Token.boolean b) ts h e = cc
opens_more (suc n) Token.null ts h e = cc
opens_more (suc n) Token.bad ts h e = cc

pub closes_one : (n : ℕ) (t : Token) (ts : List Token) → 0 < n → is_closing t ≡ true → closed n (t ∷ ts) ≡ closed (n - 1) ts
unfolding closed
closes_one zero t ts h e = absurd (omega (arith, h))
closes_one (suc n) Token.end_object ts h e = let k : n ≡ suc n - 1 = omega arith in ap (λ m. closed m ts) k
closes_one (suc n) Token.end_array ts h e = let k : n ≡ suc n - 1 = omega arith in ap (λ m. closed m ts) k
closes_one (suc n) Token.begin_object ts h e = cc
closes_one (suc n) Token.begin_array ts h e = cc
closes_one (suc n) (Token.key s) ts h e = cc
closes_one (suc n) (Token.string s) ts h e = cc
closes_one (suc n) (Token.number s) ts h e = cc
closes_one (suc n) (Token.boolean b) ts h e = cc
closes_one (suc n) Token.null ts h e = cc
closes_one (suc n) Token.bad ts h e = cc

pub stays : (n : ℕ) (t : Token) (ts : List Token) → 0 < n → is_opening t ≡ false → is_closing t ≡ false → closed n (t ∷ ts) ≡ closed n ts
unfolding closed
stays zero t ts h o c = absurd (omega (arith, h))
stays (suc n) Token.begin_object ts h o c = cc
stays (suc n) Token.begin_array ts h o c = cc
stays (suc n) Token.end_object ts h o c = cc
stays (suc n) Token.end_array ts h o c = cc
stays (suc n) (Token.key s) ts h o c = refl
stays (suc n) (Token.string s) ts h o c = refl
stays (suc n) (Token.number s) ts h o c = refl
stays (suc n) (Token.boolean b) ts h o c = refl
stays (suc n) Token.null ts h o c = refl
stays (suc n) Token.bad ts h o c = refl

pub none_open : (n : ℕ) (r : List Token) → 0 < n → closed n [] ≡ Some r → ⊥
unfolding closed
none_open zero r h e = absurd (omega (arith, h))
none_open (suc n) r h e = cc

pub all_closed : (ts r : List Token) → closed 0 ts ≡ Some r → ts ≡ r
unfolding closed
all_closed ts r e = cc

pub closes_after : (t : Token) → is_closing t ≡ true → (place_after t ≡ after_value) × (t ≢ Token.bad)
closes_after Token.end_object e = (refl, λ b. cc)
closes_after Token.end_array e = (refl, λ b. cc)
closes_after Token.begin_object e = cc
closes_after Token.begin_array e = cc
closes_after (Token.key s) e = cc
closes_after (Token.string s) e = cc
closes_after (Token.number s) e = cc
closes_after (Token.boolean b) e = cc
closes_after Token.null e = cc
closes_after Token.bad e = cc

-- a value of one token
module _ (a : Parse Items) (o : Parse Members) where
  alone : (t : Token) (ts r : List Token) → is_opening t ≡ false → left (value_with a o (t ∷ ts)) ≡ Some r → (ts ≡ r) × (place_after t ≡ after_value) × (t ≢ Token.bad)
  alone Token.begin_object ts r h e = cc
  alone Token.begin_array ts r h e = cc
  alone Token.end_object ts r h e = cc
  alone Token.end_array ts r h e = cc
  alone (Token.key s) ts r h e = cc
  alone (Token.string s) ts r h e = (cc, refl, λ b. cc)
  alone (Token.number s) ts r h e = (cc, refl, λ b. cc)
  alone (Token.boolean v) ts r h e = (cc, refl, λ b. cc)
  alone Token.null ts r h e = (cc, refl, λ b. cc)
  alone Token.bad ts r h e = cc

  no_value : (r : List Token) → left (value_with a o []) ≡ Some r → ⊥
  no_value r e = cc

  either_opens : (t : Token) → is_opening t ≡ true → (t ≡ Token.begin_object) ⊎ (t ≡ Token.begin_array)
  either_opens Token.begin_object e = inl refl
  either_opens Token.begin_array e = inr refl
  either_opens Token.end_object e = cc
  either_opens Token.end_array e = cc
  either_opens (Token.key s) e = cc
  either_opens (Token.string s) e = cc
  either_opens (Token.number s) e = cc
  either_opens (Token.boolean b) e = cc
  either_opens Token.null e = cc
  either_opens Token.bad e = cc

pub one_token : (d : ℕ) (t : Token) (ts r : List Token) → is_opening t ≡ false → skip_value d (t ∷ ts) ≡ Some r → (ts ≡ r) × (place_after t ≡ after_value) × (t ≢ Token.bad)
unfolding value
one_token zero t ts r h e = alone (λ us. None) (λ us. None) t ts r h e
one_token (suc d) t ts r h e = alone (λ us. items (value d) (length us) us) (λ us. members (value d) (length us) us) t ts r h e

pub no_tokens : (d : ℕ) (r : List Token) → skip_value d [] ≡ Some r → ⊥
unfolding value
no_tokens zero r e = no_value (λ us. None) (λ us. None) r e
no_tokens (suc d) r e = no_value (λ us. items (value d) (length us) us) (λ us. members (value d) (length us) us) r e

pub bracket_closed : (d : ℕ) (t : Token) (ts r : List Token) → is_opening t ≡ true → skip_value d (t ∷ ts) ≡ Some r → closed 1 ts ≡ Some r
bracket_closed d t ts r h e = opened d t ts r (either_opens (λ us. None) (λ us. None) t h) e

-- ---- what a list or an object takes, behind the bracket that opens it

pub list_closed : (d n : ℕ) (ts r : List Token) → left (items (value d) n ts) ≡ Some r → closed 1 ts ≡ Some r
unfolding closed
list_closed d n ts r e = items_close (value d) (value_level d) n 0 ts r e

pub object_closed : (d n : ℕ) (ts r : List Token) → left (members (value d) n ts) ≡ Some r → closed 1 ts ≡ Some r
unfolding closed
object_closed d n ts r e = members_close (value d) (value_level d) n 0 ts r e
