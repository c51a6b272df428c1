-- The bytes at the place of a part of a value are a text of the part's tokens.
use Rattle.std.proofs.Common.{◌≡◌, ℕ, zero, suc, ◌<◌, ◌≤◌, Bool, true, false, cond, List, [], ◌∷◌, ◌++◌, length, get_or, Option, Some, None, refl, sym, ap, ◌∙◌, arith, append_assoc}
use Rattle.std.proofs.lemmas.Bool.{and_from, false≢true}
use Rattle.std.proofs.lemmas.List.Folds.{list_all-append}
use Rattle.std.specs.List.{list_all}
use Rattle.std.specs.Str.{bytes_eq}
use Rattle.json.specs.Align.{is_good}
use Rattle.json.specs.Json.{Json, null, boolean, number, string, array, object, Items, no_items, item, Members, no_members, member}
use Rattle.json.specs.Lex.{Place as At, between, fresh, lex, punctuate, tokens}
use Rattle.json.specs.Token.{Token}
use Rattle.json.specs.Tree.{depth, items_depth, items_tokens, json_tokens, members_depth, members_tokens}
use Rattle.text_spans.specs.Place.{after_token, behind, from_token, place_after}
use Rattle.text_spans.specs.Path.{Place, Step, name, index, token_count, place, item_place, member_place}
use Rattle.product_laws.proofs.Cut.{closes, cut, reads_here, step}
use Rattle.product_laws.proofs.Marks.{begins_here}
use Rattle.product_laws.proofs.Steps.{EndsLow}

-- ---- parts of values

abbrev mutual
  pub json_part : List Step → Json → Option Json
  json_part [] j = Some j
  json_part (index i ∷ path) (array js) = item_part i path js
  json_part (name k ∷ path) (object ms) = member_part k path ms None
  json_part (s ∷ path) j = None

  pub item_part : ℕ → List Step → Items → Option Json
  item_part i path no_items = None
  item_part zero path (item j js) = json_part path j
  item_part (suc i) path (item j js) = item_part i path js

  pub member_part : List ℕ → List Step → Members → Option Json → Option Json
  member_part k path no_members found = found
  member_part k path (member l j ms) found = member_part k path ms (cond (bytes_eq l k) (json_part path j) found)

-- ---- the tokens of a value

closes_more : (xs ys : List Token) → closes ys ≡ true → closes (xs ++ ys) ≡ true
closes_more [] ys h = h
closes_more (k ∷ []) [] h = absurd (false≢true h)
closes_more (k ∷ []) (l ∷ ys) h = h
closes_more (k ∷ l ∷ xs) ys h = closes_more (l ∷ xs) ys h

mutual
  value_closes : (j : Json) → closes (json_tokens j) ≡ true
  value_closes null = refl
  value_closes (boolean b) = refl
  value_closes (number s) = refl
  value_closes (string s) = refl
  value_closes (array js) = closes_more (Token.begin_array ∷ []) (items_tokens js) (items_close js)
  value_closes (object ms) = closes_more (Token.begin_object ∷ []) (members_tokens ms) (members_close ms)

  items_close : (js : Items) → closes (items_tokens js) ≡ true
  items_close no_items = refl
  items_close (item j js) = closes_more (json_tokens j) (items_tokens js) (items_close js)

  members_close : (ms : Members) → closes (members_tokens ms) ≡ true
  members_close no_members = refl
  members_close (member k j ms) = closes_more (Token.key k ∷ json_tokens j) (members_tokens ms) (members_close ms)

both_good : (xs ys : List Token) → list_all is_good xs ≡ true → list_all is_good ys ≡ true → list_all is_good (xs ++ ys) ≡ true
both_good xs ys g h = list_all-append is_good xs ys ∙ and_from (list_all is_good xs) (list_all is_good ys) g h

mutual
  value_good : (j : Json) → list_all is_good (json_tokens j) ≡ true
  value_good null = refl
  value_good (boolean b) = refl
  value_good (number s) = refl
  value_good (string s) = refl
  value_good (array js) = items_good js
  value_good (object ms) = members_good ms

  items_good : (js : Items) → list_all is_good (items_tokens js) ≡ true
  items_good no_items = refl
  items_good (item j js) = both_good (json_tokens j) (items_tokens js) (value_good j) (items_good js)

  members_good : (ms : Members) → list_all is_good (members_tokens ms) ≡ true
  members_good no_members = refl
  members_good (member k j ms) = both_good (json_tokens j) (members_tokens ms) (value_good j) (members_good ms)

-- ---- a value in a text

-- the tokens from a place of a text on
abbrev pub Reads : At → List ℕ → List Token → Type 0
Reads p t ts = punctuate p (lex between t) ≡ ts

-- a value takes these bytes of a text, and its tokens are those of the bytes
pub record Stands (j : Json) (r : List Token) (t : List ℕ) : Type 0 where
  pub old : List ℕ
  pub is : from_token t ≡ old ++ behind (token_count j) t
  pub reads : tokens old ≡ json_tokens j
  pub low : EndsLow old
  pub first : get_or (from_token t) 0 0 < 128
  pub place : At
  pub after : Reads place (behind (token_count j) t) r

abbrev first_of : (j : Json) → (k : Token) × (ts : List Token) × (json_tokens j ≡ k ∷ ts)
first_of null = (Token.null, [], refl)
first_of (boolean b) = (Token.boolean b, [], refl)
first_of (number s) = (Token.number s, [], refl)
first_of (string s) = (Token.string s, [], refl)
first_of (array js) = (Token.begin_array, items_tokens js, refl)
first_of (object ms) = (Token.begin_object, members_tokens ms, refl)

good_first : (j : Json) → is_good (first_of j).0 ≡ true
good_first null = refl
good_first (boolean b) = refl
good_first (number s) = refl
good_first (string s) = refl
good_first (array js) = refl
good_first (object ms) = refl

behind_here : (n : ℕ) (t : List ℕ) → from_token (from_token t) ≡ from_token t → behind (suc n) (from_token t) ≡ behind (suc n) t
unfolding behind
behind_here n t e = ap (λ l. behind n (after_token l)) e

count_of : (j : Json) → (n : ℕ) × (token_count j ≡ suc n)
count_of j = let f = first_of j in (length f.1, ap length f.2)

pub value_stands : (j : Json) (r : List Token) (p : At) (t : List ℕ) → Reads p t (json_tokens j ++ r) → Stands j r t
value_stands j r p t e =
    let f = first_of j in
    let at : Reads p t (f.0 ∷ (f.1 ++ r)) = e ∙ ap (λ ts. ts ++ r) f.2 in
    let s = step p f.0 (f.1 ++ r) t (good_first j) at in
    let here : Reads fresh (from_token t) (json_tokens j ++ r) = reads_here p f.0 (f.1 ++ r) t s ∙ ap (λ ts. ts ++ r) (sym f.2) in
    let c = cut (json_tokens j) r fresh (from_token t) (value_good j) (value_closes j) here in
    let n = count_of j in
    let same : behind (token_count j) (from_token t) ≡ behind (token_count j) t =
    ap (λ k. behind k (from_token t)) n.1 ∙ behind_here n.0 t (begins_here (from_token t) s.begun) ∙ ap (λ k. behind k t) (sym n.1) in
    record {
      old = c.old;
      is = c.is ∙ ap (λ l. c.old ++ l) same;
      reads = c.reads;
      low = c.low;
      first = s.takes.first;
      place = c.place;
      after = ap (λ l. punctuate c.place (lex between l)) (sym same) ∙ c.after;
    }

-- behind one token
pub one_behind : (p : At) (k : Token) (us : List Token) (t : List ℕ) → is_good k ≡ true → Reads p t (k ∷ us) → Reads (place_after k) (behind 1 t) us
unfolding behind
one_behind p k us t g e = sym (step p k us t g e).rest

-- ---- its parts

-- what stands at a place is this part, which nests no deeper than this
abbrev pub IsPart : ℕ → Option Place → Option Json → Type 0
IsPart n None o = Unit {0}
IsPart n (Some q) o = (i : Json) × (old : List ℕ) × (o ≡ Some i) × (q.0 ≡ old ++ q.1) × (tokens old ≡ json_tokens i) × EndsLow old × (get_or q.0 0 0 < 128) × (depth i ≤ n)

deeper : (n m : ℕ) (o : Option Place) (p : Option Json) → n ≤ m → IsPart n o p → IsPart m o p
deeper n m None p le h = tt
deeper n m (Some q) p le h = let d = h.7 in (h.0, h.1, h.2, h.3, h.4, h.5, h.6, omega (arith, le, d))

either_part : (n : ℕ) (b : Bool) (o p : Option Place) (q r : Option Json) → IsPart n o q → IsPart n p r → IsPart n (cond b o p) (cond b q r)
either_part n true o p q r h g = h
either_part n false o p q r h g = g

item_reads : (j : Json) (js : Items) (r : List Token) (p : At) (t : List ℕ) → Reads p t (items_tokens (item j js) ++ r) → Reads p t (json_tokens j ++ (items_tokens js ++ r))
item_reads j js r p t e = e ∙ append_assoc (json_tokens j) (items_tokens js) r

mutual
  unfolding behind

  pub part_stands : (path : List Step) (j : Json) (n : ℕ) (r : List Token) (p : At) (t : List ℕ) → depth j ≤ n → Reads p t (json_tokens j ++ r) → IsPart n (place path j t) (json_part path j)
  part_stands [] j n r p t d e = let s = value_stands j r p t e in (j, s.old, refl, s.is, s.reads, s.low, s.first, d)
  part_stands (index i ∷ path) (array js) n r p t d e = item_stands i path js n r _ (behind 1 t) (omega (arith, d)) (one_behind p Token.begin_array (items_tokens js ++ r) t refl e)
  part_stands (name k ∷ path) (object ms) n r p t d e = member_stands k path ms n r _ (behind 1 t) None None (omega (arith, d)) (one_behind p Token.begin_object (members_tokens ms ++ r) t refl e) tt
  part_stands (name k ∷ path) (array js) n r p t d e = tt
  part_stands (index i ∷ path) (object ms) n r p t d e = tt
  part_stands (name k ∷ path) null n r p t d e = tt
  part_stands (index i ∷ path) null n r p t d e = tt
  part_stands (name k ∷ path) (boolean b) n r p t d e = tt
  part_stands (index i ∷ path) (boolean b) n r p t d e = tt
  part_stands (name k ∷ path) (number s) n r p t d e = tt
  part_stands (index i ∷ path) (number s) n r p t d e = tt
  part_stands (name k ∷ path) (string s) n r p t d e = tt
  part_stands (index i ∷ path) (string s) n r p t d e = tt

  item_stands : (i : ℕ) (path : List Step) (js : Items) (n : ℕ) (r : List Token) (p : At) (t : List ℕ) → items_depth js ≤ n → Reads p t (items_tokens js ++ r) → IsPart n (item_place i path js t) (item_part i path js)
  item_stands zero path no_items n r p t d e = tt
  item_stands (suc i) path no_items n r p t d e = tt
  item_stands zero path (item j js) n r p t d e = part_stands path j n (items_tokens js ++ r) p t (omega (arith, d)) (item_reads j js r p t e)
  item_stands (suc i) path (item j js) n r p t d e =
      let s = value_stands j (items_tokens js ++ r) p t (item_reads j js r p t e) in
      item_stands i path js n r s.place (behind (token_count j) t) (omega (arith, d)) s.after

  member_stands : (k : List ℕ) (path : List Step) (ms : Members) (n : ℕ) (r : List Token) (p : At) (t : List ℕ) (found : Option Place) (part : Option Json) → members_depth ms ≤ n
      → Reads p t (members_tokens ms ++ r) → IsPart n found part → IsPart n (member_place k path ms found t) (member_part k path ms part)
  member_stands k path no_members n r p t found part d e h = h
  member_stands k path (member l j ms) n r p t found part d e h =
      let inner : Reads (place_after (Token.key l)) (behind 1 t) (json_tokens j ++ (members_tokens ms ++ r)) =
      one_behind p (Token.key l) ((json_tokens j ++ members_tokens ms) ++ r) t refl e ∙ append_assoc (json_tokens j) (members_tokens ms) r in
      let s = value_stands j (members_tokens ms ++ r) _ (behind 1 t) inner in
      member_stands k path ms n r s.place (behind (suc (token_count j)) t) _ _ (omega (arith, d)) s.after
      (either_part n (bytes_eq l k) (place path j (behind 1 t)) found (json_part path j) part (part_stands path j n (members_tokens ms ++ r) _ (behind 1 t) (omega (arith, d)) inner) h)
