-- How the place of a value is found, a token at a time.
use Rattle.std.proofs.Common.{◌≡◌, ℕ, zero, suc, ◌-◌, Bool, true, false, cond, List, [], ◌∷◌, ◌++◌, length, Option, Some, None, option_map, refl, sym, ap, ◌∙◌, Bor, arith}
use Rattle.std.proofs.lemmas.List.{length-append}
use Rattle.std.proofs.lemmas.Bool.{false≢true}
use Rattle.std.specs.Str.{bytes_eq}
use Rattle.json.specs.Token.{Token}
use Rattle.json.specs.Json.{Json, null, boolean, number, string, array, object, Items, no_items, item, Members, Parse, after_end_array, read_key, items, members, value_with, value, skip_value}
use Rattle.json.specs.Tree.{json_tokens}
use Rattle.json.specs.Reads.{token_of}
use Rattle.json.specs.declared.token.Token.{Token as Given}
use Rattle.json.specs.declared.token.Token.TheVariants as given
use Rattle.json.proofs.Grammar.{left}
use Rattle.text_spans.specs.Place.{GoOn, behind, closed, from_token, is_opening}
use Rattle.text_spans.proofs.Balanced.{list_closed, no_tokens, object_closed, one_token}
use Rattle.text_spans.proofs.Going.{goes_on}
use Rattle.text_spans.specs.Path.{Place, Step, name, index, token_count, place, item_place, member_place}
use Rattle.text_spans.proofs.Taken.{items_over, items_turn, mapped, members_none, members_over, members_turn, no_member_turns, no_turns, same_pair, value_taken}

-- the text behind these tokens
pub behind_tokens : (ts us front : List Token) (t r : List ℕ) → GoOn ts t us r → ts ≡ front ++ us → r ≡ behind (length front) t
behind_tokens ts us front t r (n, e, f) is = let same : n ≡ length front = omega (arith, e, ap length is, length-append front us) in f ∙ ap (λ k. behind k t) same

skipped : (d : ℕ) (ts r : List Token) (j : Json) → value d ts ≡ Some (j, r) → skip_value d ts ≡ Some r
skipped d ts r j e = ap (option_map (λ p. p.1)) e

-- behind the next value
behind_next : (d : ℕ) (ts new : List Token) (t rest : List ℕ) (j : Json) (r : List Token) → GoOn ts t new rest → value d ts ≡ Some (j, r) → new ≡ r → rest ≡ behind (token_count j) t
behind_next d ts new t rest j r passed e same = behind_tokens ts new (json_tokens j) t rest passed (value_taken d ts j r e ∙ ap (λ l. json_tokens j ++ l) (sym same))

abbrev place_is : Option Place → Option Place → Type 0
place_is a b = a ≡ b

pub whole_at : (d : ℕ) (ts new : List Token) (t here rest : List ℕ) (j : Json) (r : List Token) → here ≡ from_token t → (skip_value d ts ≡ Some r → new ≡ r) → GoOn ts t new rest → value d ts ≡ Some (j, r)
    → (new ≡ r) × (place_is (Some (here, rest)) (Some (from_token t, behind (token_count j) t)))
whole_at d ts new t here rest j r at next passed e =
    let same = next (skipped d ts r j e) in
    (same, ap (λ h. Some (h, rest)) at ∙ ap (λ h. Some (from_token t, h)) (behind_next d ts new t rest j r passed e same))

-- ---- the part to which a step leads

list_opened : (d : ℕ) (us r : List Token) (j : Json) → value d (Token.begin_array ∷ us) ≡ Some (j, r)
    → (e : ℕ) × (js : Items) × (items (value e) (length us) us ≡ Some (js, r)) × (j ≡ array js)
unfolding value
list_opened zero us r j e = cc
list_opened (suc d) us r j e = let m = mapped array (items (value d) (length us) us) j r e in (d, m.0, m.1, m.2)

object_opened : (d : ℕ) (us r : List Token) (j : Json) → value d (Token.begin_object ∷ us) ≡ Some (j, r)
    → (e : ℕ) × (ms : Members) × (members (value e) (length us) us ≡ Some (ms, r)) × (j ≡ object ms)
unfolding value
object_opened zero us r j e = cc
object_opened (suc d) us r j e = let m = mapped object (members (value d) (length us) us) j r e in (d, m.0, m.1, m.2)

module _ (d : ℕ) (ts us r : List Token) (t mid : List ℕ) (j : Json) (path : List Step) (first : GoOn ts t us mid) where
  list_there : ts ≡ Token.begin_array ∷ us → value d ts ≡ Some (j, r) → (e : ℕ) × (js : Items) × (items (value e) (length us) us ≡ Some (js, r)) × (j ≡ array js)
  list_there is e = list_opened d us r j (ap (value d) (sym is) ∙ e)

  object_there : ts ≡ Token.begin_object ∷ us → value d ts ≡ Some (j, r) → (e : ℕ) × (ms : Members) × (members (value e) (length us) us ≡ Some (ms, r)) × (j ≡ object ms)
  object_there is e = object_opened d us r j (ap (value d) (sym is) ∙ e)

  one : (k : Token) → ts ≡ k ∷ us → mid ≡ behind 1 t
  one k is = behind_tokens ts us (k ∷ []) t mid first is

  pub in_list : (i : ℕ) (new : List Token) (view : Option Place) → ts ≡ Token.begin_array ∷ us
      → ((e n : ℕ) (js : Items) (q : List Token) → items (value e) n us ≡ Some (js, q) → (new ≡ q) × (view ≡ item_place i path js mid))
      → value d ts ≡ Some (j, r) → (new ≡ r) × (view ≡ place (index i ∷ path) j t)
  in_list i new view is items_are e =
      let there = list_there is e in
      let got = items_are there.0 (length us) there.1 r there.2 in
      (got.0, got.1 ∙ ap (item_place i path there.1) (one Token.begin_array is) ∙ ap (λ k. place (index i ∷ path) k t) (sym there.3))

  pub in_object : (k : List ℕ) (new : List Token) (view : Option Place) → ts ≡ Token.begin_object ∷ us
      → ((e n : ℕ) (ms : Members) (q : List Token) → members (value e) n us ≡ Some (ms, q) → (new ≡ q) × (view ≡ member_place k path ms None mid))
      → value d ts ≡ Some (j, r) → (new ≡ r) × (view ≡ place (name k ∷ path) j t)
  in_object k new view is members_are e =
      let there = object_there is e in
      let got = members_are there.0 (length us) there.1 r there.2 in
      (got.0, got.1 ∙ ap (member_place k path there.1 None) (one Token.begin_object is) ∙ ap (λ l. place (name k ∷ path) l t) (sym there.3))

  -- no member is in a list, and no item in an object
  pub not_in_list : (k : List ℕ) (new : List Token) → ts ≡ Token.begin_array ∷ us → ((q : List Token) → closed 1 us ≡ Some q → new ≡ q)
      → value d ts ≡ Some (j, r) → (new ≡ r) × (None ≡ place (name k ∷ path) j t)
  not_in_list k new is next e =
      let there = list_there is e in
      (next r (list_closed there.0 (length us) us r (ap left there.2)), ap (λ l. place (name k ∷ path) l t) (sym there.3))

  pub not_in_object : (i : ℕ) (new : List Token) → ts ≡ Token.begin_object ∷ us → ((q : List Token) → closed 1 us ≡ Some q → new ≡ q)
      → value d ts ≡ Some (j, r) → (new ≡ r) × (None ≡ place (index i ∷ path) j t)
  not_in_object i new is next e =
      let there = object_there is e in
      (next r (object_closed there.0 (length us) us r (ap left there.2)), ap (λ l. place (index i ∷ path) l t) (sym there.3))

-- ---- the items of a list

-- of the items that are left the place is the one that is wanted
abbrev pub ItemsLeft : ℕ → List Token → ℕ → List Step → Option Place → List Token → List ℕ → Type 0
ItemsLeft d r i path want ts t = (m : ℕ) × (js : Items) × (items (value d) m ts ≡ Some (js, r)) × (item_place i path js t ≡ want)

-- the same at the same place
pub items_same : (d : ℕ) (r : List Token) (i : ℕ) (path : List Step) (want : Option Place) (ts us : List Token) (t u : List ℕ) → us ≡ ts → u ≡ t → ItemsLeft d r i path want ts t → ItemsLeft d r i path want us u
items_same d r i path want ts us t u e f (m, js, g, p) = (m, js, ap (items (value d) m) e ∙ g, ap (item_place i path js) f ∙ p)

module _ (d : ℕ) (r : List Token) (path : List Step) (want : Option Place) (ts : List Token) (t : List ℕ) where
  one_passed : (i : ℕ) (new : List Token) (rest : List ℕ) → ItemsLeft d r (suc i) path want ts t → after_end_array ts ≡ None → ((us : List Token) → skip_value d ts ≡ Some us → new ≡ us) → GoOn ts t new rest
      → ItemsLeft d r i path want new rest
  one_passed i new rest (zero, js, e, p) none next passed = absurd (no_turns (value d) ts r js e)
  one_passed i new rest (suc m, js, e, p) none next passed =
      let turn = items_turn (value d) m ts r js e none in
      let j = turn.0 in
      let same = next turn.1 (skipped d ts turn.1 j turn.3) in (
        m,
        turn.2,
        ap (items (value d) m) same ∙ turn.4,
        ap (item_place i path turn.2) (behind_next d ts new t rest j turn.1 passed turn.3 same) ∙ ap (λ k. item_place (suc i) path k t) (sym turn.5) ∙ p,
      )

  pub item_passed : (i : ℕ) (new : List Token) (rest : List ℕ) → ItemsLeft d r i path want ts t → after_end_array ts ≡ None → (i ≡ 0 → ⊥) → ((us : List Token) → skip_value d ts ≡ Some us → new ≡ us) → GoOn ts t new rest
      → ItemsLeft d r (i - 1) path want new rest
  item_passed zero new rest h none some next passed = absurd (some refl)
  item_passed (suc i) new rest h none some next passed =
      let less : i ≡ suc i - 1 = omega arith in
      let got = one_passed i new rest h none next passed in
      (got.0, got.1, got.2, ap (λ k. item_place k path got.1 rest) (sym less) ∙ got.3)

  at_zero : (i : ℕ) (j : Json) (js : Items) → i ≡ 0 → place path j t ≡ item_place i path (item j js) t
  at_zero i j js e = ap (λ k. item_place k path (item j js) t) (sym e)

  pub item_found : (i : ℕ) (mid new : List Token) (view : Option Place) → ItemsLeft d r i path want ts t → after_end_array ts ≡ None → i ≡ 0
      → ((j : Json) (us : List Token) → value d ts ≡ Some (j, us) → (mid ≡ us) × (view ≡ place path j t)) → ((us : List Token) → closed 1 mid ≡ Some us → new ≡ us)
      → (new ≡ r) × (view ≡ want)
  item_found i mid new view (zero, js, e, p) none at there next = absurd (no_turns (value d) ts r js e)
  item_found i mid new view (suc m, js, e, p) none at there next =
      let turn = items_turn (value d) m ts r js e none in
      let got = there turn.0 turn.1 turn.3 in
      (next r (ap (closed 1) got.0 ∙ list_closed d m turn.1 r (ap left turn.4)), got.1 ∙ at_zero i turn.0 turn.2 at ∙ ap (λ k. item_place i path k t) (sym turn.5) ∙ p)

  none_left : (i : ℕ) → item_place i path no_items t ≡ None
  none_left zero = refl
  none_left (suc i) = refl

  pub item_over : (i : ℕ) (new : List Token) → ItemsLeft d r i path want ts t → after_end_array ts ≡ Some new → (new ≡ r) × (None ≡ want)
  item_over i new (zero, js, e, p) over = absurd (no_turns (value d) ts r js e)
  item_over i new (suc m, js, e, p) over =
      let done = items_over (value d) m ts new r js e over in
      (done.0, sym (none_left i) ∙ ap (λ k. item_place i path k t) (sym done.1) ∙ p)

-- ---- the members of an object

abbrev pub MembersLeft : ℕ → List Token → List ℕ → List Step → Option Place → Option Place → List Token → List ℕ → Type 0
MembersLeft d r k path want found ts t = (m : ℕ) × (ms : Members) × (members (value d) m ts ≡ Some (ms, r)) × (member_place k path ms found t ≡ want)

module _ (d : ℕ) (r : List Token) (k : List ℕ) (path : List Step) (want found : Option Place) (ts : List Token) (t : List ℕ) (h : MembersLeft d r k path want found ts t) where
  member_step : (l : List ℕ) (us new : List Token) (mid rest : List ℕ) (next : Option Place) → ts ≡ Token.key l ∷ us → GoOn ts t us mid → GoOn us mid new rest
      → ((j : Json) (vs : List Token) → value d us ≡ Some (j, vs) → (new ≡ vs) × (next ≡ cond (bytes_eq l k) (place path j mid) found))
      → MembersLeft d r k path want next new rest
  member_step l us new mid rest next is first passed there = go h
    where
      go : MembersLeft d r k path want found ts t → MembersLeft d r k path want next new rest
      go (zero, ms, e, p) = absurd (no_member_turns (value d) ts r ms e)
      go (suc m, ms, e, p) =
          let turn = members_turn (value d) m ts us r l ms e (ap read_key is) in
          let j = turn.0 in
          let got = there j turn.1 turn.3 in
          let tokens : ts ≡ (Token.key l ∷ json_tokens j) ++ new = is ∙ ap (λ x. Token.key l ∷ x) (value_taken d us j turn.1 turn.3 ∙ ap (λ x. json_tokens j ++ x) (sym got.0)) in
          let after : rest ≡ behind (suc (token_count j)) t = behind_tokens ts new (Token.key l ∷ json_tokens j) t rest (goes_on ts us new t mid rest first passed) tokens in
          let at : mid ≡ behind 1 t = behind_tokens ts us (Token.key l ∷ []) t mid first is in
          let same : next ≡ cond (bytes_eq l k) (place path j (behind 1 t)) found = got.1 ∙ ap (λ x. cond (bytes_eq l k) (place path j x) found) at in (
            m,
            turn.2,
            ap (members (value d) m) got.0 ∙ turn.4,
            ap (member_place k path turn.2 next) after ∙ ap (λ x. member_place k path turn.2 x (behind (suc (token_count j)) t)) same ∙ ap (λ x. member_place k path x found t) (sym turn.5) ∙ p,
          )

  pub member_found : (l : List ℕ) (us new : List Token) (mid rest : List ℕ) (next : Option Place) → ts ≡ Token.key l ∷ us → bytes_eq l k ≡ true → GoOn ts t us mid → GoOn us mid new rest
      → ((j : Json) (vs : List Token) → value d us ≡ Some (j, vs) → (new ≡ vs) × (next ≡ place path j mid)) → MembersLeft d r k path want next new rest
  member_found l us new mid rest next is named first passed there =
      member_step l us new mid rest next is first passed (λ j vs e. ((there j vs e).0, (there j vs e).1 ∙ ap (λ b. cond b (place path j mid) found) (sym named)))

  pub member_passed : (l : List ℕ) (us new : List Token) (mid rest : List ℕ) → ts ≡ Token.key l ∷ us → bytes_eq l k ≡ false → GoOn ts t us mid → GoOn us mid new rest
      → ((vs : List Token) → skip_value d us ≡ Some vs → new ≡ vs) → MembersLeft d r k path want found new rest
  member_passed l us new mid rest is named first passed next =
      member_step l us new mid rest found is first passed (λ j vs e. (next vs (skipped d us vs j e), ap (λ b. cond b (place path j mid) found) (sym named)))

  ended : (new : List Token) → read_key ts ≡ Some (None, new) → (new ≡ r) × (found ≡ want)
  ended new key = go h
    where
      go : MembersLeft d r k path want found ts t → (new ≡ r) × (found ≡ want)
      go (zero, ms, e, p) = absurd (no_member_turns (value d) ts r ms e)
      go (suc m, ms, e, p) = let done = members_over (value d) m ts new r ms e key in (done.0, ap (λ x. member_place k path x found t) (sym done.1) ∙ p)

  refused : read_key ts ≡ None → ⊥
  refused key = go h
    where
      go : MembersLeft d r k path want found ts t → ⊥
      go (zero, ms, e, p) = no_member_turns (value d) ts r ms e
      go (suc m, ms, e, p) = members_none (value d) m ts r ms e key

  pub member_missing : {P : Type 0} → ts ≡ [] → P
  member_missing e = absurd (refused (ap read_key e))

  -- a token that is no name ends the object
  pub member_over : (g : Given) (new : List Token) → ts ≡ token_of g ∷ new → ((l : Bor (List ℕ)) → g ≡ given.Key l → ⊥) → (new ≡ r) × (found ≡ want)
  member_over given.BeginObject new is other = absurd (refused (ap read_key is))
  member_over given.EndObject new is other = ended new (ap read_key is)
  member_over given.BeginArray new is other = absurd (refused (ap read_key is))
  member_over given.EndArray new is other = absurd (refused (ap read_key is))
  member_over (given.Key l) new is other = absurd (other l refl)
  member_over (given.String s) new is other = absurd (refused (ap read_key is))
  member_over (given.Number s) new is other = absurd (refused (ap read_key is))
  member_over (given.Bool b) new is other = absurd (refused (ap read_key is))
  member_over given.Null new is other = absurd (refused (ap read_key is))
  member_over given.Bad new is other = absurd (refused (ap read_key is))

-- ---- a value that has no parts

alone : (d : ℕ) (k : Token) (us r : List Token) (j : Json) → is_opening k ≡ false → value d (k ∷ us) ≡ Some (j, r) → us ≡ r
alone d k us r j shut e = (one_token d k us r shut (skipped d (k ∷ us) r j e)).0

-- it is neither a list nor an object
abbrev opens_nothing : Json → Bool
opens_nothing (array js) = false
opens_nothing (object ms) = false
opens_nothing j = true

module _ (a : Parse Items) (o : Parse Members) where
  with_scalar : (k : Token) (us r : List Token) (j : Json) → is_opening k ≡ false → value_with a o (k ∷ us) ≡ Some (j, r) → opens_nothing j ≡ true
  with_scalar Token.begin_object us r j shut e = cc
  with_scalar Token.begin_array us r j shut e = cc
  with_scalar Token.end_object us r j shut e = cc
  with_scalar Token.end_array us r j shut e = cc
  with_scalar (Token.key x) us r j shut e = cc
  with_scalar (Token.string x) us r j shut e = ap opens_nothing (sym (same_pair (Some (string x, us)) (string x) j us r refl e).0)
  with_scalar (Token.number x) us r j shut e = ap opens_nothing (sym (same_pair (Some (number x, us)) (number x) j us r refl e).0)
  with_scalar (Token.boolean x) us r j shut e = ap opens_nothing (sym (same_pair (Some (boolean x, us)) (boolean x) j us r refl e).0)
  with_scalar Token.null us r j shut e = ap opens_nothing (sym (same_pair (Some (null, us)) null j us r refl e).0)
  with_scalar Token.bad us r j shut e = cc

scalar : (d : ℕ) (k : Token) (us r : List Token) (j : Json) → is_opening k ≡ false → value d (k ∷ us) ≡ Some (j, r) → opens_nothing j ≡ true
unfolding value
scalar zero k us r j shut e = with_scalar (λ ts. None) (λ ts. None) k us r j shut e
scalar (suc d) k us r j shut e = with_scalar (λ ts. items (value d) (length ts) ts) (λ ts. members (value d) (length ts) ts) k us r j shut e

no_list : (d : ℕ) (k : Token) (us r : List Token) (js : Items) → is_opening k ≡ false → value d (k ∷ us) ≡ Some (array js, r) → ⊥
no_list d k us r js shut e = false≢true (scalar d k us r (array js) shut e)

no_object : (d : ℕ) (k : Token) (us r : List Token) (ms : Members) → is_opening k ≡ false → value d (k ∷ us) ≡ Some (object ms, r) → ⊥
no_object d k us r ms shut e = false≢true (scalar d k us r (object ms) shut e)

no_part : (s : Step) (path : List Step) (t : List ℕ) (j : Json) (d : ℕ) (k : Token) (us r : List Token) → is_opening k ≡ false → value d (k ∷ us) ≡ Some (j, r) → None ≡ place (s ∷ path) j t
no_part (name n) path t (array js) d k us r shut e = refl
no_part (index i) path t (array js) d k us r shut e = absurd (no_list d k us r js shut e)
no_part (name n) path t (object ms) d k us r shut e = absurd (no_object d k us r ms shut e)
no_part (index i) path t (object ms) d k us r shut e = refl
no_part (name n) path t null d k us r shut e = refl
no_part (index i) path t null d k us r shut e = refl
no_part (name n) path t (boolean b) d k us r shut e = refl
no_part (index i) path t (boolean b) d k us r shut e = refl
no_part (name n) path t (number s) d k us r shut e = refl
no_part (index i) path t (number s) d k us r shut e = refl
no_part (name n) path t (string s) d k us r shut e = refl
no_part (index i) path t (string s) d k us r shut e = refl

module _ (s : Step) (path : List Step) (t : List ℕ) (d : ℕ) (ts r : List Token) (j : Json) (e : value d ts ≡ Some (j, r)) where
  pub nothing_there : {P : Type 0} → ts ≡ [] → P
  nothing_there is = absurd (no_tokens d r (skipped d [] r j (ap (value d) (sym is) ∙ e)))

  by : (k : Token) (new : List Token) → is_opening k ≡ false → ts ≡ k ∷ new → (new ≡ r) × (None ≡ place (s ∷ path) j t)
  by k new shut first = let v : value d (k ∷ new) ≡ Some (j, r) = ap (value d) (sym first) ∙ e in (alone d k new r j shut v, no_part s path t j d k new r shut v)

  -- the next token opens nothing
  pub nothing_opens : (g : Given) (new : List Token) → ts ≡ token_of g ∷ new → (g ≡ given.BeginArray → ⊥) → (g ≡ given.BeginObject → ⊥) → (new ≡ r) × (None ≡ place (s ∷ path) j t)
  nothing_opens given.BeginObject new is a b = absurd (b refl)
  nothing_opens given.EndObject new is a b = by Token.end_object new refl is
  nothing_opens given.BeginArray new is a b = absurd (a refl)
  nothing_opens given.EndArray new is a b = by Token.end_array new refl is
  nothing_opens (given.Key l) new is a b = by (Token.key l.now) new refl is
  nothing_opens (given.String x) new is a b = by (Token.string x.now) new refl is
  nothing_opens (given.Number x) new is a b = by (Token.number x.now) new refl is
  nothing_opens (given.Bool x) new is a b = by (Token.boolean x) new refl is
  nothing_opens given.Null new is a b = by Token.null new refl is
  nothing_opens given.Bad new is a b = by Token.bad new refl is
