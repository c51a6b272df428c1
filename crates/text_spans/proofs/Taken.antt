-- The tokens that the grammar takes are those of what it gives.
use Rattle.std.proofs.Common.{◌≡◌, ℕ, zero, suc, List, [], ◌∷◌, ◌++◌, length, Option, Some, None, option_and_then, refl, sym, ap, ◌∙◌}
use Rattle.std.proofs.lemmas.List.{append_assoc}
use Rattle.json.specs.Token.{Token}
use Rattle.json.specs.Json.{Json, null, boolean, number, string, array, object, Items, no_items, item, Members, no_members, member, Parse, parse_map, after_end_array, read_key, items_step, members_step, items, members, value_with, value}
use Rattle.json.specs.Tree.{json_tokens, items_tokens, members_tokens}
use Rattle.json.proofs.Grammar.{closed_array, read_key_is}

-- what a parse gives, and the tokens that it leaves
abbrev pub Gives : {A : Type 0} → Option (A × List Token) → A → List Token → Type 0
Gives o a r = o ≡ Some (a, r)

abbrev Takes : {A : Type 0} → (A → List Token) → Parse A → Type 0
Takes {A} f p = (ts : List Token) (a : A) (r : List Token) → p ts ≡ Some (a, r) → ts ≡ f a ++ r

abbrev value_or : {A : Type 0} → Option A → A → A
value_or None a = a
value_or (Some b) a = b

-- what a parse gives is known in one way
pub same_pair : {A B : Type 0} (o : Option (A × B)) (a c : A) (b d : B) → o ≡ Some (a, b) → o ≡ Some (c, d) → (a ≡ c) × (b ≡ d)
same_pair o a c b d e f = let is = ap (λ q. value_or q (a, b)) (sym e ∙ f) in (ap (λ q. q.0) is, ap (λ q. q.1) is)

-- what was mapped
pub mapped : {A B : Type 0} (f : A → B) (o : Option (A × List Token)) (b : B) (r : List Token) → parse_map f o ≡ Some (b, r) → (a : A) × (o ≡ Some (a, r)) × (b ≡ f a)
mapped f None b r e = cc
mapped f (Some q) b r e = let is = same_pair (Some (f q.0, q.1)) (f q.0) b q.1 r refl e in (q.0, ap (λ x. Some (q.0, x)) is.1, sym is.0)

-- ---- a turn of each loop

-- a list ends here, or an item comes
pub items_turn : (p : Parse Json) (n : ℕ) (ts r : List Token) (js : Items) → items p (suc n) ts ≡ Some (js, r) → after_end_array ts ≡ None
    → (j : Json) × (us : List Token) × (more : Items) × (p ts ≡ Some (j, us)) × (items p n us ≡ Some (more, r)) × (js ≡ item j more)
unfolding items
items_turn p n ts r js e none = go (p ts) refl (ap (items_step p (items p n) ts) (sym none) ∙ e)
  where
    go : (o : Option (Json × List Token)) → p ts ≡ o → option_and_then (λ q. parse_map (item q.0) (items p n q.1)) o ≡ Some (js, r)
        → (j : Json) × (us : List Token) × (more : Items) × (p ts ≡ Some (j, us)) × (items p n us ≡ Some (more, r)) × (js ≡ item j more)
    go None is f = cc
    go (Some q) is f = let m = mapped (item q.0) (items p n q.1) js r f in (q.0, q.1, m.0, is, m.1, m.2)

pub items_over : (p : Parse Json) (n : ℕ) (ts us r : List Token) (js : Items) → items p (suc n) ts ≡ Some (js, r) → after_end_array ts ≡ Some us → (us ≡ r) × (js ≡ no_items)
unfolding items
items_over p n ts us r js e some = let is = same_pair (items_step p (items p n) ts (after_end_array ts)) no_items js us r (ap (items_step p (items p n) ts) some) e in (is.1, sym is.0)

pub no_turns : (p : Parse Json) (ts r : List Token) (js : Items) → items p 0 ts ≡ Some (js, r) → ⊥
unfolding items
no_turns p ts r js e = cc

pub members_turn : (p : Parse Json) (n : ℕ) (ts us r : List Token) (k : List ℕ) (ms : Members) → members p (suc n) ts ≡ Some (ms, r) → read_key ts ≡ Some (Some k, us)
    → (j : Json) × (vs : List Token) × (more : Members) × (p us ≡ Some (j, vs)) × (members p n vs ≡ Some (more, r)) × (ms ≡ member k j more)
unfolding members
members_turn p n ts us r k ms e key = go (p us) refl (ap (option_and_then (λ q. members_step p (members p n) q.0 q.1)) (sym key) ∙ e)
  where
    go : (o : Option (Json × List Token)) → p us ≡ o → option_and_then (λ q. parse_map (member k q.0) (members p n q.1)) o ≡ Some (ms, r)
        → (j : Json) × (vs : List Token) × (more : Members) × (p us ≡ Some (j, vs)) × (members p n vs ≡ Some (more, r)) × (ms ≡ member k j more)
    go None is f = cc
    go (Some q) is f = let m = mapped (member k q.0) (members p n q.1) ms r f in (q.0, q.1, m.0, is, m.1, m.2)

pub members_over : (p : Parse Json) (n : ℕ) (ts us r : List Token) (ms : Members) → members p (suc n) ts ≡ Some (ms, r) → read_key ts ≡ Some (None, us) → (us ≡ r) × (ms ≡ no_members)
unfolding members
members_over p n ts us r ms e key = let is = same_pair (option_and_then (λ q. members_step p (members p n) q.0 q.1) (read_key ts)) no_members ms us r (ap (option_and_then (λ q. members_step p (members p n) q.0 q.1)) key) e in (is.1, sym is.0)

pub members_none : (p : Parse Json) (n : ℕ) (ts r : List Token) (ms : Members) → members p (suc n) ts ≡ Some (ms, r) → read_key ts ≡ None → ⊥
unfolding members
members_none p n ts r ms e key = let f : None ≡ Some (ms, r) = ap (option_and_then (λ q. members_step p (members p n) q.0 q.1)) (sym key) ∙ e in cc

pub no_member_turns : (p : Parse Json) (ts r : List Token) (ms : Members) → members p 0 ts ≡ Some (ms, r) → ⊥
unfolding members
no_member_turns p ts r ms e = cc

-- ---- the tokens that are taken

module _ (p : Parse Json) (takes : Takes json_tokens p) where
  items_taken : (n : ℕ) → Takes items_tokens (items p n)
  items_taken zero ts js r e = absurd (no_turns p ts r js e)
  items_taken (suc n) ts js r e = go (items_taken n) (after_end_array ts) refl
    where
      go : Takes items_tokens (items p n) → (o : Option (List Token)) → after_end_array ts ≡ o → ts ≡ items_tokens js ++ r
      go again (Some us) is =
          let over = items_over p n ts us r js e is in
          closed_array ts us is ∙ ap (λ l. Token.end_array ∷ l) over.0 ∙ ap (λ i. items_tokens i ++ r) (sym over.1)
      go again None is =
          let turn = items_turn p n ts r js e is in
          takes ts turn.0 turn.1 turn.3 ∙ ap (λ l. json_tokens turn.0 ++ l) (again turn.1 turn.2 r turn.4)
          ∙ sym (append_assoc (json_tokens turn.0) (items_tokens turn.2) r) ∙ ap (λ i. items_tokens i ++ r) (sym turn.5)

  members_taken : (n : ℕ) → Takes members_tokens (members p n)
  members_taken zero ts ms r e = absurd (no_member_turns p ts r ms e)
  members_taken (suc n) ts ms r e = go (members_taken n) (read_key ts) refl
    where
      go : Takes members_tokens (members p n) → (o : Option (Option (List ℕ) × List Token)) → read_key ts ≡ o → ts ≡ members_tokens ms ++ r
      go again None is = absurd (members_none p n ts r ms e is)
      go again (Some (None, us)) is =
          let over = members_over p n ts us r ms e is in
          read_key_is ts None us is ∙ ap (λ l. Token.end_object ∷ l) over.0 ∙ ap (λ m. members_tokens m ++ r) (sym over.1)
      go again (Some (Some k, us)) is =
          let turn = members_turn p n ts us r k ms e is in
          read_key_is ts (Some k) us is ∙ ap (λ l. Token.key k ∷ l) (takes us turn.0 turn.1 turn.3 ∙ ap (λ l. json_tokens turn.0 ++ l) (again turn.1 turn.2 r turn.4)
          ∙ sym (append_assoc (json_tokens turn.0) (members_tokens turn.2) r)) ∙ ap (λ m. members_tokens m ++ r) (sym turn.5)

module _ (a : Parse Items) (o : Parse Members) (in_list : Takes items_tokens a) (in_object : Takes members_tokens o) where
  with_taken : Takes json_tokens (value_with a o)
  with_taken [] j r e = cc
  with_taken (Token.begin_object ∷ ts) j r e =
      let m = mapped object (o ts) j r e in
      ap (λ l. Token.begin_object ∷ l) (in_object ts m.0 r m.1) ∙ ap (λ k. json_tokens k ++ r) (sym m.2)
  with_taken (Token.end_object ∷ ts) j r e = cc
  with_taken (Token.begin_array ∷ ts) j r e =
      let m = mapped array (a ts) j r e in
      ap (λ l. Token.begin_array ∷ l) (in_list ts m.0 r m.1) ∙ ap (λ k. json_tokens k ++ r) (sym m.2)
  with_taken (Token.end_array ∷ ts) j r e = cc
  with_taken (Token.key s ∷ ts) j r e = cc
  with_taken (Token.string s ∷ ts) j r e = let is = same_pair (Some (string s, ts)) (string s) j ts r refl e in ap (λ l. Token.string s ∷ l) is.1 ∙ ap (λ k. json_tokens k ++ r) is.0
  with_taken (Token.number s ∷ ts) j r e = let is = same_pair (Some (number s, ts)) (number s) j ts r refl e in ap (λ l. Token.number s ∷ l) is.1 ∙ ap (λ k. json_tokens k ++ r) is.0
  with_taken (Token.boolean b ∷ ts) j r e = let is = same_pair (Some (boolean b, ts)) (boolean b) j ts r refl e in ap (λ l. Token.boolean b ∷ l) is.1 ∙ ap (λ k. json_tokens k ++ r) is.0
  with_taken (Token.null ∷ ts) j r e = let is = same_pair (Some (null, ts)) null j ts r refl e in ap (λ l. Token.null ∷ l) is.1 ∙ ap (λ k. json_tokens k ++ r) is.0
  with_taken (Token.bad ∷ ts) j r e = cc

nothing_taken : {A : Type 0} (f : A → List Token) → Takes f (λ ts. None)
nothing_taken f ts a r e = cc

pub value_taken : (d : ℕ) (ts : List Token) (j : Json) (r : List Token) → value d ts ≡ Some (j, r) → ts ≡ json_tokens j ++ r
unfolding value
value_taken zero ts j r e = with_taken (λ us. None) (λ us. None) (nothing_taken items_tokens) (nothing_taken members_tokens) ts j r e
value_taken (suc d) ts j r e =
    with_taken (λ us. items (value d) (length us) us) (λ us. members (value d) (length us) us)
    (λ us js r e. items_taken (value d) (value_taken d) (length us) us js r e) (λ us ms r e. members_taken (value d) (value_taken d) (length us) us ms r e) ts j r e

pub items_are : (d n : ℕ) (ts : List Token) (js : Items) (r : List Token) → items (value d) n ts ≡ Some (js, r) → ts ≡ items_tokens js ++ r
items_are d n ts js r e = items_taken (value d) (value_taken d) n ts js r e

pub members_are : (d n : ℕ) (ts : List Token) (ms : Members) (r : List Token) → members (value d) n ts ≡ Some (ms, r) → ts ≡ members_tokens ms ++ r
members_are d n ts ms r e = members_taken (value d) (value_taken d) n ts ms r e
