-- From the place of a value to the bytes of a text.
use Rattle.std.proofs.Common.{◌≡◌, ℕ, zero, suc, ◌+◌, ◌-◌, ◌≤◌, Bool, true, false, cond, List, [], ◌∷◌, ◌++◌, length, take, drop, Option, Some, None, IsSome, option_and_then, refl, sym, ap, ◌∙◌, subst, arith}
use Rattle.std.proofs.lemmas.Bool.{false≢true}
use Rattle.std.proofs.lemmas.List.{drop-drop, length-drop, take-append-drop}
use Rattle.std.specs.Str.{bytes_eq}
use Rattle.json.specs.Token.{Token}
use Rattle.json.specs.Lex.{tokens}
use Rattle.json.specs.Json.{Json, null, boolean, number, string, array, object, Items, no_items, item, Members, no_members, member, document, if_last, max_depth, value}
use Rattle.json.specs.Tree.{items_tokens, members_tokens}
use Rattle.text_spans.specs.Place.{IsEnd, behind, from_token}
use Rattle.text_spans.proofs.Going.{behind_end, behind_start, from_token_end}
use Rattle.text_spans.proofs.Lexing.{end_end}
use Rattle.text_spans.specs.Path.{Place, Stands, Step, name, index, token_count, place, item_place, member_place, place_of}

-- ---- a place is an end of its text, and what is behind it an end of it

abbrev AreEnds : List ℕ → Option Place → Type 0
AreEnds t None = Unit {0}
AreEnds t (Some p) = IsEnd p.0 t × IsEnd p.1 p.0

ends_in : (t whole : List ℕ) (o : Option Place) → IsEnd t whole → AreEnds t o → AreEnds whole o
ends_in t whole None at h = tt
ends_in t whole (Some p) at h = (end_end p.0 t whole h.0 at, h.1)

either_place : (b : Bool) (t : List ℕ) (o p : Option Place) → AreEnds t o → AreEnds t p → AreEnds t (cond b o p)
either_place true t o p x y = x
either_place false t o p x y = y

some_tokens : (j : Json) → (n : ℕ) × (token_count j ≡ suc n)
some_tokens null = (0, refl)
some_tokens (boolean b) = (0, refl)
some_tokens (number s) = (0, refl)
some_tokens (string s) = (0, refl)
some_tokens (array js) = (length (items_tokens js), refl)
some_tokens (object ms) = (length (members_tokens ms), refl)

whole_ends : (j : Json) (t : List ℕ) → AreEnds t (Some (from_token t, behind (token_count j) t))
whole_ends j t = let n = some_tokens j in (from_token_end t, subst (λ (k : ℕ). IsEnd (behind k t) (from_token t)) (sym n.1) (behind_start n.0 t))

mutual
  pub place_ends : (path : List Step) (j : Json) (t : List ℕ) → AreEnds t (place path j t)
  place_ends [] j t = whole_ends j t
  place_ends (index i ∷ path) (array js) t = ends_in (behind 1 t) t _ (behind_end 1 t) (item_ends i path js (behind 1 t))
  place_ends (name k ∷ path) (object ms) t = member_ends k path ms None (behind 1 t) t (behind_end 1 t) tt
  place_ends (name k ∷ path) (array js) t = tt
  place_ends (index i ∷ path) (object ms) t = tt
  place_ends (name k ∷ path) null t = tt
  place_ends (index i ∷ path) null t = tt
  place_ends (name k ∷ path) (boolean b) t = tt
  place_ends (index i ∷ path) (boolean b) t = tt
  place_ends (name k ∷ path) (number s) t = tt
  place_ends (index i ∷ path) (number s) t = tt
  place_ends (name k ∷ path) (string s) t = tt
  place_ends (index i ∷ path) (string s) t = tt

  pub item_ends : (i : ℕ) (path : List Step) (js : Items) (t : List ℕ) → AreEnds t (item_place i path js t)
  item_ends zero path no_items t = tt
  item_ends (suc i) path no_items t = tt
  item_ends zero path (item j js) t = place_ends path j t
  item_ends (suc i) path (item j js) t = ends_in (behind (token_count j) t) t _ (behind_end (token_count j) t) (item_ends i path js (behind (token_count j) t))

  pub member_ends : (k : List ℕ) (path : List Step) (ms : Members) (found : Option Place) (t whole : List ℕ) → IsEnd t whole → AreEnds whole found → AreEnds whole (member_place k path ms found t)
  member_ends k path no_members found t whole at h = h
  member_ends k path (member l j ms) found t whole at h =
      let n = suc (token_count j) in
      let here = ends_in (behind 1 t) whole _ (end_end (behind 1 t) t whole (behind_end 1 t) at) (place_ends path j (behind 1 t)) in
      member_ends k path ms (cond (bytes_eq l k) (place path j (behind 1 t)) found) (behind n t) whole (end_end (behind n t) t whole (behind_end n t) at) (either_place (bytes_eq l k) whole _ _ here h)

there_ends : (path : List Step) (text : List ℕ) (o : Option Json) → AreEnds text (option_and_then (λ j. place path j text) o)
there_ends path text None = tt
there_ends path text (Some j) = place_ends path j text

-- ---- the reading of a text

if_value : (o : Option (Json × List Token)) (j : Json) → option_and_then (λ p. if_last p.0 p.1) o ≡ Some j → o ≡ Some (j, [])
if_value None j e = cc
if_value (Some q) j e = go q.0 q.1 refl e
  where
    go : (k : Json) (ts : List Token) → Some q ≡ Some (k, ts) → if_last k ts ≡ Some j → Some q ≡ Some (j, [])
    go k [] is f = is ∙ (let same : k ≡ j = cc in ap (λ x. Some (x, [])) same)
    go k (t ∷ ts) is f = cc

read_as : (o : Option Json) → IsSome o → (j : Json) × (o ≡ Some j)
read_as None h = absurd (false≢true h)
read_as (Some j) h = (j, refl)

module _ (text : List ℕ) (path : List Step) (reader new : List Token) (rest : List ℕ) (o : Option Place) where
  -- what the tokens of a text lead to
  pub is_there : IsSome (document text) → reader ≡ tokens text → rest ≡ text
      → ((d : ℕ) (j : Json) (r : List Token) → value d reader ≡ Some (j, r) → (new ≡ r) × (o ≡ place path j rest)) → o ≡ place_of path text
  is_there valid at same found =
      let j = read_as (document text) valid in
      let read : value max_depth reader ≡ Some (j.0, []) = ap (value max_depth) at ∙ if_value (value max_depth (tokens text)) j.0 j.1 in
      (found max_depth j.0 [] read).1 ∙ ap (place path j.0) same ∙ ap (option_and_then (λ k. place path k text)) (sym j.1)

pub not_there : (text : List ℕ) (path : List Step) → (IsSome (document text) → ⊥) → None ≡ place_of path text
not_there text path bad = go (document text) refl
  where
    go : (o : Option Json) → document text ≡ o → None ≡ place_of path text
    go None e = ap (option_and_then (λ j. place path j text)) (sym e)
    go (Some j) e = absurd (bad (subst (λ (o : Option Json). IsSome o) (sym e) refl))

-- ---- the bytes

cut : (whole t : List ℕ) → IsEnd t whole → (length t ≤ length whole) × (drop (length whole - length t) whole ≡ t)
cut whole t (n, le, e) =
    let long : length t ≡ length whole - n = ap length e ∙ length-drop n whole in
    let at : length whole - length t ≡ n = omega (arith, le, long) in
    (omega (arith, le, long), ap (λ k. drop k whole) at ∙ sym e)

-- the place `p` of a text, from one byte up to another
pub record Cut (text : List ℕ) (from back : List ℕ) : Type 0 where
  pub start : length from ≤ length text
  pub end : length back ≤ length text
  pub rises : length text - length from ≤ length text - length back
  pub first : drop (length text - length from) text ≡ from
  pub last : drop (length text - length back) text ≡ back

pub there_cut : (text : List ℕ) (path : List Step) (from back : List ℕ) → Some (from, back) ≡ place_of path text → Cut text from back
there_cut text path from back e =
    let ends = subst (AreEnds text) (sym e) (there_ends path text (document text)) in
    let a = cut text from ends.0 in
    let b = cut text back (end_end back from text ends.1 ends.0) in
    let c = cut from back ends.1 in
    record { start = a.0; end = b.0; rises = omega (arith, a.0, b.0, c.0); first = a.1; last = b.1 }

parts : (text : List ℕ) (a b : ℕ) → a ≤ b → take (b - a) (drop a text) ++ drop b text ≡ drop a text
parts text a b le =
    let n : b ≡ a + (b - a) = omega (arith, le) in
    ap (λ l. take (b - a) (drop a text) ++ l) (ap (λ k. drop k text) n ∙ sym (drop-drop (b - a) a text)) ∙ take-append-drop (b - a) (drop a text)

pub stands_there : (text : List ℕ) (path : List Step) (a b : ℕ) → a ≤ b → Some (drop a text, drop b text) ≡ place_of path text → Stands text path (take a text) (take (b - a) (drop a text)) (drop b text)
stands_there text path a b le e = record {
  whole = sym (ap (λ l. take a text ++ l) (parts text a b le) ∙ take-append-drop a text);
  there = sym e ∙ ap (λ l. Some (l, drop b text)) (sym (parts text a b le));
}

pub stands_nowhere : (text : List ℕ) (path : List Step) → None ≡ place_of path text → (front old back : List ℕ) → Stands text path front old back → ⊥
stands_nowhere text path e front old back s = let never : None ≡ Some (old ++ back, back) = e ∙ s.there in cc

pub dropped : (text from back : List ℕ) (path : List Step) → Some (from, back) ≡ place_of path text
    → Some (drop (length text - length from) text, drop (length text - length back) text) ≡ place_of path text
dropped text from back path e =
    let at = there_cut text path from back e in
    ap (λ l. Some (l, drop (length text - length back) text)) at.first ∙ ap (λ l. Some (from, l)) at.last ∙ e
