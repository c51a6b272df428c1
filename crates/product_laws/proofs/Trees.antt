-- The tree of a part of a value is the part of its tree.
use Rattle.std.proofs.Common.{◌≡◌, ℕ, zero, suc, Bool, true, false, cond, List, [], ◌∷◌, Option, Some, None, option_map, option_and_then, Ordering, Less, Equal, Greater, bytes_eq, refl, sym, ap, ◌∙◌, true≢false}
use Rattle.std.proofs.lemmas.Map.Text.{is_eq-slice_cmp}
use Rattle.std.proofs.lemmas.Slice.Eq.{bytes_eq-Decides}
use Rattle.std.specs.Cmp.Lexicographic.{slice_cmp}
use Rattle.std.specs.Ordering.{is_eq, match_ordering, nat_cmp}
use Rattle.json.specs.Json as json
use Rattle.flag_text.specs.Grammar.{items_from, members_from, put, tree_from}
use Rattle.flag_text.specs.Readers.{find_member}
use Rattle.flag_text.specs.Shape.{Shape, Items, Members, item, list, member, no_members, object}
use Rattle.text_spans.specs.Path.{Step, index, name}
use Rattle.product_laws.specs.Part.{item_at, part_at}
use Rattle.product_laws.proofs.Places.{item_part, json_part, member_part}

-- ---- what was mapped

mapped : {A B : Type 0} (f : A → B) (o : Option A) (b : B) → option_map f o ≡ Some b → (a : A) × (o ≡ Some a) × (f a ≡ b)
mapped f None b e = cc
mapped f (Some a) b e = (a, refl, cc)

chained : {A B : Type 0} (f : A → Option B) (o : Option A) (b : B) → option_and_then f o ≡ Some b → (a : A) × (o ≡ Some a) × (f a ≡ Some b)
chained f None b e = cc
chained f (Some a) b e = (a, refl, e)

same_some : {A : Type 0} (a b : A) → Some a ≡ Some b → a ≡ b
same_some a b e = cc

-- ---- the member of a name after one was put

alike : (l m : List ℕ) (o : Ordering) → slice_cmp nat_cmp l m ≡ o → bytes_eq l m ≡ is_eq o
alike l m o e = sym (is_eq-slice_cmp l m) ∙ ap is_eq e

equal : (l m : List ℕ) → bytes_eq l m ≡ true → l ≡ m
equal l m e = (bytes_eq-Decides l m).0 e

module _ (k l : List ℕ) (t : Shape) where
  put_here : bytes_eq l k ≡ true → (ms : Members) → find_member k (put l t ms) ≡ Some t
  put_here same no_members = ap (λ b. cond b (Some t) None) same
  put_here same (member m u ms) = by (slice_cmp nat_cmp l m) refl (put_here same ms)
    where
      by : (o : Ordering) → slice_cmp nat_cmp l m ≡ o → find_member k (put l t ms) ≡ Some t → find_member k (match_ordering o (member l t (member m u ms)) (member m t ms) (member m u (put l t ms))) ≡ Some t
      by Less e more = ap (λ b. cond b (Some t) (find_member k (member m u ms))) same
      by Equal e more = ap (λ b. cond b (Some t) (find_member k ms)) (ap (λ n. bytes_eq n k) (sym (equal l m (alike l m Equal e))) ∙ same)
      by Greater e more = rest (bytes_eq m k) refl
        where
          rest : (b : Bool) → bytes_eq m k ≡ b → cond b (Some u) (find_member k (put l t ms)) ≡ Some t
          rest false h = more
          rest true h = absurd (true≢false (sym same ∙ ap (λ n. bytes_eq l n) (sym (equal m k h)) ∙ alike l m Greater e))

  put_there : bytes_eq l k ≡ false → (ms : Members) → find_member k (put l t ms) ≡ find_member k ms
  put_there other no_members = ap (λ b. cond b (Some t) None) other
  put_there other (member m u ms) = by (slice_cmp nat_cmp l m) refl (put_there other ms)
    where
      by : (o : Ordering) → slice_cmp nat_cmp l m ≡ o → find_member k (put l t ms) ≡ find_member k ms
          → find_member k (match_ordering o (member l t (member m u ms)) (member m t ms) (member m u (put l t ms))) ≡ find_member k (member m u ms)
      by Less e more = ap (λ b. cond b (Some t) (find_member k (member m u ms))) other
      by Equal e more =
          let not_here : bytes_eq m k ≡ false = ap (λ n. bytes_eq n k) (sym (equal l m (alike l m Equal e))) ∙ other in
          ap (λ b. cond b (Some t) (find_member k ms)) not_here ∙ sym (ap (λ b. cond b (Some u) (find_member k ms)) not_here)
      by Greater e more = ap (λ o. cond (bytes_eq m k) (Some u) o) more

-- ---- the part of a tree

-- the part that was found is the part of the member of the name
abbrev Held : List ℕ → List Step → Option json.Json → Members → Type 0
Held k path found ms = (i : json.Json) → found ≡ Some i → (v : Shape) × (tree_from i ≡ Some v) × (option_and_then (part_at path) (find_member k ms) ≡ Some v)

held_either : (k l : List ℕ) (path : List Step) (found here : Option json.Json) (t : Shape) (ms : Members) → Held k path found ms
    → ((i : json.Json) → here ≡ Some i → (v : Shape) × (tree_from i ≡ Some v) × (part_at path t ≡ Some v)) → Held k path (cond (bytes_eq l k) here found) (put l t ms)
held_either k l path found here t ms h g = by (bytes_eq l k) refl
  where
    by : (b : Bool) → bytes_eq l k ≡ b → Held k path (cond b here found) (put l t ms)
    by true e i is = let v = g i is in (v.0, v.1, ap (option_and_then (part_at path)) (put_here k l t e ms) ∙ v.2)
    by false e i is = let v = h i is in (v.0, v.1, ap (option_and_then (part_at path)) (put_there k l t e ms) ∙ v.2)

mutual
  pub part_read : (path : List Step) (j : json.Json) (u : Shape) (i : json.Json) → tree_from j ≡ Some u → json_part path j ≡ Some i → (v : Shape) × (tree_from i ≡ Some v) × (part_at path u ≡ Some v)
  part_read [] j u i e f = (u, ap tree_from (sym (same_some j i f)) ∙ e, refl)
  part_read (index n ∷ path) (json.array js) u i e f =
      let ts = mapped list (items_from js) u e in
      let v = item_read n path js ts.0 i ts.1 f in
      (v.0, v.1, ap (part_at (index n ∷ path)) (sym ts.2) ∙ v.2)
  part_read (name k ∷ path) (json.object ms) u i e f =
      let us = mapped object (members_from ms no_members) u e in
      let v = member_read k path ms us.0 no_members None i us.1 f (λ i is. cc) in
      (v.0, v.1, ap (part_at (name k ∷ path)) (sym us.2) ∙ v.2)
  part_read (name k ∷ path) (json.array js) u i e f = cc
  part_read (index n ∷ path) (json.object ms) u i e f = cc
  part_read (name k ∷ path) json.null u i e f = cc
  part_read (index n ∷ path) json.null u i e f = cc
  part_read (name k ∷ path) (json.boolean b) u i e f = cc
  part_read (index n ∷ path) (json.boolean b) u i e f = cc
  part_read (name k ∷ path) (json.number s) u i e f = cc
  part_read (index n ∷ path) (json.number s) u i e f = cc
  part_read (name k ∷ path) (json.string s) u i e f = cc
  part_read (index n ∷ path) (json.string s) u i e f = cc

  item_read : (n : ℕ) (path : List Step) (js : json.Items) (ts : Items) (i : json.Json) → items_from js ≡ Some ts → item_part n path js ≡ Some i → (v : Shape) × (tree_from i ≡ Some v) × (option_and_then (part_at path) (item_at n ts) ≡ Some v)
  item_read zero path json.no_items ts i e f = cc
  item_read (suc n) path json.no_items ts i e f = cc
  item_read zero path (json.item j js) ts i e f =
      let t = chained (λ t. option_map (item t) (items_from js)) (tree_from j) ts e in
      let us = mapped (item t.0) (items_from js) ts t.2 in
      let v = part_read path j t.0 i t.1 f in
      (v.0, v.1, ap (λ l. option_and_then (part_at path) (item_at zero l)) (sym us.2) ∙ v.2)
  item_read (suc n) path (json.item j js) ts i e f =
      let t = chained (λ t. option_map (item t) (items_from js)) (tree_from j) ts e in
      let us = mapped (item t.0) (items_from js) ts t.2 in
      let v = item_read n path js us.0 i us.1 f in
      (v.0, v.1, ap (λ l. option_and_then (part_at path) (item_at (suc n) l)) (sym us.2) ∙ v.2)

  member_read : (k : List ℕ) (path : List Step) (ms : json.Members) (us : Members) (acc : Members) (found : Option json.Json) (i : json.Json) → members_from ms acc ≡ Some us → member_part k path ms found ≡ Some i
      → Held k path found acc → (v : Shape) × (tree_from i ≡ Some v) × (option_and_then (part_at path) (find_member k us) ≡ Some v)
  member_read k path json.no_members us acc found i e f h = let v = h i f in (v.0, v.1, ap (λ m. option_and_then (part_at path) (find_member k m)) (sym (same_some acc us e)) ∙ v.2)
  member_read k path (json.member l j ms) us acc found i e f h =
      let t = chained (λ t. members_from ms (put l t acc)) (tree_from j) us e in
      member_read k path ms us (put l t.0 acc) _ i t.2 f (held_either k l path found (json_part path j) t.0 acc h (λ i is. part_read path j t.0 i t.1 is))
