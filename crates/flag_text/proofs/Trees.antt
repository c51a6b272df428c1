-- The tree of a value of the grammar is that of the data that `serde_json` reads.
use Rattle.std.proofs.Common.{◌≡◌, ℕ, List, [], ◌∷◌, Option, Some, None, Ok, Err, option_map, option_and_then, Ordering, Less, Equal, Greater, refl, sym, ap, ◌∙◌}
use Rattle.std.specs.Ordering.{nat_cmp, match_ordering}
use Rattle.std.specs.Cmp.Lexicographic.{slice_cmp}
use Rattle.json.specs.Json as json
use Rattle.json.specs.Lex.{tokens}
use Rattle.json.specs.Token.{Token}
use Rattle.serde_json.specs.Data as parsed
use Rattle.serde_json.specs.Read.{of_json, of_items, of_members, number_of, max_depth, read, converted}
use Rattle.flag_text.specs.Grammar.{put, tree_from, items_from, members_from, value_in}
use Rattle.flag_text.specs.Reading.{number_shape, shape_of, items_shape, members_shape, if_json}
use Rattle.flag_text.specs.Shape.{Shape, list, object, item, member}
use Rattle.flag_text.specs.declared.fault.TextFault.TheVariants.{NotJson}
use Rattle.flag_text.proofs.Turns.{converted_some, refused}

placed : (o : Ordering) (a b c : parsed.Members) → members_shape (match_ordering o a b c) ≡ match_ordering o (members_shape a) (members_shape b) (members_shape c)
placed Less a b c = refl
placed Equal a b c = refl
placed Greater a b c = refl

put-members_shape : (k : List ℕ) (d : parsed.Data) (ms : parsed.Members) → put k (shape_of d) (members_shape ms) ≡ members_shape (parsed.put k d ms)
put-members_shape k d parsed.no_members = refl
put-members_shape k d (parsed.member l e ms) =
    ap (λ rest. match_ordering (slice_cmp nat_cmp k l) (member k (shape_of d) (member l (shape_of e) (members_shape ms))) (member l (shape_of d) (members_shape ms)) (member l (shape_of e) rest)) (put-members_shape k d ms)
    ∙ sym (placed (slice_cmp nat_cmp k l) (parsed.member k d (parsed.member l e ms)) (parsed.member l d ms) (parsed.member l e (parsed.put k d ms)))

twice : {A B C D : Type 0} (f : A → B) (g : B → D) (h : A → C) (k : C → D) → ((a : A) → g (f a) ≡ k (h a)) → (o : Option A) → option_map g (option_map f o) ≡ option_map k (option_map h o)
twice f g h k same None = refl
twice f g h k same (Some a) = ap Some (same a)

after : {A B C D : Type 0} (f : A → B) (g : B → Option D) (h : C → D) (k : A → Option C) → ((a : A) → g (f a) ≡ option_map h (k a)) → (o : Option A) → option_and_then g (option_map f o) ≡ option_map h (option_and_then k o)
after f g h k same None = refl
after f g h k same (Some a) = same a

numbers : (o : Option parsed.Num) → option_map number_shape o ≡ option_map shape_of (option_map parsed.number o)
numbers None = refl
numbers (Some n) = refl

mutual
  tree_from-data : (j : json.Json) → tree_from j ≡ option_map shape_of (of_json j)
  tree_from-data json.null = refl
  tree_from-data (json.boolean b) = refl
  tree_from-data (json.number s) = numbers (number_of s)
  tree_from-data (json.string s) = refl
  tree_from-data (json.array js) = ap (option_map list) (items_from-data js) ∙ twice items_shape list parsed.array shape_of (λ ds. refl) (of_items js)
  tree_from-data (json.object ms) = ap (option_map object) (members_from-data ms parsed.no_members) ∙ twice members_shape object parsed.object shape_of (λ ds. refl) (of_members ms parsed.no_members)

  items_from-data : (js : json.Items) → items_from js ≡ option_map items_shape (of_items js)
  items_from-data json.no_items = refl
  items_from-data (json.item j js) =
      ap (option_and_then (λ t. option_map (item t) (items_from js))) (tree_from-data j)
      ∙ after shape_of (λ t. option_map (item t) (items_from js)) items_shape (λ d. option_map (parsed.item d) (of_items js))
      (λ d. ap (option_map (item (shape_of d))) (items_from-data js) ∙ twice items_shape (item (shape_of d)) (parsed.item d) items_shape (λ ds. refl) (of_items js)) (of_json j)

  members_from-data : (ms : json.Members) (found : parsed.Members) → members_from ms (members_shape found) ≡ option_map members_shape (of_members ms found)
  members_from-data json.no_members found = refl
  members_from-data (json.member k j ms) found =
      ap (option_and_then (λ t. members_from ms (put k t (members_shape found)))) (tree_from-data j)
      ∙ after shape_of (λ t. members_from ms (put k t (members_shape found))) members_shape (λ d. of_members ms (parsed.put k d found))
      (λ d. ap (members_from ms) (put-members_shape k d found) ∙ members_from-data ms (parsed.put k d found)) (of_json j)

-- ---- the whole text

abbrev whole : Option (json.Json × List Token) → Option parsed.Data
whole o = option_and_then of_json (option_and_then (λ p. json.if_last p.0 p.1) o)

shaped : (o : Option parsed.Data) (t : Shape) → option_map shape_of o ≡ Some t → if_json o ≡ Ok t
shaped None t e = cc
shaped (Some d) t e = let same : shape_of d ≡ t = cc in ap Ok same

unshaped : (o : Option parsed.Data) → option_map shape_of o ≡ None → o ≡ None
unshaped None e = refl
unshaped (Some d) e = cc

pub whole_read : (text : List ℕ) (t : Shape) → converted tree_from (json.value max_depth (tokens text)) ≡ Some (t, []) → if_json (read text) ≡ Ok t
whole_read text t e =
    let j = converted_some tree_from (json.value max_depth (tokens text)) t [] e in
    ap (λ o. if_json (whole o)) j.1 ∙ shaped (of_json j.0) t (sym (tree_from-data j.0) ∙ j.2)

pub whole_and_more : (text : List ℕ) (t : Shape) (next : Token) (rest : List Token) → converted tree_from (json.value max_depth (tokens text)) ≡ Some (t, next ∷ rest) → if_json (read text) ≡ Err NotJson
whole_and_more text t next rest e = ap (λ o. if_json (whole o)) (converted_some tree_from (json.value max_depth (tokens text)) t (next ∷ rest) e).1

none_read : (o : Option (json.Json × List Token)) → converted tree_from o ≡ None → whole o ≡ None
none_read None e = refl
none_read (Some (j, [])) e = unshaped (of_json j) (sym (tree_from-data j) ∙ refused [] (tree_from j) e)
none_read (Some (j, t ∷ r)) e = refl

pub whole_refused : (text : List ℕ) → converted tree_from (json.value max_depth (tokens text)) ≡ None → if_json (read text) ≡ Err NotJson
whole_refused text e = ap if_json (none_read (json.value max_depth (tokens text)) e)

-- what a text reads as is the tree of its value
pub tree_reads : (text : List ℕ) → option_map shape_of (read text) ≡ option_and_then tree_from (value_in text)
tree_reads text = go (value_in text)
  where
    go : (o : Option json.Json) → option_map shape_of (option_and_then of_json o) ≡ option_and_then tree_from o
    go None = refl
    go (Some j) = sym (tree_from-data j)
