-- The bytes at the place of a part read as the part.
use Rattle.std.proofs.Common.{◌≡◌, ℕ, ◌+◌, ◌<◌, ◌≤◌, Bool, true, false, cond, List, [], ◌∷◌, ◌++◌, length, get_or, drop, nat_lt, Option, Some, None, option_map, option_and_then, Result, Ok, Err, IsUtf8, IsCharBoundary, refl, sym, ap, ◌∙◌, subst, arith, append-nil, length-append, take_at, drop_at}
use Rattle.std.proofs.lemmas.Bool.{ltb-false}
use Rattle.std.proofs.lemmas.List.{append_cancel_right}
use Rattle.std.proofs.lemmas.Str.{IsCharBoundary-after_ascii, IsCharBoundary-before_ascii, IsUtf8-drop, IsUtf8-from_is_utf8, IsUtf8-take}
use Rattle.std.specs.Str.{is_utf8}
use Rattle.json.specs.Json as json
use Rattle.json.specs.Lex.{fresh, tokens}
use Rattle.json.specs.Token.{Token}
use Rattle.json.specs.Tree.{depth, json_tokens}
use Rattle.json.proofs.Nesting.{value-depth}
use Rattle.json.proofs.Printed.Trees.{value-json_tokens}
use Rattle.json.proofs.Unique.Spelling.{value-json_tokens_back}
use Rattle.serde_json.specs.Read.{converted, max_depth, read}
use Rattle.flag_text.specs.Grammar.{tree_from}
use Rattle.flag_text.specs.Reading.{doc_of, if_json, json_of}
use Rattle.flag_text.specs.Shape.{Shape}
use Rattle.flag_text.specs.declared.fault.TextFault.{TextFault}
use Rattle.flag_text.specs.declared.fault.TextFault.TheVariants.{NotJson, TooLarge}
use Rattle.flag_text.proofs.Readings.{doc_of-utf8}
use Rattle.flag_text.proofs.Trees.{whole_and_more, whole_read, whole_refused}
use Rattle.text_spans.specs.Path.{Place, Stands, Step, place, place_of}
use Rattle.product_laws.specs.Part.{part_at}
use Rattle.product_laws.proofs.Places.{IsPart, json_part, part_stands}
use Rattle.product_laws.proofs.Steps.{EndsLow}
use Rattle.product_laws.proofs.Trees.{part_read}

-- ---- what a text is

-- a text that is read as a tree
pub record IsRead (text : List ℕ) (limit : ℕ) (t : Shape) : Type 0 where
  pub short : length text ≤ limit
  pub utf8 : IsUtf8 text
  pub value : if_json (read text) ≡ Ok t

read_of : (text : List ℕ) (limit : ℕ) (t : Shape) → doc_of text limit ≡ Ok t → IsRead text limit t
unfolding json_of
read_of text limit t e = by (nat_lt limit (length text)) (is_utf8 text) refl refl e
  where
    by : (long utf8 : Bool) → nat_lt limit (length text) ≡ long → is_utf8 text ≡ utf8 → cond long (Err TooLarge) (if_json (cond utf8 (read text) None)) ≡ Ok t → IsRead text limit t
    by true u h g f = cc
    by false false h g f = cc
    by false true h g f = record { short = ltb-false limit (length text) h; utf8 = IsUtf8-from_is_utf8 text g; value = f }

shape_or : Result Shape TextFault → Shape → Shape
shape_or (Ok t) u = t
shape_or (Err f) u = u

same_ok : (t u : Shape) (r : Result Shape TextFault) → r ≡ Ok t → r ≡ Ok u → t ≡ u
unfolding shape_or
same_ok t u r e f = ap (λ x. shape_or x t) (sym e ∙ f)

never : {P : Type 0} (t : Shape) (f : TextFault) → Err f ≡ Ok t → P
never t f e = cc

-- the value of a text, and its tree
pub record IsValue (text : List ℕ) (t : Shape) : Type 0 where
  pub json : json.Json
  pub tokens : tokens text ≡ json_tokens json
  pub shallow : depth json ≤ 127
  pub tree : tree_from json ≡ Some t

value_of : (text : List ℕ) (t : Shape) → if_json (read text) ≡ Ok t → IsValue text t
value_of text t e = by (json.value max_depth (tokens text)) refl
  where
    tree : (j : json.Json) (r : List Token) → json.value max_depth (tokens text) ≡ Some (j, r) → (o : Option Shape) → tree_from j ≡ o → IsValue text t
    tree j r is None none = never t NotJson (sym (whole_refused text (ap (converted tree_from) is ∙ ap (λ o. option_map (λ b. (b, r)) o) none)) ∙ e)
    tree j (k ∷ r) is (Some u) some = never t NotJson (sym (whole_and_more text u k r (ap (converted tree_from) is ∙ ap (λ o. option_map (λ b. (b, k ∷ r)) o) some)) ∙ e)
    tree j [] is (Some u) some =
        let same : u ≡ t = same_ok u t (if_json (read text)) (whole_read text u (ap (converted tree_from) is ∙ ap (λ o. option_map (λ b. (b, [])) o) some)) e in
        record {
          json = j;
          tokens = value-json_tokens_back max_depth (tokens text) [] j is ∙ append-nil (json_tokens j);
          shallow = value-depth max_depth (tokens text) [] j is;
          tree = some ∙ ap Some same;
        }

    by : (o : Option (json.Json × List Token)) → json.value max_depth (tokens text) ≡ o → IsValue text t
    by None is = never t NotJson (sym (whole_refused text (ap (converted tree_from) is)) ∙ e)
    by (Some q) is = tree q.0 q.1 is (tree_from q.0) refl

-- ---- the part

place_in : (text : List ℕ) (path : List Step) (j : json.Json) → tokens text ≡ json_tokens j → depth j ≤ 127 → place_of path text ≡ place path j text
place_in text path j is d =
    let e : json.document text ≡ Some j =
    ap (λ ts. option_and_then (λ p. json.if_last p.0 p.1) (json.value json.max_depth ts)) (is ∙ sym (append-nil (json_tokens j)))
    ∙ ap (option_and_then (λ p. json.if_last p.0 p.1)) (value-json_tokens j json.max_depth [] (omega (arith, d))) in
    ap (option_and_then (λ k. place path k text)) e

tree_back : (old : List ℕ) (i : json.Json) (v : Shape) → tokens old ≡ json_tokens i → depth i ≤ 127 → tree_from i ≡ Some v → if_json (read old) ≡ Ok v
tree_back old i v is d tree =
    whole_read old v
    (ap (λ ts. converted tree_from (json.value max_depth ts)) (is ∙ sym (append-nil (json_tokens i))) ∙ ap (converted tree_from) (value-json_tokens i max_depth [] d) ∙ ap (λ o. option_map (λ b. (b, [])) o) tree)

-- ---- its bytes as UTF-8

last_byte : (front back : List ℕ) (x : ℕ) → get_or ((front ++ x ∷ []) ++ back) (length front) 0 ≡ x
last_byte [] back x = refl
last_byte (y ∷ front) back x = last_byte front back x

utf8_part : (front old back : List ℕ) → IsUtf8 (front ++ (old ++ back)) → EndsLow old → get_or (old ++ back) 0 0 < 128 → IsUtf8 old
utf8_part front old back u low first =
    let text = front ++ (old ++ back) in
    let n = length front in
    let some : length old ≡ length low.front + 1 = ap length low.is ∙ length-append low.front (low.last ∷ []) in
    let inside : n < length text = omega (arith, some, length-append front (old ++ back), length-append old back) in
    let rest : drop n text ≡ old ++ back = drop_at front (old ++ back) n refl in
    let byte : get_or text n 0 < 128 = subst (λ (k : ℕ). k < 128) (sym (first_is front)) first in
    let behind : IsUtf8 (old ++ back) = subst (λ (l : List ℕ). IsUtf8 l) rest (IsUtf8-drop text n u (IsCharBoundary-before_ascii text n inside byte)) in
    let m = length low.front in
    let last : get_or (old ++ back) m 0 ≡ low.last = ap (λ l. get_or (l ++ back) m 0) low.is ∙ last_byte low.front back low.last in
    let small : get_or (old ++ back) m 0 < 128 = subst (λ (k : ℕ). k < 128) (sym last) low.low in
    let edge : IsCharBoundary (old ++ back) (m + 1) = IsCharBoundary-after_ascii (old ++ back) m behind (omega (arith, some, length-append old back)) small in
    subst (λ (l : List ℕ). IsUtf8 l) (take_at old back (m + 1) some) (IsUtf8-take (old ++ back) (m + 1) behind edge)
  where
    first_is : (f : List ℕ) → get_or (f ++ (old ++ back)) (length f) 0 ≡ get_or (old ++ back) 0 0
    first_is [] = refl
    first_is (x ∷ f) = first_is f

-- ---- the whole

-- The bytes at the place of a part of a text's value are a text whose tree is that of the part.
pub part_bytes : (text : List ℕ) (limit : ℕ) (path : List Step) (front old back : List ℕ) (j : json.Json) → length text ≤ limit → IsUtf8 text → tokens text ≡ json_tokens j → depth j ≤ 127 → Stands text path front old back
    → (i : json.Json) × (json_part path j ≡ Some i) × ((v : Shape) → tree_from i ≡ Some v → doc_of old limit ≡ Ok v)
part_bytes text limit path front old back j short_text utf8_text tokens_are shallow stands =
    go (place path j text) (part_stands path j 127 [] fresh text shallow (tokens_are ∙ sym (append-nil (json_tokens j)))) (sym (place_in text path j tokens_are shallow) ∙ stands.there)
  where
    go : (o : Option Place) → IsPart 127 o (json_part path j) → o ≡ Some (old ++ back, back) → (i : json.Json) × (json_part path j ≡ Some i) × ((v : Shape) → tree_from i ≡ Some v → doc_of old limit ≡ Ok v)
    go None h is = cc
    go (Some q) h is =
        let from : q.0 ≡ old ++ back = cc in
        let behind : q.1 ≡ back = cc in
        let same : h.1 ≡ old = append_cancel_right h.1 old back (ap (λ l. h.1 ++ l) (sym behind) ∙ sym h.3 ∙ from) in
        let low : EndsLow old = subst (λ (l : List ℕ). EndsLow l) same h.5 in
        let first : get_or (old ++ back) 0 0 < 128 = subst (λ (l : List ℕ). get_or l 0 0 < 128) from h.6 in
        let utf8 : IsUtf8 old = utf8_part front old back (subst (λ (l : List ℕ). IsUtf8 l) stands.whole utf8_text) low first in
        let short : length old ≤ limit = omega (arith, ap length stands.whole, length-append front (old ++ back), length-append old back, short_text) in
        (h.0, h.2, λ v tree. doc_of-utf8 old limit short utf8 ∙ tree_back old h.0 v (ap tokens (sym same) ∙ h.4) h.7 tree)

pub bytes_read : (text : List ℕ) (limit : ℕ) (path : List Step) (front old back : List ℕ) (t : Shape) → doc_of text limit ≡ Ok t → Stands text path front old back
    → (part : Shape) × (part_at path t ≡ Some part) × (doc_of old limit ≡ Ok part)
bytes_read text limit path front old back t e stands =
    let r : IsRead text limit t = read_of text limit t e in
    let v : IsValue text t = value_of text t r.value in
    let p = part_bytes text limit path front old back v.json r.short r.utf8 v.tokens v.shallow stands in
    let part = part_read path v.json t p.0 v.tree p.1 in
    (part.0, part.2, p.2 part.0 part.1)
