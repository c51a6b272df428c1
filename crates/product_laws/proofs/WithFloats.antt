-- What is replaced in a document with floats reads as the items of a list of its tree.
use Rattle.std.proofs.Common.{◌≡◌, ◌∙◌, ◌≤◌, ℕ, Bool, true, false, cond, ◌&&◌, List, [], ◌∷◌, ◌++◌, codes, length, nat_lt, Option, Some, None, option_and_then, Ok, Err, IsUtf8, refl, sym, ap, ap₂, subst, append-nil}
use Rattle.std.proofs.lemmas.Bool.{ltb-false}
use Rattle.std.proofs.lemmas.Slice.Eq.{bytes_eq-Decides}
use Rattle.std.proofs.lemmas.Str.{IsUtf8-from_is_utf8}
use Rattle.std.specs.Map.{lookup}
use Rattle.std.specs.Str.{bytes_eq, is_utf8}
use Rattle.flag_defs.specs.Document.{max_bytes}
use Rattle.flag_defs.specs.Flag.{targeting_in}
use Rattle.flag_text.specs.Grammar.{tree_from, value_in}
use Rattle.flag_text.specs.Reading.{json_levels}
use Rattle.flag_text.specs.Shape.{Shape, list, Items}
use Rattle.flag_text.specs.declared.fault.TextFault.TheVariants.{NotJson, TooLarge}
use Rattle.spelled_numbers.specs.Floats.{each_member, has_floats, in_object, of_document, of_flag, of_flags, of_variants, with_texts}
use Rattle.spelled_numbers.specs.Reading.{doc_with_floats, if_tree}
use Rattle.json.proofs.Nesting.{value-depth}
use Rattle.json.proofs.Unique.Spelling.{value-json_tokens_back}
use Rattle.json.specs.Json as json
use Rattle.json.specs.Json.{Json}
use Rattle.json.specs.Lex.{tokens}
use Rattle.json.specs.Token.{Token}
use Rattle.json.specs.Tree.{depth, json_tokens}
use Rattle.product_laws.proofs.Parts.{part_bytes}
use Rattle.product_laws.proofs.Places.{json_part, member_part}
use Rattle.product_laws.proofs.Trees.{part_read}
use Rattle.product_laws.specs.Part.{item_at, part_at}
use Rattle.kept_document.specs.Place.{buckets, site_place, targeting_path}
use Rattle.text_spans.specs.Path.{Step, name, index}
use Rattle.product_laws.specs.Replaced.{ReplacedWithFloatsIsRead}
use Rattle.product_laws.proofs.Followed.{part_append, place_listed, place_within}
use Rattle.product_laws.proofs.Replaced.{AreRead, IsFound, none_more, put_by}

-- ---- its targetings are those of the document

module _ (f : List ℕ → Json → Json) (k : List ℕ) (path : List Step) (same : (l : List ℕ) (j : Json) → bytes_eq l k ≡ true → json_part path (f l j) ≡ json_part path j) where
  members_same : (ms : json.Members) (found : Option Json) → member_part k path (each_member f ms) found ≡ member_part k path ms found
  members_same json.no_members found = refl
  members_same (json.member l j ms) found =
      members_same ms (cond (bytes_eq l k) (json_part path (f l j)) found) ∙ ap (λ (o : Option Json). member_part k path ms o) (by (bytes_eq l k) refl)
    where
      by : (b : Bool) → bytes_eq l k ≡ b → cond b (json_part path (f l j)) found ≡ cond b (json_part path j) found
      by true e = same l j e
      by false e = refl

  object_same : (j : Json) → json_part (name k ∷ path) (in_object f j) ≡ json_part (name k ∷ path) j
  object_same (json.object ms) = members_same ms None
  object_same json.null = refl
  object_same (json.boolean b) = refl
  object_same (json.number s) = refl
  object_same (json.string s) = refl
  object_same (json.array js) = refl

not_variants : (l : List ℕ) → bytes_eq l (codes "targeting") ≡ true → bytes_eq l (codes "variants") ≡ false
not_variants l e = ap (λ (x : List ℕ). bytes_eq x (codes "variants")) ((bytes_eq-Decides l (codes "targeting")).0 e)

flag_same : (path : List Step) (l : List ℕ) (j : Json) → bytes_eq l (codes "targeting") ≡ true → json_part path (of_flag l j) ≡ json_part path j
flag_same path l j e = ap (λ (b : Bool). json_part path (cond (b && has_floats j) (in_object of_variants j) j)) (not_variants l e)

flags_same : (path : List Step) (key l : List ℕ) (j : Json) → bytes_eq l key ≡ true → json_part (name (codes "targeting") ∷ path) (of_flags l j) ≡ json_part (name (codes "targeting") ∷ path) j
flags_same path key l j e = object_same of_flag (codes "targeting") path (flag_same path) j

document_same : (path : List Step) (key l : List ℕ) (j : Json) → bytes_eq l (codes "flags") ≡ true
    → json_part (name key ∷ name (codes "targeting") ∷ path) (of_document l j) ≡ json_part (name key ∷ name (codes "targeting") ∷ path) j
document_same path key l j e = by (bytes_eq l (codes "flags"))
  where
    by : (b : Bool) → json_part (name key ∷ name (codes "targeting") ∷ path) (cond b (in_object of_flags j) j) ≡ json_part (name key ∷ name (codes "targeting") ∷ path) j
    by true = object_same of_flags key (name (codes "targeting") ∷ path) (flags_same path key) j
    by false = refl

texts_same : (path : List Step) (key : List ℕ) (j : Json) → json_part (targeting_path key ++ path) (with_texts j) ≡ json_part (targeting_path key ++ path) j
texts_same path key j = object_same of_document (codes "flags") (name key ∷ name (codes "targeting") ∷ path) (document_same path key) j

-- ---- its value

-- the value of a text, and its tree with floats
record IsRead (text : List ℕ) (limit : ℕ) (t : Shape) : Type 0 where
  pub short : length text ≤ limit
  pub utf8 : IsUtf8 text
  pub json : Json
  pub tokens : tokens text ≡ json_tokens json
  pub shallow : depth json ≤ 127
  pub tree : tree_from (with_texts json) ≡ Some t

same_value : (i j : Json) (r : List Token) → json.if_last i r ≡ Some j → (r ≡ []) × (i ≡ j)
same_value i j [] h = (refl, cc)
same_value i j (k ∷ r) h = cc

value_alone : (text : List ℕ) (j : Json) → value_in text ≡ Some j → json.value json_levels (tokens text) ≡ Some (j, [])
value_alone text j h = by (json.value json_levels (tokens text)) refl h
  where
    by : (o : Option (Json × List Token)) → json.value json_levels (tokens text) ≡ o → option_and_then (λ p. json.if_last p.0 p.1) o ≡ Some j → json.value json_levels (tokens text) ≡ Some (j, [])
    by None is e = cc
    by (Some p) is e = let same = same_value p.0 j p.1 e in is ∙ ap₂ (λ (i : Json) (r : List Token). Some (i, r)) same.1 same.0

tree_there : (o : Option Shape) (t : Shape) → if_tree o ≡ Ok t → o ≡ Some t
tree_there None t e = cc
tree_there (Some u) t e = let same : u ≡ t = cc in ap Some same

read_of : (text : List ℕ) (limit : ℕ) (t : Shape) → doc_with_floats text limit ≡ Ok t → IsRead text limit t
read_of text limit t e = by (nat_lt limit (length text)) (is_utf8 text) refl refl e
  where
    read : (o : Option Json) → value_in text ≡ o → length text ≤ limit → IsUtf8 text → if_tree (option_and_then (λ j. tree_from (with_texts j)) o) ≡ Ok t → IsRead text limit t
    read None is short utf8 h = cc
    read (Some j) is short utf8 h =
        let alone = value_alone text j is in
        record {
          short = short;
          utf8 = utf8;
          json = j;
          tokens = value-json_tokens_back json_levels (tokens text) [] j alone ∙ append-nil (json_tokens j);
          shallow = value-depth json_levels (tokens text) [] j alone;
          tree = tree_there (tree_from (with_texts j)) t h;
        }

    by : (long utf8 : Bool) → nat_lt limit (length text) ≡ long → is_utf8 text ≡ utf8
        → cond long (Err TooLarge) (cond utf8 (if_tree (option_and_then (λ j. tree_from (with_texts j)) (value_in text))) (Err NotJson)) ≡ Ok t → IsRead text limit t
    by true u h g f = cc
    by false false h g f = cc
    by false true h g f = read (value_in text) refl (ltb-false limit (length text) h) (IsUtf8-from_is_utf8 text g) f

-- ---- its items

module _ (document : List ℕ) (t : Shape) (document_read : doc_with_floats document max_bytes ≡ Ok t) (key : List ℕ) where
  item_read : (steps : List Step) (items : Items) → part_at (targeting_path key ++ steps) t ≡ Some (list items) → AreRead document (targeting_path key ++ steps) items
  item_read steps items there i front old back stands =
      let path = targeting_path key ++ (steps ++ index i ∷ []) in
      let r : IsRead document max_bytes t = read_of document max_bytes t document_read in
      let p = part_bytes document max_bytes path front old back r.json r.short r.utf8 r.tokens r.shallow stands in
      let part = part_read path (with_texts r.json) t p.0 r.tree (texts_same (steps ++ index i ∷ []) key r.json ∙ p.1) in
      let one : part_at path t ≡ option_and_then (part_at []) (item_at i items) = part_append (targeting_path key ++ steps) (index i ∷ []) t ∙ ap (option_and_then (part_at (index i ∷ []))) there in
      (part.0, none_more (item_at i items) part.0 (sym one ∙ part.2), p.2 part.0 part.1)

  found : (form : Shape) (n : ℕ) (path : List Step) (first last : ℕ) → site_place t key form n ≡ buckets path first last → IsFound document t path first last
  found form n path first last e =
      let l = place_listed t key path first last form n e in
      let inside = place_within t key path first last form n e in
      (l, subst (λ (p : List Step). AreRead document p l.items) (sym inside.1) (item_read inside.0 l.items (ap (λ (p : List Step). part_at p t) (sym inside.1) ∙ l.there)))

pub replaced_with_floats : ReplacedWithFloatsIsRead
replaced_with_floats document t flags key n rule kept is k =
    put_by document t key (found document t is key) (doc_with_floats document max_bytes) is (option_and_then targeting_in (lookup (bytes_eq key) flags)) n rule kept k
