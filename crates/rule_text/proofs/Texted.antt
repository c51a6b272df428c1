-- The tokens of a list of texts, a text at a time.
use denote.Ref.{Bor}
use Rattle.std.proofs.Common.{◌≡◌, ℕ, ◌-◌, ◌<◌, ◌≤◌, false, List, [], ◌∷◌, ◌++◌, length, Option, Some, None, Ok, option_and_then, refl, ap, ◌∙◌, arith}
use Rattle.std.specs.Str.{IsUtf8}
use Rattle.json.specs.Json as json
use Rattle.json.specs.Json.{parse_map, after_end_array, items, value}
use Rattle.json.specs.Lex.{tokens}
use Rattle.json.specs.Token.{Token}
use Rattle.json.proofs.Grammar.{value_is, value-begin_array, items_end, items_more}
use Rattle.serde_json.specs.Data as parsed
use Rattle.serde_json.specs.Read.{max_depth, of_json, of_items, read}
use Rattle.flag_text.specs.Reading.{items_shape, if_json, if_whole}
use Rattle.flag_text.specs.Shape.{list, items_levels, items_have_other}
use Rattle.flag_text.proofs.Readings.{doc_of-utf8}
use Rattle.rule_text.specs.Texts.{AreTexts, AreTokensOf, text_items, texts_then, texts_view}
use Rattle.rule_text.proofs.Literal.{flat_tree}

-- ---- a turn of the loop

abbrev Parsed : Type 0
Parsed = Option (json.Items × List Token)

pub none_before : (o : Parsed) → o ≡ parse_map (texts_then []) o
none_before None = refl
none_before (Some p) = refl

pub one_more : (n : ℕ) (s : List ℕ) (r : List Token) → 0 < n → items (value 126) n (Token.string s ∷ r) ≡ parse_map (json.item (json.string s)) (items (value 126) (n - 1) r)
one_more n s r some = let ts = Token.string s ∷ r in items_more (value 126) n ts r (json.string s) some refl (value_is 126 ts)

pushed : (ss : List (Bor (List ℕ))) (s : Bor (List ℕ)) (js : json.Items) → texts_then (texts_view ss) (json.item (json.string s.now) js) ≡ texts_then (texts_view (ss ++ s ∷ [])) js
pushed [] s js = refl
pushed (x ∷ ss) s js = ap (json.item (json.string x.now)) (pushed ss s js)

pub one_more_before : (ss : List (Bor (List ℕ))) (s : Bor (List ℕ)) (o : Parsed)
    → parse_map (texts_then (texts_view ss)) (parse_map (json.item (json.string s.now)) o) ≡ parse_map (texts_then (texts_view (ss ++ s ∷ []))) o
one_more_before ss s None = refl
one_more_before ss s (Some p) = ap (λ js. Some (js, p.1)) (pushed ss s p.0)

pub all_read : (n : ℕ) (ts r : List Token) → length ts ≤ n → after_end_array ts ≡ Some r → items (value 126) n ts ≡ Some (json.no_items, r)
all_read n ts r enough e = items_end (value 126) n ts r enough e

-- ---- the whole text

abbrev pub text_data : List (List ℕ) → parsed.Items
text_data [] = parsed.no_items
text_data (s ∷ ss) = parsed.item (parsed.string s) (text_data ss)

data_of : (ss : List (List ℕ)) → of_items (texts_then ss json.no_items) ≡ Some (text_data ss)
data_of [] = refl
data_of (s ∷ ss) = rw (data_of ss) refl

shape_of_texts : (ss : List (List ℕ)) → items_shape (text_data ss) ≡ text_items ss
shape_of_texts [] = refl
shape_of_texts (s ∷ ss) = rw (shape_of_texts ss) refl

flat : (ss : List (List ℕ)) → (items_levels (text_items ss) ≤ 1) × (items_have_other (text_items ss) ≡ false)
flat [] = (omega arith, refl)
flat (s ∷ ss) = let r = flat ss in (omega (arith, r.0), r.1)

data_read : (text : List ℕ) (ts : List Token) (ss : List (List ℕ)) → tokens text ≡ Token.begin_array ∷ ts → items (value 126) (length ts) ts ≡ Some (texts_then ss json.no_items, []) → read text ≡ Some (parsed.array (text_data ss))
data_read text ts ss begins e =
    let js = texts_then ss json.no_items in
    let opened : value max_depth (tokens text) ≡ Some (json.array js, []) = ap (value max_depth) begins ∙ value-begin_array max_depth ts (omega arith) ∙ ap (parse_map json.array) e in
    ap (λ o. option_and_then of_json (option_and_then (λ p. json.if_last p.0 p.1) o)) opened ∙ rw (data_of ss) refl

-- the tokens of a list of texts are those of bytes that are one
pub all_texts : (bytes : List ℕ) (limit : ℕ) (ss : List (List ℕ)) → length bytes ≤ limit → IsUtf8 bytes → AreTokensOf ss (tokens bytes) → AreTexts bytes limit ss
all_texts bytes limit ss within utf8 are =
    let t = list (text_items ss) in
    let f = flat ss in
    let read_as = data_read bytes are.0 ss are.1 are.2 in
    ap if_whole (doc_of-utf8 bytes limit within utf8 ∙ ap if_json read_as) ∙ ap (λ ts. if_whole (Ok (list ts))) (shape_of_texts ss) ∙ flat_tree t (omega (arith, f.0)) f.1
