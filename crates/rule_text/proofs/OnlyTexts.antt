-- Bytes that are a list of texts have the tokens of one, so that a reader that meets another token has met none.
use Rattle.std.proofs.Common.{◌≡◌, ℕ, zero, suc, ◌≤◌, ◌^◌, pos, Bool, true, false, cond, nat_lt, List, [], ◌∷◌, length, Option, Some, None, option_map, option_and_then, Result, Ok, Err, refl, sym, ap, ap₂, ◌∙◌, subst, arith}
use Rattle.std.specs.Prelude.{ℤ}
use Rattle.std.specs.Option.{MatchOption}
use Rattle.std.specs.Str.{IsUtf8}
use Rattle.json.specs.Json as json
use Rattle.json.specs.Json.{parse_map, after_end_array, items_step, items, value}
use Rattle.json.specs.Lex.{tokens}
use Rattle.json.specs.Token.{Token}
use Rattle.json.proofs.Grammar.{value_is, value-begin_array}
use Rattle.serde_json.specs.Data as parsed
use Rattle.serde_json.specs.Data.{Data, Num}
use Rattle.serde_json.specs.Read.{max_depth, number_of, of_json, of_items, of_members, read}
use Rattle.flag_text.specs.Reading.{items_shape, number_shape, shape_of, if_json, if_whole, max_levels}
use Rattle.flag_text.specs.Shape.{Shape, whole, other, text, list, is_in_range, levels, has_other}
use Rattle.flag_text.specs.declared.fault.TextFault.{TextFault}
use Rattle.flag_text.specs.declared.fault.TextFault.TheVariants.{NotWhole, TooDeep}
use Rattle.flag_text.proofs.Readings.{doc_of-utf8}
use Rattle.rule_text.specs.Texts.{AreTexts, AreTokensOf, text_items, texts_then}
use Rattle.rule_text.proofs.Flat.{both}
use Rattle.rule_text.proofs.Texted.{text_data, all_texts}

mapped_at : {A B : Type 0} (f : A → B) (o : Option A) (b : B) → option_map f o ≡ Some b → (a : A) × (o ≡ Some a) × (f a ≡ b)
mapped_at f None b e = absurd (cc)
mapped_at f (Some a) b e = let same : f a ≡ b = cc in (a, refl, same)

-- ---- from a tree to its value

no_number : (b : Bool) (z : ℤ) (s : List ℕ) → cond b (whole z) other ≡ text s → ⊥
no_number true z s e = cc
no_number false z s e = cc

number_apart : (n : Num) (s : List ℕ) → number_shape n ≡ text s → ⊥
number_apart (parsed.unsigned n) s e = no_number (nat_lt n (2 ^ 53)) (pos n) s e
number_apart (parsed.negative z) s e = no_number (is_in_range z) z s e
number_apart (parsed.float x) s e = cc

string_data : (d : Data) (s : List ℕ) → shape_of d ≡ text s → d ≡ parsed.string s
string_data parsed.null s e = absurd (cc)
string_data (parsed.boolean b) s e = absurd (cc)
string_data (parsed.number n) s e = absurd (number_apart n s e)
string_data (parsed.string t) s e = let same : t ≡ s = cc in ap parsed.string same
string_data (parsed.array ds) s e = absurd (cc)
string_data (parsed.object ms) s e = absurd (cc)

strings_data : (ds : parsed.Items) (ss : List (List ℕ)) → items_shape ds ≡ text_items ss → ds ≡ text_data ss
strings_data parsed.no_items [] e = refl
strings_data parsed.no_items (s ∷ ss) e = absurd (cc)
strings_data (parsed.item d ds) [] e = absurd (cc)
strings_data (parsed.item d ds) (s ∷ ss) e =
    let first : shape_of d ≡ text s = cc in
    let rest : items_shape ds ≡ text_items ss = cc in
    ap₂ parsed.item (string_data d s first) (strings_data ds ss rest)

no_list_number : (b : Bool) (z : ℤ) (ss : List (List ℕ)) → cond b (whole z) other ≡ list (text_items ss) → ⊥
no_list_number true z ss e = cc
no_list_number false z ss e = cc

list_apart : (n : Num) (ss : List (List ℕ)) → number_shape n ≡ list (text_items ss) → ⊥
list_apart (parsed.unsigned n) ss e = no_list_number (nat_lt n (2 ^ 53)) (pos n) ss e
list_apart (parsed.negative z) ss e = no_list_number (is_in_range z) z ss e
list_apart (parsed.float x) ss e = cc

array_data : (d : Data) (ss : List (List ℕ)) → shape_of d ≡ list (text_items ss) → d ≡ parsed.array (text_data ss)
array_data parsed.null ss e = absurd (cc)
array_data (parsed.boolean b) ss e = absurd (cc)
array_data (parsed.number n) ss e = absurd (list_apart n ss e)
array_data (parsed.string t) ss e = absurd (cc)
array_data (parsed.array ds) ss e = let same : items_shape ds ≡ text_items ss = cc in ap parsed.array (strings_data ds ss same)
array_data (parsed.object ms) ss e = absurd (cc)

-- ---- from a value to what it was read of

apart_under : {A : Type 0} (f : A → Data) (o : Option A) (d : Data) → ((a : A) → f a ≡ d → ⊥) → option_map f o ≡ Some d → ⊥
apart_under f o d apart e = let m = mapped_at f o d e in apart m.0 m.2

string_json : (j : json.Json) (s : List ℕ) → of_json j ≡ Some (parsed.string s) → j ≡ json.string s
string_json json.null s e = absurd (cc)
string_json (json.boolean b) s e = absurd (cc)
string_json (json.number t) s e = absurd (apart_under parsed.number (number_of t) (parsed.string s) (λ a same. cc) e)
string_json (json.string t) s e = let same : t ≡ s = cc in ap json.string same
string_json (json.array js) s e = absurd (apart_under parsed.array (of_items js) (parsed.string s) (λ a same. cc) e)
string_json (json.object ms) s e = absurd (apart_under parsed.object (of_members ms parsed.no_members) (parsed.string s) (λ a same. cc) e)

strings_json : (js : json.Items) (ss : List (List ℕ)) → of_items js ≡ Some (text_data ss) → js ≡ texts_then ss json.no_items
strings_json json.no_items [] e = refl
strings_json json.no_items (s ∷ ss) e = absurd (cc)
strings_json (json.item j js) [] e =
    let d = both (λ d. option_map (parsed.item d) (of_items js)) (of_json j) (text_data []) e in
    absurd (let m = mapped_at (parsed.item d.0) (of_items js) parsed.no_items d.2 in let apart = m.2 in cc)
strings_json (json.item j js) (s ∷ ss) e =
    let d = both (λ d. option_map (parsed.item d) (of_items js)) (of_json j) (text_data (s ∷ ss)) e in
    let m = mapped_at (parsed.item d.0) (of_items js) (parsed.item (parsed.string s) (text_data ss)) d.2 in
    let parts = m.2 in
    let first : d.0 ≡ parsed.string s = cc in
    let rest : m.0 ≡ text_data ss = cc in
    ap₂ json.item (string_json j s (d.1 ∙ ap Some first)) (strings_json js ss (m.1 ∙ ap Some rest))

array_json : (j : json.Json) (ss : List (List ℕ)) → of_json j ≡ Some (parsed.array (text_data ss)) → j ≡ json.array (texts_then ss json.no_items)
array_json json.null ss e = absurd (cc)
array_json (json.boolean b) ss e = absurd (cc)
array_json (json.number t) ss e = absurd (apart_under parsed.number (number_of t) (parsed.array (text_data ss)) (λ a same. cc) e)
array_json (json.string t) ss e = absurd (cc)
array_json (json.array js) ss e =
    let m = mapped_at parsed.array (of_items js) (parsed.array (text_data ss)) e in
    let parts = m.2 in
    let same : m.0 ≡ text_data ss = cc in
    ap json.array (strings_json js ss (m.1 ∙ ap Some same))
array_json (json.object ms) ss e = absurd (apart_under parsed.object (of_members ms parsed.no_members) (parsed.array (text_data ss)) (λ a same. cc) e)

-- ---- from a value to its tokens

abbrev picked : {A : Type 0} → A → Option A → A
picked d None = d
picked d (Some a) = a

pair_of : {A : Type 0} (a b : A) (r s : List Token) → ◌≡◌ {A = Option (A × List Token)} (Some (a, r)) (Some (b, s)) → (a ≡ b) × (r ≡ s)
pair_of {A} a b r s e = let same = ap (picked {A = A × List Token} (a, r)) e in (ap (λ p. p.0) same, ap (λ p. p.1) same)

abbrev Valued : Type 0
Valued = Option (json.Json × List Token)

whole_value : (o : Valued) (d : Data) → option_and_then of_json (option_and_then (λ p. json.if_last p.0 p.1) o) ≡ Some d → (j : json.Json) × (o ≡ Some (j, [])) × (of_json j ≡ Some d)
whole_value None d e = absurd (cc)
whole_value (Some (j, [])) d e = (j, refl, e)
whole_value (Some (j, t ∷ r)) d e = absurd (cc)

under_array : (o : Option (json.Items × List Token)) (js : json.Items) (r : List Token) → parse_map json.array o ≡ Some (json.array js, r) → o ≡ Some (js, r)
under_array None js r e = absurd (cc)
under_array (Some p) js r e =
    let parts = pair_of (json.array p.0) (json.array js) p.1 r e in
    let array = parts.0 in
    let first : p.0 ≡ js = cc in
    ap₂ (λ a b. Some (a, b)) first parts.1

no_object : (o : Option (json.Members × List Token)) (j : json.Json) (r : List Token) → ((ms : json.Members) → json.object ms ≡ j → ⊥) → parse_map json.object o ≡ Some (j, r) → ⊥
no_object None j r apart e = cc
no_object (Some p) j r apart e = apart p.0 (pair_of (json.object p.0) j p.1 r e).0

no_array : (o : Option (json.Items × List Token)) (s : List ℕ) (r : List Token) → parse_map json.array o ≡ Some (json.string s, r) → ⊥
no_array None s r e = cc
no_array (Some p) s r e = let apart = (pair_of (json.array p.0) (json.string s) p.1 r e).0 in cc

array_tokens : (ts : List Token) (js : json.Items) (r : List Token) → value max_depth ts ≡ Some (json.array js, r) → (rest : List Token) × (ts ≡ Token.begin_array ∷ rest) × (items (value 126) (length rest) rest ≡ Some (js, r))
array_tokens [] js r e = let v = sym (value_is max_depth []) ∙ e in absurd (cc)
array_tokens (Token.begin_object ∷ ts) js r e = absurd (no_object _ (json.array js) r (λ ms same. cc) (sym (value_is max_depth (Token.begin_object ∷ ts)) ∙ e))
array_tokens (Token.end_object ∷ ts) js r e = let v = sym (value_is max_depth (Token.end_object ∷ ts)) ∙ e in absurd (cc)
array_tokens (Token.begin_array ∷ ts) js r e = (ts, refl, under_array (items (value 126) (length ts) ts) js r (sym (value-begin_array max_depth ts (omega arith)) ∙ e))
array_tokens (Token.end_array ∷ ts) js r e = let v = sym (value_is max_depth (Token.end_array ∷ ts)) ∙ e in absurd (cc)
array_tokens (Token.key s ∷ ts) js r e = let v = sym (value_is max_depth (Token.key s ∷ ts)) ∙ e in absurd (cc)
array_tokens (Token.string s ∷ ts) js r e = let apart = (pair_of (json.string s) (json.array js) ts r (sym (value_is max_depth (Token.string s ∷ ts)) ∙ e)).0 in absurd (cc)
array_tokens (Token.number s ∷ ts) js r e = let apart = (pair_of (json.number s) (json.array js) ts r (sym (value_is max_depth (Token.number s ∷ ts)) ∙ e)).0 in absurd (cc)
array_tokens (Token.boolean b ∷ ts) js r e = let apart = (pair_of (json.boolean b) (json.array js) ts r (sym (value_is max_depth (Token.boolean b ∷ ts)) ∙ e)).0 in absurd (cc)
array_tokens (Token.null ∷ ts) js r e = let apart = (pair_of (json.null) (json.array js) ts r (sym (value_is max_depth (Token.null ∷ ts)) ∙ e)).0 in absurd (cc)
array_tokens (Token.bad ∷ ts) js r e = let v = sym (value_is max_depth (Token.bad ∷ ts)) ∙ e in absurd (cc)

string_token : (ts : List Token) (s : List ℕ) (r : List Token) → value 126 ts ≡ Some (json.string s, r) → ts ≡ Token.string s ∷ r
string_token [] s r e = let v = sym (value_is 126 []) ∙ e in absurd (cc)
string_token (Token.begin_object ∷ ts) s r e = absurd (no_object _ (json.string s) r (λ ms same. cc) (sym (value_is 126 (Token.begin_object ∷ ts)) ∙ e))
string_token (Token.end_object ∷ ts) s r e = let v = sym (value_is 126 (Token.end_object ∷ ts)) ∙ e in absurd (cc)
string_token (Token.begin_array ∷ ts) s r e = absurd (no_array _ s r (sym (value_is 126 (Token.begin_array ∷ ts)) ∙ e))
string_token (Token.end_array ∷ ts) s r e = let v = sym (value_is 126 (Token.end_array ∷ ts)) ∙ e in absurd (cc)
string_token (Token.key t ∷ ts) s r e = let v = sym (value_is 126 (Token.key t ∷ ts)) ∙ e in absurd (cc)
string_token (Token.string t ∷ ts) s r e =
    let parts = pair_of (json.string t) (json.string s) ts r (sym (value_is 126 (Token.string t ∷ ts)) ∙ e) in
    let string = parts.0 in
    let first : t ≡ s = cc in
    ap₂ (λ a b. Token.string a ∷ b) first parts.1
string_token (Token.number t ∷ ts) s r e = let apart = (pair_of (json.number t) (json.string s) ts r (sym (value_is 126 (Token.number t ∷ ts)) ∙ e)).0 in absurd (cc)
string_token (Token.boolean b ∷ ts) s r e = let apart = (pair_of (json.boolean b) (json.string s) ts r (sym (value_is 126 (Token.boolean b ∷ ts)) ∙ e)).0 in absurd (cc)
string_token (Token.null ∷ ts) s r e = let apart = (pair_of (json.null) (json.string s) ts r (sym (value_is 126 (Token.null ∷ ts)) ∙ e)).0 in absurd (cc)
string_token (Token.bad ∷ ts) s r e = let v = sym (value_is 126 (Token.bad ∷ ts)) ∙ e in absurd (cc)

-- ---- from bytes that are texts to their tokens

sound : (deep part : Bool) (u t : Shape) → cond deep (Err TooDeep) (cond part (Err NotWhole) (Ok u)) ≡ Ok t → u ≡ t
sound true part u t e = absurd (cc)
sound false true u t e = absurd (cc)
sound false false u t e = cc

whole_tree : (r : Result Shape TextFault) (t : Shape) → if_whole r ≡ Ok t → r ≡ Ok t
whole_tree (Err f) t e = absurd (cc)
whole_tree (Ok u) t e = ap Ok (sound (nat_lt max_levels (levels u)) (has_other u) u t e)

read_tree : (o : Option Data) (t : Shape) → if_json o ≡ Ok t → (d : Data) × (o ≡ Some d) × (shape_of d ≡ t)
read_tree None t e = absurd (cc)
read_tree (Some d) t e = let same : shape_of d ≡ t = cc in (d, refl, same)

pub texts_tokens : (bytes : List ℕ) (limit : ℕ) (ss : List (List ℕ)) → length bytes ≤ limit → IsUtf8 bytes → AreTexts bytes limit ss → AreTokensOf ss (tokens bytes)
texts_tokens bytes limit ss within utf8 are =
    let tree = sym (ap if_whole (doc_of-utf8 bytes limit within utf8)) ∙ are in
    let d = read_tree (read bytes) (list (text_items ss)) (whole_tree (if_json (read bytes)) (list (text_items ss)) tree) in
    let v = whole_value (value max_depth (tokens bytes)) d.0 d.1 in
    let array = array_json v.0 ss (v.2 ∙ ap Some (array_data d.0 ss d.2)) in
    array_tokens (tokens bytes) (texts_then ss json.no_items) [] (v.1 ∙ ap (λ j. Some (j, [])) array)

-- ---- a reader that meets no text

pub next_apart : (n : ℕ) (ts : List Token) → after_end_array ts ≡ None → ((s : List ℕ) (rest : List Token) → ts ≡ Token.string s ∷ rest → ⊥) → (ss : List (List ℕ)) (r : List Token) → items (value 126) n ts ≡ Some (texts_then ss json.no_items, r) → ⊥
unfolding items
next_apart zero ts going apart ss r e = cc
next_apart (suc n) ts going apart ss r e =
    let step = sym (ap (items_step (value 126) (items (value 126) n) ts) going) ∙ e in
    let q = both (λ q. parse_map (json.item q.0) (items (value 126) n q.1)) (value 126 ts) (texts_then ss json.no_items, r) step in
    let p = mapped_at (λ p. (json.item q.0.0 p.0, p.1)) (items (value 126) n q.0.1) (texts_then ss json.no_items, r) q.2 in
    first_apart ts apart ss q.0 p.0.0 q.1 (ap (λ x. x.0) p.2)
  where
    first_apart : (ts : List Token) → ((s : List ℕ) (rest : List Token) → ts ≡ Token.string s ∷ rest → ⊥) → (ss : List (List ℕ)) (q : json.Json × List Token) (js : json.Items) → value 126 ts ≡ Some q → json.item q.0 js ≡ texts_then ss json.no_items → ⊥
    first_apart ts apart [] q js is e = cc
    first_apart ts apart (s ∷ ss) q js is e =
        let first : q.0 ≡ json.string s = cc in
        apart s q.1 (string_token ts s q.1 (is ∙ ap (λ j. Some (j, q.1)) first))

-- ---- behind texts that were found

more_texts : (found ss : List (List ℕ)) (js : json.Items) → texts_then found js ≡ texts_then ss json.no_items → (others : List (List ℕ)) × (js ≡ texts_then others json.no_items)
more_texts [] ss js e = (ss, e)
more_texts (f ∷ found) [] js e = absurd (cc)
more_texts (f ∷ found) (s ∷ ss) js e = let rest : texts_then found js ≡ texts_then ss json.no_items = cc in more_texts found ss js rest

-- where all are texts, those that are left are
pub rest_of : (found ss : List (List ℕ)) (o : Option (json.Items × List Token)) (r : List Token) → parse_map (texts_then found) o ≡ Some (texts_then ss json.no_items, r) → (others : List (List ℕ)) × (o ≡ Some (texts_then others json.no_items, r))
rest_of found ss None r e = absurd (cc)
rest_of found ss (Some p) r e =
    let parts = pair_of (texts_then found p.0) (texts_then ss json.no_items) p.1 r e in
    let others = more_texts found ss p.0 parts.0 in
    (others.0, ap₂ (λ a b. Some (a, b)) others.1 parts.1)

-- ---- the list that begins with the tokens

module _ (text ts rest : List Token) (begins : text ≡ Token.begin_array ∷ ts) where
  same_tokens : (ss : List (List ℕ)) → AreTokensOf ss text → items (value 126) (length ts) ts ≡ Some (texts_then ss json.no_items, [])
  same_tokens ss are =
      let both = sym are.1 ∙ begins in
      let tail : are.0 ≡ ts = cc in
      ap (λ (r : List Token). items (value 126) (length r) r) (sym tail) ∙ are.2

  -- what was found is all there is, where nothing stands behind it
  pub all_found : {V : Type 0} (found : Option V) (view : V → List (List ℕ))
      → MatchOption found ((ss : List (List ℕ)) (r : List Token) → items (value 126) (length ts) ts ≡ Some (texts_then ss json.no_items, r) → ⊥) (λ v. items (value 126) (length ts) ts ≡ Some (texts_then (view v) json.no_items, rest))
      → rest ≡ [] → MatchOption found ((ss : List (List ℕ)) → AreTokensOf ss text → ⊥) (λ v. AreTokensOf (view v) text)
  all_found None view none end = λ ss are. none ss [] (same_tokens ss are)
  all_found (Some v) view one end = (ts, begins, one ∙ ap (λ r. Some (texts_then (view v) json.no_items, r)) end)

  -- and else nothing is a list of texts
  pub none_found : {V : Type 0} (found : Option V) (view : V → List (List ℕ))
      → MatchOption found ((ss : List (List ℕ)) (r : List Token) → items (value 126) (length ts) ts ≡ Some (texts_then ss json.no_items, r) → ⊥) (λ v. items (value 126) (length ts) ts ≡ Some (texts_then (view v) json.no_items, rest))
      → (rest ≡ [] → ⊥) → (ss : List (List ℕ)) → AreTokensOf ss text → ⊥
  none_found None view none more ss are = none ss [] (same_tokens ss are)
  none_found (Some v) view one more ss are = more (pair_of (texts_then (view v) json.no_items) (texts_then ss json.no_items) rest [] (sym one ∙ same_tokens ss are)).1

-- of bytes, by what was found of their tokens
pub texts_of_tokens : {V : Type 0} (found : Option V) (view : V → List (List ℕ)) (bytes read_as : List ℕ) (limit : ℕ) → length bytes ≤ limit → read_as ≡ bytes → IsUtf8 bytes
    → MatchOption found ((ss : List (List ℕ)) → AreTokensOf ss (tokens read_as) → ⊥) (λ v. AreTokensOf (view v) (tokens read_as)) → MatchOption found ((ss : List (List ℕ)) → AreTexts bytes limit ss → ⊥) (λ v. AreTexts bytes limit (view v))
texts_of_tokens None view bytes read_as limit within same utf8 none = λ ss are. none ss (subst (λ b. AreTokensOf ss (tokens b)) (sym same) (texts_tokens bytes limit ss within utf8 are))
texts_of_tokens (Some v) view bytes read_as limit within same utf8 one = all_texts bytes limit (view v) within utf8 (subst (λ b. AreTokensOf (view v) (tokens b)) same one)
