-- The tokens of a list of literal buckets, a bucket at a time.
use Rattle.std.proofs.Common.{◌≡◌, inl, inr, ℕ, ◌-◌, ◌<◌, ◌≤◌, List, [], ◌∷◌, ◌++◌, length, Option, Some, None, option_map, option_and_then, refl, sym, ap, ◌∙◌, arith, append-nil, IfSome}
use Rattle.json.specs.Json as json
use Rattle.json.specs.Json.{parse_map, after_end_array, items, value}
use Rattle.json.specs.Lex.{tokens}
use Rattle.json.specs.Token.{Token}
use Rattle.json.proofs.Grammar.{value_is, value-begin_array, items_end, items_more}
use Rattle.serde_json.specs.Data as parsed
use Rattle.serde_json.specs.Data.{Data, Num}
use Rattle.serde_json.specs.Read.{converted, max_depth, of_json, of_items, number_of}
use Rattle.flag_text.specs.Readers.{as_list}
use Rattle.flag_text.specs.Reading.{shape_of, items_shape, number_shape}
use Rattle.bucket_core.specs.Reading.{weight_of, bucket_of, buckets_of}
use Rattle.bucket_core.specs.Rule.{Entries}
use Rattle.rule_text.specs.Lent.{lent_entry, lent_view}
use Rattle.rule_text.proofs.Lending.{Lent}
use Rattle.rule_text.specs.Listed.{bucket_in, buckets_in, Closes, IsListed}
use Rattle.rule_text.proofs.Flat.{both}

-- ---- a bucket

named : (name : List ℕ) (s : List ℕ) (o : Option Num) (weight : ℕ) → o ≡ number_of s → option_and_then (λ n. weight_of (number_shape n)) o ≡ Some weight
    → bucket_in (json.array (json.item (json.string name) (json.item (json.number s) json.no_items))) ≡ Some (name, weight)
named name s None weight is e = absurd (cc)
named name s (Some n) weight is e = rw (← is) (rw e refl)

bare : (name : List ℕ) (new : List Token) → value 126 (Token.begin_array ∷ Token.string name ∷ Token.end_array ∷ new) ≡ Some (json.array (json.item (json.string name) json.no_items), new)
bare name new =
    let rest = Token.end_array ∷ new in
    let ts = Token.string name ∷ rest in
    let over = items_end (value 125) (length ts - 1) rest new (omega arith) refl in
    value-begin_array 126 ts (omega arith) ∙ ap (parse_map json.array) (items_more (value 125) (length ts) ts rest (json.string name) (omega arith) refl (value_is 125 ts) ∙ ap (parse_map (json.item (json.string name))) over)

weighted : (name s : List ℕ) (new : List Token)
    → value 126 (Token.begin_array ∷ Token.string name ∷ Token.number s ∷ Token.end_array ∷ new) ≡ Some (json.array (json.item (json.string name) (json.item (json.number s) json.no_items)), new)
weighted name s new =
    let rest = Token.end_array ∷ new in
    let ws = Token.number s ∷ rest in
    let ts = Token.string name ∷ ws in
    let over = items_end (value 125) (length ts - 1 - 1) rest new (omega arith) refl in
    let weight = items_more (value 125) (length ts - 1) ws rest (json.number s) (omega arith) refl (value_is 125 ws) ∙ ap (parse_map (json.item (json.number s))) over in
    value-begin_array 126 ts (omega arith) ∙ ap (parse_map json.array) (items_more (value 125) (length ts) ts ws (json.string name) (omega arith) refl (value_is 125 ts) ∙ ap (parse_map (json.item (json.string name))) weight)

pub bucket_read : (name : List ℕ) (old new : List Token) (weight : ℕ) → Closes old weight new → converted bucket_in (value 126 (Token.begin_array ∷ Token.string name ∷ old)) ≡ Some ((name, weight), new)
bucket_read name old new weight (inl e) =
    ap (λ ts. converted bucket_in (value 126 (Token.begin_array ∷ Token.string name ∷ ts))) e.0 ∙ ap (converted bucket_in) (bare name new) ∙ ap (λ w. Some ((name, w), new)) (sym e.1)
bucket_read name old new weight (inr e) =
    ap (λ ts. converted bucket_in (value 126 (Token.begin_array ∷ Token.string name ∷ ts))) e.1 ∙ ap (converted bucket_in) (weighted name e.0 new)
    ∙ ap (option_map (λ b. (b, new))) (named name e.0 (number_of e.0) weight refl e.2)

-- ---- a list

twice : {A B : Type 0} (g : A → B) (r : List Token) (x : Option A) → option_map (λ b. (b, r)) (option_map g x) ≡ parse_map g (option_map (λ a. (a, r)) x)
twice g r None = refl
twice g r (Some a) = refl

abbrev chosen : {A : Type 0} → A → Option A → A
chosen d None = d
chosen d (Some a) = a

found : {A B : Type 0} (a : A) (r s : List Token) (x : Option B) (b : B) → option_map {U = B × List Token} (λ y. (y, r)) x ≡ Some (b, s) → (r ≡ s) × (x ≡ Some b)
found a r s None b e = absurd (cc)
found a r s (Some y) b e = let same = ap (chosen (y, r)) e in (ap (λ p. p.1) same, ap (λ p. Some p.0) same)

converted_some : {A B : Type 0} (f : A → Option B) (o : Option (A × List Token)) (b : B) (r : List Token) → converted f o ≡ Some (b, r) → (a : A) × (o ≡ Some (a, r)) × (f a ≡ Some b)
converted_some f None b r e = absurd (cc)
converted_some f (Some p) b r e = let got = found p.0 p.1 r (f p.0) b e in (p.0, ap (λ s. Some (p.0, s)) got.0, got.1)

-- a bucket before buckets
after : (b : List ℕ × ℕ) (o : Option parsed.Items) (d : Data) → bucket_of (shape_of d) ≡ Some b → (r : List Token)
    → option_map (λ bs. (bs, r)) (option_and_then (λ ds. buckets_of (items_shape ds)) (option_map (parsed.item d) o)) ≡ parse_map (λ bs. b ∷ bs) (option_map (λ bs. (bs, r)) (option_and_then (λ ds. buckets_of (items_shape ds)) o))
after b None d is r = refl
after b (Some ds) d is r = rw is (twice (λ bs. b ∷ bs) r (buckets_of (items_shape ds)))

with_bucket : (j : json.Json) (b : List ℕ × ℕ) → bucket_in j ≡ Some b → (o : Option (json.Items × List Token)) → converted buckets_in (parse_map (json.item j) o) ≡ parse_map (λ bs. b ∷ bs) (converted buckets_in o)
with_bucket j b e None = refl
with_bucket j b e (Some p) = let d = both (λ d. bucket_of (shape_of d)) (of_json j) b e in rw (d.1) (after b (of_items p.0) d.0 d.2 p.1)

module _ (n : ℕ) (ts r : List Token) where
  pub one_more : (b : List ℕ × ℕ) → 0 < n → after_end_array ts ≡ None → converted bucket_in (value 126 ts) ≡ Some (b, r)
      → converted buckets_in (items (value 126) n ts) ≡ parse_map (λ bs. b ∷ bs) (converted buckets_in (items (value 126) (n - 1) r))
  one_more b some going e = let j = converted_some bucket_in (value 126 ts) b r e in ap (converted buckets_in) (items_more (value 126) n ts r j.0 some going j.1) ∙ with_bucket j.0 b j.2 _

  pub all_read : length ts ≤ n → after_end_array ts ≡ Some r → converted buckets_in (items (value 126) n ts) ≡ Some ([], r)
  all_read enough e = ap (converted buckets_in) (items_end (value 126) n ts r enough e)

-- ---- a list that grows at its end

abbrev pub before : Entries → Entries → Entries
before es rest = es ++ rest

pub none_before : (r : Option (Entries × List Token)) → r ≡ parse_map (before []) r
none_before None = refl
none_before (Some p) = refl

pushed : (es : List Lent) (e : Lent) (rest : Entries) → lent_view es ++ (lent_entry e ∷ rest) ≡ lent_view (es ++ e ∷ []) ++ rest
pushed [] e rest = refl
pushed (x ∷ es) e rest = ap (λ bs. lent_entry x ∷ bs) (pushed es e rest)

pub one_more_before : (es : List Lent) (e : Lent) (r : Option (Entries × List Token))
    → parse_map (before (lent_view es)) (parse_map (λ bs. lent_entry e ∷ bs) r) ≡ parse_map (before (lent_view (es ++ e ∷ []))) r
one_more_before es e None = refl
one_more_before es e (Some p) = ap (λ bs. Some (bs, p.1)) (pushed es e p.0)

-- ---- the whole text

whole_list : (o : Option parsed.Items) (es : Entries) → option_and_then (λ ds. buckets_of (items_shape ds)) o ≡ Some es
    → option_and_then (λ d. option_and_then buckets_of (as_list (shape_of d))) (option_map parsed.array o) ≡ Some es
whole_list None es e = absurd (cc)
whole_list (Some ds) es e = e

pub all_listed : (text : List ℕ) (ts : List Token) (es : Entries) → tokens text ≡ Token.begin_array ∷ ts → converted buckets_in (items (value 126) (length ts) ts) ≡ Some (es, []) → IsListed text es
all_listed text ts es begins e =
    let js = converted_some buckets_in (items (value 126) (length ts) ts) es [] e in
    let opened : value max_depth (tokens text) ≡ Some (json.array js.0, []) = ap (value max_depth) begins ∙ value-begin_array max_depth ts (omega arith) ∙ ap (parse_map json.array) js.1 in
    ap (λ o. option_and_then (λ d. option_and_then buckets_of (as_list (shape_of d))) (option_and_then of_json (option_and_then (λ p. json.if_last p.0 p.1) o))) opened
    ∙ whole_list (of_items js.0) es js.2

pub listed_of : {V : Type 0} (found : Option V) (view : V → Entries) (text : List ℕ) (ts rest : List Token) → tokens text ≡ Token.begin_array ∷ ts → rest ≡ []
    → IfSome found (λ v. converted buckets_in (items (value 126) (length ts) ts) ≡ Some (view v, rest)) → IfSome found (λ v. IsListed text (view v))
listed_of None view text ts rest begins none e = e
listed_of (Some v) view text ts rest begins none e = all_listed text ts (view v) begins (e ∙ ap (λ r. Some (view v, r)) none)

pub whole_before : (es : Entries) (r : List Token) → parse_map (before es) (Some ([], r)) ≡ Some (es, r)
whole_before es r = ap (λ bs. Some (bs, r)) (append-nil es)
