-- The buckets that were found in a text, and what the text is refused for.
use denote.Ref.{Bor}
use Rattle.std.proofs.Common.{◌≡◌, ◌≢◌, ℕ, Bool, true, false, true≢false, cond, ◌&&◌, is_some, nat_lt, List, [], ◌∷◌, ◌++◌, Vec, Global, Option, Some, None, option_map, option_and_then, pos, ◌^◌, subst, Result, Ok, Err, refl, sym, ap, ap₂, ◌∙◌, append-nil, append_assoc}
use Rattle.std.specs.Prelude.{ℤ}
use Rattle.json.specs.Json as json
use Rattle.json.specs.Lex.{tokens}
use Rattle.json.specs.Reads.{token_of}
use Rattle.json.specs.Token.{Token}
use Rattle.json.specs.declared.token.Token.{Token as Lexed}
use Rattle.json.specs.declared.token.Token.TheVariants as lexed
use Rattle.json.proofs.Grammar.{value_is}
use Rattle.serde_json.specs.Data as parsed
use Rattle.serde_json.specs.Read.{converted, max_depth, number_of, of_json, read}
use Rattle.flag_text.specs.Readers.{as_list}
use Rattle.flag_text.specs.Reading.{shape_of, items_shape, if_json, if_whole}
use Rattle.flag_text.specs.Shape as shape
use Rattle.flag_text.specs.Shape.{Shape, other, levels, items_levels, has_other, items_have_other, is_in_range}
use Rattle.flag_text.specs.declared.fault.TextFault.{TextFault}
use Rattle.flag_text.specs.declared.fault.TextFault.TheVariants as texts
use Rattle.flag_text.specs.declared.fault.TextFault.TheVariants.{NotJson, NotWhole, TooDeep}
use Rattle.bucket_core.specs.Reading.{bucket_of, buckets_of, rule_of_buckets, rule_of_entries}
use Rattle.bucket_core.specs.Rule.{Entries}
use Rattle.bucket_core.specs.declared.fault.RuleFault.{RuleFault}
use Rattle.bucket_core.specs.declared.fault.RuleFault.TheVariants.{WantOfMemory}
use Rattle.rule_text.specs.Buckets.{or_bad_rule, buckets_in, GivesEntries, found_in, found_of, so_far, with_bucket}
use Rattle.rule_text.specs.Parts.{extent_at, both}
use Rattle.rule_text.specs.Reading.{of_rule, of_tree, is_want, GivesUnlessShort}
use Rattle.rule_text.specs.declared.fault.RuleTextFault.{RuleTextFault}
use Rattle.rule_text.specs.declared.fault.RuleTextFault.TheVariants.{Text, Rule}
use Rattle.rule_text.specs.declared.part.Extent.{Extent}
use Rattle.rule_text.proofs.Extents.{none, flat, both_none, both_more, at_max, around, around_at, extent_in}
use Rattle.rule_text.proofs.Readings.{converted_some, converted-object, mapped_some, refused}

-- ---- the items of a list, one after another

-- the buckets that were found, with those of the rest
abbrev pub and_then : Option Entries → Option Entries → Option Entries
and_then found rest = option_and_then (λ es. option_map (λ bs. es ++ bs) rest) found

-- what was found, with the items that come after it
abbrev pub after : Bool → Entries → Extent → parsed.Items → Option Entries × Extent
after b es e ds = (and_then (so_far b es) (buckets_of (items_shape ds)), around 126 (both e (extent_at 126 (items_levels (items_shape ds)) (items_have_other (items_shape ds)))))

none_first : (o : Option Entries) → o ≡ option_map (λ bs. [] ++ bs) o
none_first None = refl
none_first (Some bs) = refl

pub after_none : (ds : parsed.Items) → found_of (items_shape ds) ≡ after true [] none ds
after_none ds =
    let ts = items_shape ds in
    ap₂ (λ o e. (o, e)) (none_first (buckets_of ts)) (sym (around_at 126 (items_levels ts) (items_have_other ts)))

one_more : (es : Entries) (x : Option (List ℕ × ℕ)) (y : Option Entries) → option_map (λ bs. es ++ bs) (option_and_then (λ b. option_map (λ bs. b ∷ bs) y) x) ≡ and_then (option_map (λ b. es ++ b ∷ []) x) y
one_more es None y = refl
one_more es (Some b) None = refl
one_more es (Some b) (Some bs) = ap Some (sym (append_assoc es (b ∷ []) bs))

more : (o : Option Entries) (x : Option (List ℕ × ℕ)) (y : Option Entries) → and_then o (option_and_then (λ b. option_map (λ bs. b ∷ bs) y) x) ≡ and_then (with_bucket o x) y
more None x y = refl
more (Some es) x y = one_more es x y

pub after_item : (b c : Bool) (es fs : Entries) (e f : Extent) (d : parsed.Data) → so_far c fs ≡ with_bucket (so_far b es) (bucket_of (shape_of d)) → f ≡ both e (extent_in 126 d) → (ds : parsed.Items) → after b es e (parsed.item d ds) ≡ after c fs f ds
after_item b c es fs e f d found extent ds =
    let t = shape_of d in
    let ts = items_shape ds in
    let rest = extent_at 126 (items_levels ts) (items_have_other ts) in
    ap₂ (λ o x. (o, x)) (more (so_far b es) (bucket_of t) (buckets_of ts) ∙ ap (λ o. and_then o (buckets_of ts)) (sym found))
    (ap (λ x. around 126 (both e x)) (at_max 126 (levels t) (items_levels ts) (has_other t) (items_have_other ts)) ∙ ap (around 126) (both_more e (extent_in 126 d) rest ∙ ap (λ x. both x rest) (sym extent)))

kept : (o : Option Entries) → and_then o (Some []) ≡ o
kept None = refl
kept (Some es) = ap Some (append-nil es)

pub after_all : (b : Bool) (es : Entries) (e : Extent) → after b es e parsed.no_items ≡ (so_far b es, around 126 e)
after_all b es e = ap₂ (λ o x. (o, x)) (kept (so_far b es)) (ap (around 126) (ap (both e) (sym (flat 126 false)) ∙ both_none e))

-- the buckets with one more, where the item is one
abbrev pub with_one : Entries → Option (List ℕ × ℕ) → Entries
with_one es None = es
with_one es (Some b) = es ++ b ∷ []

-- that each item is a bucket is known without the buckets
pub counted : (b : Bool) (es : Entries) (o : Option (List ℕ × ℕ)) → so_far (b && is_some o) (with_one es o) ≡ with_bucket (so_far b es) o
counted true es (Some x) = refl
counted true es None = refl
counted false es (Some x) = refl
counted false es None = refl

pub is_viewed : (o : Option (Bor (List ℕ) × ℕ)) → is_some o ≡ is_some (option_map {U = List ℕ × ℕ} (λ b. (b.0.now, b.1)) o)
is_viewed None = refl
is_viewed (Some x) = refl

pub is_found : (b : Bool) (es : Entries) → is_some (so_far b es) ≡ b
is_found true es = refl
is_found false es = refl

-- ---- the whole text

abbrev whole : Option (json.Json × List Token) → Option parsed.Data
whole o = option_and_then of_json (option_and_then (λ p. json.if_last p.0 p.1) o)

pub whole_read : (text : List ℕ) (d : parsed.Data) → converted of_json (json.value max_depth (tokens text)) ≡ Some (d, []) → read text ≡ Some d
whole_read text d e = let j = converted_some of_json (json.value max_depth (tokens text)) d [] e in ap whole j.1 ∙ j.2

pub whole_and_more : (text : List ℕ) (d : parsed.Data) (t : Token) (r : List Token) → converted of_json (json.value max_depth (tokens text)) ≡ Some (d, t ∷ r) → read text ≡ None
whole_and_more text d t r e = ap whole (converted_some of_json (json.value max_depth (tokens text)) d (t ∷ r) e).1

none_read : (o : Option (json.Json × List Token)) → converted of_json o ≡ None → whole o ≡ None
none_read None e = refl
none_read (Some (j, [])) e = refused [] (of_json j) e
none_read (Some (j, t ∷ r)) e = refl

pub whole_refused : (text : List ℕ) → converted of_json (json.value max_depth (tokens text)) ≡ None → read text ≡ None
whole_refused text e = none_read (json.value max_depth (tokens text)) e

-- ---- what a text is refused for

judged_at : (deep part : Bool) (t : Shape) → buckets_in (cond deep (Err TooDeep) (cond part (Err NotWhole) (Ok t))) ≡ cond deep (Err (Text TooDeep)) (cond part (Err (Text NotWhole)) (or_bad_rule (option_and_then buckets_of (as_list t))))
judged_at true more t = refl
judged_at false true t = refl
judged_at false false t = refl

-- by what was found in it
pub judged_text : (text : List ℕ) (d : parsed.Data) (found : Option Entries) (e : Extent) → read text ≡ Some d → (found, e) ≡ found_in (shape_of d)
    → buckets_in (if_whole (if_json (read text))) ≡ cond e.deep (Err (Text TooDeep)) (cond e.other (Err (Text NotWhole)) (or_bad_rule found))
judged_text text d found e is_read is =
    ap (λ o. buckets_in (if_whole (if_json o))) is_read ∙ judged_at (nat_lt 120 (levels (shape_of d))) (has_other (shape_of d)) (shape_of d)
    ∙ ap (λ (p : Option Entries × Extent). cond p.1.deep (Err (Text TooDeep)) (cond p.1.other (Err (Text NotWhole)) (or_bad_rule p.0))) (sym is)

pub no_json : (text : List ℕ) → read text ≡ None → buckets_in (if_whole (if_json (read text))) ≡ Err (Text NotJson)
no_json text e = ap (λ o. buckets_in (if_whole (if_json o))) e

-- the fault of a value that was not read
pub no_value : (text : List ℕ) (reader : List Token) (e : TextFault) (r : Result (Vec (Bor (List ℕ) × ℕ) Global) RuleTextFault) → reader ≡ tokens text → r ≡ Err (Text e) → (e ≢ texts.WantOfMemory → e ≡ NotJson)
    → (e ≡ NotJson → converted of_json (json.value max_depth reader) ≡ None) → GivesEntries r (buckets_in (if_whole (if_json (read text))))
no_value text reader e (Ok v) starts is kind none = absurd (cc)
no_value text reader e (Err f) starts is kind none = λ no.
    let same : f ≡ Text e = cc in
    let fault : e ≡ NotJson = kind (λ want. true≢false (sym (ap is_want (same ∙ ap Text want)) ∙ no)) in
    no_json text (whole_refused text (ap (λ ts. converted of_json (json.value max_depth ts)) (sym starts) ∙ none fault)) ∙ ap Err (sym (same ∙ ap Text fault))

-- ---- from buckets to a rule

abbrev pub made : Result Entries RuleTextFault → Result Entries RuleTextFault
made (Ok es) = of_rule (rule_of_entries es)
made (Err e) = Err e

made_of : (o : Option Entries) → of_rule (rule_of_buckets o) ≡ made (or_bad_rule o)
made_of None = refl
made_of (Some es) = refl

pub ruled : (r : Result Shape TextFault) → of_tree r ≡ made (buckets_in r)
ruled (Err e) = refl
ruled (Ok t) = made_of (option_and_then buckets_of (as_list t))

pub refused_text : (r : Result Entries RuleTextFault) (e : RuleTextFault) (t : Result Shape TextFault) → r ≡ Err e → (is_want e ≡ false → buckets_in t ≡ Err e) → GivesUnlessShort r (of_tree t)
refused_text (Ok x) e t is gives = absurd (cc)
refused_text (Err f) e t is gives = λ no.
    let same : f ≡ e = cc in
    ruled t ∙ ap made (gives (ap is_want (sym same) ∙ no)) ∙ ap Err (sym same)

pub ruled_by : (es : Entries) (t : Result Shape TextFault) → buckets_in t ≡ Ok es → of_tree t ≡ of_rule (rule_of_entries es)
ruled_by es t got = ruled t ∙ ap made got

-- a fault of entries
pub refused_entries : (r : Result Entries RuleTextFault) (e : RuleFault) (es : Entries) → r ≡ Err (Rule e) → (e ≢ WantOfMemory → rule_of_entries es ≡ Err e) → GivesUnlessShort r (of_rule (rule_of_entries es))
refused_entries (Ok x) e es is gives = absurd (cc)
refused_entries (Err f) e es is gives = λ no.
    let named : f ≡ Rule e = cc in
    ap of_rule (gives (λ want. true≢false (sym (ap is_want (named ∙ ap Rule want)) ∙ no))) ∙ ap Err (sym named)

-- ---- a value that begins no list

abbrev NoList : parsed.Data → Type 0
NoList d = option_and_then buckets_of (as_list (shape_of d)) ≡ None

abbrev pick : {A : Type 0} → A → Option A → A
pick d None = d
pick d (Some a) = a

first_of : {A : Type 0} (x d : A) (ts r : List Token) → ◌≡◌ {A = Option (A × List Token)} (Some (x, ts)) (Some (d, r)) → x ≡ d
first_of {A} x d ts r e = let same = ap (pick {A = A × List Token} (x, ts)) e in ap (λ p. p.0) same

scalar : (x d : parsed.Data) (ts r : List Token) → ◌≡◌ {A = Option (parsed.Data × List Token)} (Some (x, ts)) (Some (d, r)) → NoList x → NoList d
scalar x d ts r e given = subst NoList (first_of x d ts r e) given

no_number : (b : Bool) (z : ℤ) → option_and_then buckets_of (as_list (cond b (shape.whole z) other)) ≡ None
no_number true z = refl
no_number false z = refl

number : (n : parsed.Num) → NoList (parsed.number n)
number (parsed.unsigned n) = no_number (nat_lt n (2 ^ 53)) (pos n)
number (parsed.negative z) = no_number (is_in_range z) z
number (parsed.float f) = refl

numbers : (o : Option parsed.Num) (d : parsed.Data) (ts r : List Token) → option_map {U = parsed.Data × List Token} (λ b. (b, ts)) (option_map parsed.number o) ≡ Some (d, r) → NoList d
numbers None d ts r e = absurd (cc)
numbers (Some n) d ts r e = scalar (parsed.number n) d ts r e (number n)

objects : (o : Option (json.Members × List Token)) (d : parsed.Data) (r : List Token) → converted of_json (json.parse_map json.object o) ≡ Some (d, r) → NoList d
objects o d r e = let ms = mapped_some parsed.object _ d r (sym (converted-object o) ∙ e) in subst NoList ms.2 refl

begins : (a : json.Parse json.Items) (o : json.Parse json.Members) (k : Lexed) → (k ≡ lexed.BeginArray → ⊥) → (ts r : List Token) (d : parsed.Data) → converted of_json (json.value_with a o (token_of k ∷ ts)) ≡ Some (d, r) → NoList d
begins a o lexed.BeginObject not ts r d e = objects (o ts) d r e
begins a o lexed.EndObject not ts r d e = absurd (cc)
begins a o lexed.BeginArray not ts r d e = absurd (not refl)
begins a o lexed.EndArray not ts r d e = absurd (cc)
begins a o (lexed.Key s) not ts r d e = absurd (cc)
begins a o (lexed.String s) not ts r d e = scalar (parsed.string s.now) d ts r e refl
begins a o (lexed.Number s) not ts r d e = numbers (number_of s.now) d ts r e
begins a o (lexed.Bool b) not ts r d e = scalar (parsed.boolean b) d ts r e refl
begins a o lexed.Null not ts r d e = scalar parsed.null d ts r e refl
begins a o lexed.Bad not ts r d e = absurd (cc)

pub no_list : (depth : ℕ) (k : Lexed) → (k ≡ lexed.BeginArray → ⊥) → (ts r : List Token) (d : parsed.Data) → converted of_json (json.value depth (token_of k ∷ ts)) ≡ Some (d, r) → option_and_then buckets_of (as_list (shape_of d)) ≡ None
no_list depth k not ts r d e = begins _ _ k not ts r d (sym (ap (converted of_json) (value_is depth (token_of k ∷ ts))) ∙ e)
