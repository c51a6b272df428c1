-- How far the parts of a value are from a tree of whole numbers, and the value of them.
use denote.Ref.{Bor}
use Rattle.std.proofs.Common.{◌≡◌, ℕ, suc, ◌+◌, ◌-◌, ◌^◌, max, pos, Bool, true, false, cond, ◌||◌, nat_lt, List, [], ◌∷◌, ◌++◌, Option, Some, None, option_map, option_and_then, Ordering, Less, Equal, Greater, refl, sym, ap, ap₂, ◌∙◌, arith}
use Rattle.std.specs.Prelude.{ℤ}
use Rattle.std.specs.Option.{option_zip}
use Rattle.std.proofs.lemmas.Bool.Decides.{nat_tests}
use Rattle.std.specs.BTreeMap.{insert_entry}
use Rattle.std.specs.Ordering.{nat_cmp, match_ordering}
use Rattle.std.specs.Cmp.Lexicographic.{slice_cmp}
use Rattle.serde_json.specs.Data as parsed
use Rattle.flag_text.specs.Reading.{number_shape, shape_of, items_shape, members_shape}
use Rattle.flag_text.specs.Readers.{as_text}
use Rattle.flag_text.specs.Shape.{Shape, whole, other, Items, no_items, item, Members, no_members, member, levels, items_levels, members_levels, has_other, items_have_other, members_have_other, is_in_range}
use Rattle.bucket_core.specs.Reading.{weight_of, bucket_with, bucket_from}
use Rattle.rule_text.specs.Parts.{weighed, extent_at, part_of, both, weight_behind, rest_of, list_of, extents_of, extents_view, all_extents}
use Rattle.rule_text.specs.declared.part.Extent.{Extent}

abbrev pick : {A : Type 0} → A → Option A → A
pick d None = d
pick d (Some a) = a

pub deep_max : (k a b : ℕ) → nat_lt k (max a b) ≡ (nat_lt k a || nat_lt k b)
deep_max k a b = grind (arith, nat_tests)

pub deep_suc : (depth l : ℕ) → nat_lt (1 + depth - 7) (suc l) ≡ (nat_lt depth 7 || nat_lt (depth - 7) l)
deep_suc depth l = grind (arith, nat_tests)

no_depth : (k : ℕ) → nat_lt k 0 ≡ false
no_depth k = grind (arith, nat_tests)

or_false : (b : Bool) → (b || false) ≡ b
or_false true = refl
or_false false = refl

or_more : (a b c : Bool) → (a || (b || c)) ≡ ((a || b) || c)
or_more true b c = refl
or_more false b c = refl

abbrev pub none : Extent
none = record { deep = false; other = false }

pub same_extent : (a b : Extent) → a.deep ≡ b.deep → a.other ≡ b.other → a ≡ b
same_extent a b d o = λ i. record { deep = d i; other = o i }

pub flat : (depth : ℕ) (x : Bool) → record { deep = false; other = x } ≡ extent_at depth 0 x
flat depth x = same_extent _ _ (sym (no_depth (depth - 7))) refl

pub both_none : (e : Extent) → both e none ≡ e
both_none e = same_extent _ _ (or_false e.deep) (or_false e.other)

pub both_more : (a b c : Extent) → both a (both b c) ≡ both (both a b) c
both_more a b c = same_extent _ _ (or_more a.deep b.deep c.deep) (or_more a.other b.other c.other)

pub at_max : (depth a b : ℕ) (x y : Bool) → extent_at depth (max a b) (x || y) ≡ both (extent_at depth a x) (extent_at depth b y)
at_max depth a b x y = same_extent _ _ (deep_max (depth - 7) a b) refl

-- ---- the items of a list

-- the weight behind a name, by the items that come after those which were read
abbrev pub walk : Bool → Option ℕ → Items → Option ℕ
walk begun w no_items = w
walk true w (item t ts) = walk true None ts
walk false w (item t ts) = walk true (weight_of t) ts

walk_none : (ts : Items) → walk true None ts ≡ None
walk_none no_items = refl
walk_none (item t ts) = walk_none ts

pub walk_all : (ts : Items) → walk false (Some 1) ts ≡ weight_behind ts
walk_all no_items = refl
walk_all (item t no_items) = refl
walk_all (item t (item u ts)) = walk_none ts

-- what was read, with the items that come after it
abbrev pub after : ℕ → Bool → Option ℕ → Extent → parsed.Items → Option ℕ × Extent
after depth begun w e ds = (walk begun w (items_shape ds), both e (extent_at depth (items_levels (items_shape ds)) (items_have_other (items_shape ds))))

pub after_none : (depth : ℕ) (ds : parsed.Items) → rest_of depth (items_shape ds) ≡ after depth false (Some 1) none ds
after_none depth ds = ap (λ w. (w, extent_at depth (items_levels (items_shape ds)) (items_have_other (items_shape ds)))) (sym (walk_all (items_shape ds)))

walked : (begun : Bool) (w : Option ℕ) (t : Shape) (ts : Items) (next : Option ℕ) → next ≡ cond begun None (weight_of t) → walk begun w (item t ts) ≡ walk true next ts
walked true w t ts next is = ap (λ o. walk true o ts) (sym is)
walked false w t ts next is = ap (λ o. walk true o ts) (sym is)

pub after_item : (depth : ℕ) (begun : Bool) (w next : Option ℕ) (e f : Extent) (d : parsed.Data) → next ≡ cond begun None (weight_of (shape_of d)) → f ≡ both e (extent_at depth (levels (shape_of d)) (has_other (shape_of d)))
    → (ds : parsed.Items) → after depth begun w e (parsed.item d ds) ≡ after depth true next f ds
after_item depth begun w next e f d is extent ds =
    let t = shape_of d in
    let ts = items_shape ds in
    let more = extent_at depth (items_levels ts) (items_have_other ts) in
    ap₂ (λ a b. (a, b)) (walked begun w t ts next is)
    (ap (both e) (at_max depth (levels t) (items_levels ts) (has_other t) (items_have_other ts)) ∙ both_more e (extent_at depth (levels t) (has_other t)) more ∙ ap (λ x. both x more) (sym extent))

-- ---- the members of an object

-- the order of lent texts
abbrev pub lent_cmp : Bor (List ℕ) → Bor (List ℕ) → Ordering
lent_cmp x y = slice_cmp nat_cmp x.now y.now

viewed : (o : Ordering) (a b c : List (Bor (List ℕ) × Extent)) → extents_view (match_ordering o a b c) ≡ match_ordering o (extents_view a) (extents_view b) (extents_view c)
viewed Less a b c = refl
viewed Equal a b c = refl
viewed Greater a b c = refl

view_insert : (k : Bor (List ℕ)) (v : Extent) (es : List (Bor (List ℕ) × Extent)) → extents_view (insert_entry lent_cmp es k v) ≡ insert_entry (slice_cmp nat_cmp) (extents_view es) k.now v
view_insert k v [] = refl
view_insert k v (e ∷ es) =
    viewed (lent_cmp k e.0) ((k, v) ∷ e ∷ es) ((e.0, v) ∷ es) (e ∷ insert_entry lent_cmp es k v)
    ∙ ap (λ rest. match_ordering (lent_cmp k e.0) ((k.now, v) ∷ extents_view (e ∷ es)) ((e.0.now, v) ∷ extents_view es) ((e.0.now, e.1) ∷ rest)) (view_insert k v es)

placed : (depth : ℕ) (o : Ordering) (a b c : parsed.Members) → extents_of depth (members_shape (match_ordering o a b c)) ≡ match_ordering o (extents_of depth (members_shape a)) (extents_of depth (members_shape b)) (extents_of depth (members_shape c))
placed depth Less a b c = refl
placed depth Equal a b c = refl
placed depth Greater a b c = refl

abbrev pub extent_in : ℕ → parsed.Data → Extent
extent_in depth d = extent_at depth (levels (shape_of d)) (has_other (shape_of d))

put_extent : (depth : ℕ) (k : List ℕ) (d : parsed.Data) (ms : parsed.Members) → extents_of depth (members_shape (parsed.put k d ms)) ≡ insert_entry (slice_cmp nat_cmp) (extents_of depth (members_shape ms)) k (extent_in depth d)
put_extent depth k d parsed.no_members = refl
put_extent depth k d (parsed.member l e ms) =
    placed depth (slice_cmp nat_cmp k l) (parsed.member k d (parsed.member l e ms)) (parsed.member l d ms) (parsed.member l e (parsed.put k d ms))
    ∙ ap (λ rest. match_ordering (slice_cmp nat_cmp k l) ((k, extent_in depth d) ∷ (l, extent_in depth e) ∷ extents_of depth (members_shape ms)) ((l, extent_in depth d) ∷ extents_of depth (members_shape ms)) ((l, extent_in depth e) ∷ rest)) (put_extent depth k d ms)

-- one more member
pub one_more : (depth : ℕ) (old new : List (Bor (List ℕ) × Extent)) (k : Bor (List ℕ)) (v : Extent) (d : parsed.Data) (ms : parsed.Members) → new ≡ insert_entry lent_cmp old k v → v ≡ extent_in depth d
    → extents_view old ≡ extents_of depth (members_shape ms) → extents_view new ≡ extents_of depth (members_shape (parsed.put k.now d ms))
one_more depth old new k v d ms is extent seen =
    ap extents_view is ∙ view_insert k v old ∙ ap₂ (λ es e. insert_entry (slice_cmp nat_cmp) es k.now e) seen extent ∙ sym (put_extent depth k.now d ms)

pub all_members : (depth : ℕ) (ms : Members) → all_extents (extents_of depth ms) ≡ extent_at depth (members_levels ms) (members_have_other ms)
all_members depth no_members = flat depth false
all_members depth (member k t ms) = ap (both (extent_at depth (levels t) (has_other t))) (all_members depth ms) ∙ sym (at_max depth (levels t) (members_levels ms) (has_other t) (members_have_other ms))

-- ---- a value of each kind

scalar : (depth : ℕ) (b : Bool) (z : ℤ) (w : Option ℕ) (x : Bool) → w ≡ weight_of (cond b (whole z) other) → x ≡ has_other (cond b (whole z) other)
    → (None, w, None, record { deep = false; other = x }) ≡ part_of depth (cond b (whole z) other)
scalar depth true z w x weight more = ap₂ (λ a e. (None, a, None, e)) weight (flat depth x ∙ ap (extent_at depth 0) more)
scalar depth false z w x weight more = ap₂ (λ a e. (None, a, None, e)) weight (flat depth x ∙ ap (extent_at depth 0) more)

pub number_part : (depth : ℕ) (n : parsed.Num) (w : Option ℕ) (x : Bool) → w ≡ weight_of (number_shape n) → x ≡ has_other (number_shape n) → (None, w, None, record { deep = false; other = x }) ≡ part_of depth (number_shape n)
number_part depth (parsed.unsigned n) w x weight more = scalar depth (nat_lt n (2 ^ 53)) (pos n) w x weight more
number_part depth (parsed.negative z) w x weight more = scalar depth (is_in_range z) z w x weight more
number_part depth (parsed.float f) w x weight more = scalar depth false (pos 0) w x weight more

pub weighed_some : (o : Option parsed.Num) (w : Option ℕ) (x : Bool) → Some (w, x) ≡ option_map weighed o → (n : parsed.Num) × (o ≡ Some n) × (w ≡ weight_of (number_shape n)) × (x ≡ has_other (number_shape n))
weighed_some None w x e = absurd (cc)
weighed_some (Some n) w x e = let same = ap (pick (w, x)) e in (n, refl, ap (λ p. p.0) same, ap (λ p. p.1) same)

pub weighed_none : (o : Option parsed.Num) → None ≡ option_map weighed o → o ≡ None
weighed_none None e = refl
weighed_none (Some n) e = absurd (cc)

-- a list or an object around values that may nest so deep
abbrev pub around : ℕ → Extent → Extent
around depth e = record { deep = nat_lt depth 7 || e.deep; other = e.other }

pub around_at : (depth l : ℕ) (x : Bool) → around depth (extent_at depth l x) ≡ extent_at (1 + depth) (suc l) x
around_at depth l x = same_extent _ _ (sym (deep_suc depth l)) refl

bucket_with_none : (o : Option (List ℕ)) → option_and_then {U = List ℕ × ℕ} (λ s. option_map (λ n. (s, n)) None) o ≡ None
bucket_with_none None = refl
bucket_with_none (Some s) = refl

-- a name before what stands behind it
bucket_behind : (t : Shape) (ts : Items) → bucket_with (weight_behind ts) t ≡ bucket_from (item t ts)
bucket_behind t no_items = refl
bucket_behind t (item u no_items) = refl
bucket_behind t (item u (item v ts)) = bucket_with_none (as_text t)

zipped : (name : Option (Bor (List ℕ))) (w : Option ℕ) → option_map {U = List ℕ × ℕ} (λ b. (b.0.now, b.1)) (option_zip name w) ≡ option_and_then (λ s. option_map {U = List ℕ × ℕ} (λ n. (s, n)) w) (option_map (λ s. s.now) name)
zipped None w = refl
zipped (Some s) None = refl
zipped (Some s) (Some n) = refl

-- a list of a first item and others
pub list_part : (depth : ℕ) (name : Option (Bor (List ℕ))) (w : Option ℕ) (f r e : Extent) (t : Shape) (ts : Items) → option_map (λ s. s.now) name ≡ as_text t → f ≡ extent_at depth (levels t) (has_other t)
    → (w, r) ≡ rest_of depth ts → e ≡ around depth (both f r) → (None, None, option_map {U = List ℕ × ℕ} (λ b. (b.0.now, b.1)) (option_zip name w), e) ≡ list_of depth (item t ts)
list_part depth name w f r e t ts named first rest is =
    let weight : w ≡ weight_behind ts = ap (λ p. p.0) rest in
    let more : r ≡ extent_at depth (items_levels ts) (items_have_other ts) = ap (λ p. p.1) rest in
    let bucket = zipped name w ∙ ap₂ (λ o n. option_and_then (λ s. option_map {U = List ℕ × ℕ} (λ m. (s, m)) n) o) named weight ∙ bucket_behind t ts in
    let whole = ap₂ both first more ∙ sym (at_max depth (levels t) (items_levels ts) (has_other t) (items_have_other ts)) in
    ap₂ (λ b x. (None, None, b, x)) bucket (is ∙ ap (around depth) whole ∙ around_at depth (max (levels t) (items_levels ts)) (has_other t || items_have_other ts))

-- ---- the extent of entries

pub all_push : (es : List (Bor (List ℕ) × Extent)) (e : Bor (List ℕ) × Extent) → all_extents (extents_view (es ++ e ∷ [])) ≡ both (all_extents (extents_view es)) e.1
all_push [] e = both_none e.1
all_push (x ∷ es) e = ap (both x.1) (all_push es e) ∙ both_more x.1 (all_extents (extents_view es)) e.1
