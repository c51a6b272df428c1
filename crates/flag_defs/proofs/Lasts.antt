-- What is found among the members of a tree, by the value of JSON's grammar that it was read from: of members of one name the last.
use Rattle.std.proofs.Common.{◌≡◌, ℕ, ℤ, pos, ◌^◌, nat_lt, List, Bool, true, false, cond, Option, Some, None, option_map, option_and_then, Ordering, Less, Equal, Greater, refl, sym, ap, ◌∙◌}
use Rattle.std.specs.Ordering.{is_eq, nat_cmp, match_ordering, ordering_reverse}
use Rattle.std.specs.Cmp.Lexicographic.{slice_cmp}
use Rattle.std.specs.Str.{bytes_eq}
use Rattle.std.proofs.lemmas.Cmp.{nat_list_cmp_total}
use Rattle.std.proofs.lemmas.Map.Lookups.{exact_bytes}
use Rattle.std.proofs.lemmas.Map.Text.{is_eq-slice_cmp}
use Rattle.std.proofs.lemmas.Slice.Eq.{bytes_eq-Decides}
use Rattle.json.specs.Find.{get_member, later_or}
use Rattle.json.specs.Json as json
use Rattle.serde_json.specs.Data as parsed
use Rattle.serde_json.specs.Read.{number_of}
use Rattle.flag_text.proofs.Bools.{both, left, right}
use Rattle.flag_text.specs.Grammar.{put, tree_from, items_from, members_from}
use Rattle.flag_text.specs.Reading.{number_shape}
use Rattle.flag_text.specs.Readers.{find_member}
use Rattle.flag_text.specs.Shape.{Shape, whole, other, list, object, Items, Members, no_members, member, comes_first, is_in_range, names_rise}
use Rattle.spelled_numbers.specs.Floats.{each_member, in_object}

-- ---- names

pub same_name : (k l : List ℕ) → bytes_eq k l ≡ true → k ≡ l
same_name k l h = (bytes_eq-Decides k l).0 h

pub one_name : (k l : List ℕ) → k ≡ l → bytes_eq k l ≡ true
one_name k l e = (bytes_eq-Decides k l).1 e

-- two names that are not the same are not both a third
pub not_both : (k l name : List ℕ) → slice_cmp nat_cmp k l ≡ Greater → bytes_eq k name ≡ true → bytes_eq l name ≡ true → ⊥
not_both k l name o p q =
    let differ : bytes_eq k l ≡ false = sym (is_eq-slice_cmp k l) ∙ ap is_eq o in
    let same : bytes_eq k l ≡ true = one_name k l (same_name k name p ∙ sym (same_name l name q)) in
    cc

-- ---- one more member

pub twice : {X : Type 0} (b c : Bool) (x y z : X) → b ≡ c → cond c x z ≡ cond b x (cond c y z)
twice true true x y z e = refl
twice true false x y z e = cc
twice false true x y z e = cc
twice false false x y z e = refl

pub swapped : {X : Type 0} (b c : Bool) (x y z : X) → (b ≡ true → c ≡ true → ⊥) → cond c y (cond b x z) ≡ cond b x (cond c y z)
swapped true true x y z h = absurd (h refl refl)
swapped true false x y z h = refl
swapped false true x y z h = refl
swapped false false x y z h = refl

pub put_found : (name k : List ℕ) (t : Shape) (ms : Members) → find_member name (put k t ms) ≡ cond (bytes_eq k name) (Some t) (find_member name ms)
put_found name k t no_members = refl
put_found name k t (member l u ms) = by (slice_cmp nat_cmp k l) refl (put_found name k t ms)
  where
    by : (o : Ordering) → slice_cmp nat_cmp k l ≡ o → find_member name (put k t ms) ≡ cond (bytes_eq k name) (Some t) (find_member name ms)
        → find_member name (match_ordering o (member k t (member l u ms)) (member l t ms) (member l u (put k t ms))) ≡ cond (bytes_eq k name) (Some t) (cond (bytes_eq l name) (Some u) (find_member name ms))
    by Less e later = refl
    by Equal e later = twice (bytes_eq k name) (bytes_eq l name) (Some t) (Some u) (find_member name ms) (ap (λ (x : List ℕ). bytes_eq x name) (exact_bytes k l e))
    by Greater e later =
        ap (λ (o : Option Shape). cond (bytes_eq l name) (Some u) o) later ∙ swapped (bytes_eq k name) (bytes_eq l name) (Some t) (Some u) (find_member name ms) (not_both k l name e)

-- ---- all members

-- the tree of the value that is found, else what was found before
abbrev pub read_or : Option json.Json → Option Shape → Option Shape
read_or None before = before
read_or (Some j) before = tree_from j

one_later : (g : Option json.Json) (b : Bool) (j : json.Json) (t : Shape) (before : Option Shape) → tree_from j ≡ Some t → read_or g (cond b (Some t) before) ≡ read_or (later_or g (cond b (Some j) None)) before
one_later (Some i) b j t before e = refl
one_later None true j t before e = sym e
one_later None false j t before e = refl

pub members_found : (name : List ℕ) (ms : json.Members) (before all : Members) → members_from ms before ≡ Some all → find_member name all ≡ read_or (get_member name ms) (find_member name before)
members_found name json.no_members before all e = let same : before ≡ all = cc in ap (find_member name) (sym same)
members_found name (json.member k j ms) before all e = by (λ b h. members_found name ms b all h) (tree_from j) refl e
  where
    by : ((b : Members) → members_from ms b ≡ Some all → find_member name all ≡ read_or (get_member name ms) (find_member name b)) → (o : Option Shape) → tree_from j ≡ o → option_and_then (λ t. members_from ms (put k t before)) o ≡ Some all
        → find_member name all ≡ read_or (later_or (get_member name ms) (cond (bytes_eq k name) (Some j) None)) (find_member name before)
    by later None is e = cc
    by later (Some t) is e =
        later (put k t before) e
        ∙ (ap (read_or (get_member name ms)) (put_found name k t before) ∙ one_later (get_member name ms) (bytes_eq k name) j t (find_member name before) is)

-- what is made of each member is made of the one that is found
each_later : (f : List ℕ → json.Json → json.Json) (name k : List ℕ) (j : json.Json) (g : Option json.Json) (b : Bool) → (b ≡ true → k ≡ name)
    → later_or (option_map (f name) g) (cond b (Some (f k j)) None) ≡ option_map (f name) (later_or g (cond b (Some j) None))
each_later f name k j (Some i) b h = refl
each_later f name k j None true h = ap (λ (x : List ℕ). Some (f x j)) (h refl)
each_later f name k j None false h = refl

pub each_found : (f : List ℕ → json.Json → json.Json) (name : List ℕ) (ms : json.Members) → get_member name (each_member f ms) ≡ option_map (f name) (get_member name ms)
each_found f name json.no_members = refl
each_found f name (json.member k j ms) =
    ap (λ (g : Option json.Json). later_or g (cond (bytes_eq k name) (Some (f k j)) None)) (each_found f name ms) ∙ each_later f name k j (get_member name ms) (bytes_eq k name) (same_name k name)

-- ---- names rise in what is read

pub is_less : (o : Ordering) → match_ordering o true false false ≡ true → o ≡ Less
is_less Less h = refl
is_less Equal h = cc
is_less Greater h = cc

comes_before : (l k : List ℕ) (t : Shape) (ms : Members) → slice_cmp nat_cmp l k ≡ Less → comes_first l ms ≡ true → comes_first l (put k t ms) ≡ true
comes_before l k t no_members e h = ap (λ (o : Ordering). match_ordering o true false false) e
comes_before l k t (member m u ms) e h = by (slice_cmp nat_cmp k m)
  where
    by : (o : Ordering) → comes_first l (match_ordering o (member k t (member m u ms)) (member m t ms) (member m u (put k t ms))) ≡ true
    by Less = ap (λ (o : Ordering). match_ordering o true false false) e
    by Equal = h
    by Greater = h

put_rises : (k : List ℕ) (t : Shape) (ms : Members) → names_rise ms ≡ true → names_rise (put k t ms) ≡ true
put_rises k t no_members r = refl
put_rises k t (member m u ms) r = by (slice_cmp nat_cmp k m) refl (put_rises k t ms (right (comes_first m ms) (names_rise ms) r))
  where
    by : (o : Ordering) → slice_cmp nat_cmp k m ≡ o → names_rise (put k t ms) ≡ true → names_rise (match_ordering o (member k t (member m u ms)) (member m t ms) (member m u (put k t ms))) ≡ true
    by Less e later = both (comes_first k (member m u ms)) (names_rise (member m u ms)) (ap (λ (o : Ordering). match_ordering o true false false) e) r
    by Equal e later = r
    by Greater e later =
        both (comes_first m (put k t ms)) (names_rise (put k t ms))
        (comes_before m k t ms (nat_list_cmp_total.antisymm m k ∙ ap ordering_reverse e) (left (comes_first m ms) (names_rise ms) r)) later

pub members_rise : (ms : json.Members) (before all : Members) → members_from ms before ≡ Some all → names_rise before ≡ true → names_rise all ≡ true
members_rise json.no_members before all e r = let same : before ≡ all = cc in ap names_rise (sym same) ∙ r
members_rise (json.member k j ms) before all e r = by (λ b h q. members_rise ms b all h q) (tree_from j) e
  where
    by : ((b : Members) → members_from ms b ≡ Some all → names_rise b ≡ true → names_rise all ≡ true) → (o : Option Shape) → option_and_then (λ t. members_from ms (put k t before)) o ≡ Some all → names_rise all ≡ true
    by later None h = cc
    by later (Some t) h = later (put k t before) h (put_rises k t before r)

-- ---- an object

no_whole : (b : Bool) (z : ℤ) (ms : Members) → ◌≡◌ {A = Option Shape} (Some (cond b (whole z) other)) (Some (object ms)) → ⊥
no_whole true z ms e = cc
no_whole false z ms e = cc

no_number : (o : Option parsed.Num) (ms : Members) → option_map number_shape o ≡ Some (object ms) → ⊥
no_number None ms e = cc
no_number (Some (parsed.unsigned n)) ms e = no_whole (nat_lt n (2 ^ 53)) (pos n) ms e
no_number (Some (parsed.negative z)) ms e = no_whole (is_in_range z) z ms e
no_number (Some (parsed.float x)) ms e = cc

no_list : (o : Option Items) (ms : Members) → option_map list o ≡ Some (object ms) → ⊥
no_list None ms e = cc
no_list (Some ts) ms e = cc

its_members : (o : Option Members) (ms : Members) → option_map object o ≡ Some (object ms) → o ≡ Some ms
its_members None ms e = cc
its_members (Some x) ms e = let same : x ≡ ms = cc in ap Some same

-- what is read as an object is one
pub object_read : (f : List ℕ → json.Json → json.Json) (j : json.Json) (ms : Members) → tree_from (in_object f j) ≡ Some (object ms) → (js : json.Members) × (j ≡ json.object js) × (members_from (each_member f js) no_members ≡ Some ms)
object_read f json.null ms e = cc
object_read f (json.boolean b) ms e = cc
object_read f (json.number s) ms e = absurd (no_number (number_of s) ms e)
object_read f (json.string s) ms e = cc
object_read f (json.array js) ms e = absurd (no_list (items_from js) ms e)
object_read f (json.object js) ms e = (js, refl, its_members (members_from (each_member f js) no_members) ms e)

-- the member of such an object, by that of the value
pub member_read : (f : List ℕ → json.Json → json.Json) (name : List ℕ) (js : json.Members) (ms : Members) (t : Shape) → members_from (each_member f js) no_members ≡ Some ms → find_member name ms ≡ Some t
    → (j : json.Json) × (get_member name js ≡ Some j) × (tree_from (f name j) ≡ Some t)
member_read f name js ms t e found = by (get_member name js) refl (ap (λ (g : Option json.Json). read_or g None) (sym (each_found f name js)) ∙ (sym (members_found name (each_member f js) no_members ms e) ∙ found))
  where
    by : (g : Option json.Json) → get_member name js ≡ g → read_or (option_map (f name) g) None ≡ Some t → (j : json.Json) × (get_member name js ≡ Some j) × (tree_from (f name j) ≡ Some t)
    by None is h = cc
    by (Some j) is h = (j, is, h)
