-- The first name of an object that has one member.
use Rattle.std.proofs.Common.{◌≡◌, ℕ, ◌⊎◌, inl, inr, Bool, true, false, nat_lt, Ordering, Less, Equal, Greater, nat_cmp, List, [], ◌∷◌, ◌++◌, Option, Some, None, option_map, option_and_then, pos, ◌^◌, if◌then◌else◌, refl, ap, ◌∙◌, subst}
use Rattle.std.specs.Ordering.{match_ordering}
use Rattle.std.specs.Cmp.Lexicographic.{slice_cmp}
use Rattle.std.specs.Prelude.{ℤ}
use Rattle.json.specs.Json as json
use Rattle.json.specs.Token.{Token, begin_object, key}
use Rattle.json.specs.Tree.{json_tokens, members_tokens}
use Rattle.json.proofs.Unique.Spelling.{value-json_tokens_back}
use Rattle.json.specs.Lex.{tokens}
use Rattle.serde_json.specs.Data.{Num, unsigned, negative, float, Data, null, boolean, number, string, array, object, Members, no_members, member, put}
use Rattle.serde_json.specs.Read.{of_json, of_items, of_members, number_of, max_depth, read}
use Rattle.flag_text.specs.Shape as shape
use Rattle.flag_text.specs.Shape.{is_in_range}
use Rattle.flag_text.specs.Reading.{number_shape, shape_of, members_shape}

-- ---- names that were put stay

abbrev Has : List ℕ → Members → Type 0
Has k no_members = ⊥
Has k (member l d ms) = (k ≡ l) ⊎ Has k ms

stays_at : (o : Ordering) (h k l : List ℕ) (d e : Data) (ms : Members) → Has h (member l e ms) → (Has h ms → Has h (put k d ms)) → Has h (match_ordering o (member k d (member l e ms)) (member l d ms) (member l e (put k d ms)))
stays_at Less h k l d e ms there later = inr there
stays_at Equal h k l d e ms there later = there
stays_at Greater h k l d e ms (inl same) later = inl same
stays_at Greater h k l d e ms (inr there) later = inr (later there)

stays : (h k : List ℕ) (d : Data) (ms : Members) → Has h ms → Has h (put k d ms)
stays h k d no_members there = absurd there
stays h k d (member l e ms) there = stays_at (slice_cmp nat_cmp k l) h k l d e ms there (stays h k d ms)

stays_in : (h : List ℕ) (js : json.Members) (found ms : Members) → Has h found → of_members js found ≡ Some ms → Has h ms
stays_in h json.no_members found ms there e = let same : found ≡ ms = cc in subst (Has h) same there
stays_in h (json.member k j js) found ms there e = go (of_json j) e (λ d. stays_in h js (put k d found) ms (stays h k d found there))
  where
    go : (o : Option Data) → option_and_then (λ d. of_members js (put k d found)) o ≡ Some ms → ((d : Data) → of_members js (put k d found) ≡ Some ms → Has h ms) → Has h ms
    go None f later = cc
    go (Some d) f later = later d f

only : (h k : List ℕ) (d : Data) → Has h (member k d no_members) → h ≡ k
only h k d (inl same) = same
only h k d (inr never) = absurd never

-- ---- an object with one member

-- the members of a value, of which the first has the name
abbrev Named : json.Json → List ℕ → Type 0
Named j name = (k : json.Json) × (ms : json.Members) × (j ≡ json.object (json.member name k ms))

first_name : (js : json.Members) (name : List ℕ) (d : Data) → of_members js no_members ≡ Some (member name d no_members) → Named (json.object js) name
first_name json.no_members name d e = let same : no_members ≡ member name d no_members = cc in cc
first_name (json.member k j js) name d e = go (of_json j) e
  where
    go : (o : Option Data) → option_and_then (λ c. of_members js (put k c no_members)) o ≡ Some (member name d no_members) → Named (json.object (json.member k j js)) name
    go None f = cc
    go (Some c) f = let same = only k name d (stays_in k js (member k c no_members) (member name d no_members) (inl refl) f) in (j, js, ap (λ n. json.object (json.member n j js)) same)

mapped : {A : Type 0} (f : A → Data) (o : Option A) (ms : Members) → ((a : A) → f a ≡ object ms → ⊥) → option_map f o ≡ Some (object ms) → ⊥
mapped f None ms never e = cc
mapped f (Some a) ms never e = never a cc

named_value : (j : json.Json) (name : List ℕ) (d : Data) → of_json j ≡ Some (object (member name d no_members)) → Named j name
named_value json.null name d e = let same : null ≡ object (member name d no_members) = cc in cc
named_value (json.boolean b) name d e = let same : boolean b ≡ object (member name d no_members) = cc in cc
named_value (json.number s) name d e = absurd (mapped number (number_of s) (member name d no_members) (λ a f. cc) e)
named_value (json.string s) name d e = let same : string s ≡ object (member name d no_members) = cc in cc
named_value (json.array js) name d e = absurd (mapped array (of_items js) (member name d no_members) (λ a f. cc) e)
named_value (json.object js) name d e = go (of_members js no_members) refl e
  where
    go : (o : Option Members) → of_members js no_members ≡ o → option_map object o ≡ Some (object (member name d no_members)) → Named (json.object js) name
    go None is f = cc
    go (Some ms) is f = let same : ms ≡ member name d no_members = cc in first_name js name d (is ∙ ap Some same)

-- ---- as a tree

no_number : (b : Bool) (z : ℤ) (ms : shape.Members) → (if b then shape.whole z else shape.other) ≡ shape.object ms → ⊥
no_number true z ms e = cc
no_number false z ms e = cc

number_is_none : (n : Num) (ms : shape.Members) → number_shape n ≡ shape.object ms → ⊥
number_is_none (unsigned n) ms e = no_number (nat_lt n (2 ^ 53)) (pos n) ms e
number_is_none (negative z) ms e = no_number (is_in_range z) z ms e
number_is_none (float x) ms e = cc

-- the one member of a value
abbrev One : Data → List ℕ → Type 0
One v name = (d : Data) × (v ≡ object (member name d no_members))

one_of : (ms : Members) (name : List ℕ) (t : shape.Shape) → members_shape ms ≡ shape.member name t shape.no_members → One (object ms) name
one_of no_members name t e = cc
one_of (member k d no_members) name t e = let same : k ≡ name = cc in (d, ap (λ n. object (member n d no_members)) same)
one_of (member k d (member l c ms)) name t e = let same : shape.member l (shape_of c) (members_shape ms) ≡ shape.no_members = cc in cc

one_member : (v : Data) (name : List ℕ) (t : shape.Shape) → shape_of v ≡ shape.object (shape.member name t shape.no_members) → One v name
one_member null name t e = cc
one_member (boolean b) name t e = cc
one_member (number n) name t e = absurd (number_is_none n (shape.member name t shape.no_members) e)
one_member (string s) name t e = cc
one_member (array ds) name t e = cc
one_member (object ms) name t e = let same : members_shape ms ≡ shape.member name t shape.no_members = cc in one_of ms name t same

-- ---- as tokens

-- the tokens of an object whose first member has the name
abbrev pub Opens : List Token → List ℕ → Type 0
Opens ts name = (more : List Token) × (ts ≡ begin_object ∷ (key name ∷ more))

opens_value : (ts rest : List Token) (j : json.Json) (name : List ℕ) → json.value max_depth ts ≡ Some (j, rest) → Named j name → Opens ts name
opens_value ts rest j name e n =
    let same : ts ≡ begin_object ∷ (members_tokens (json.member name n.0 n.1) ++ rest) = value-json_tokens_back max_depth ts rest j e ∙ ap (λ v. json_tokens v ++ rest) n.2 in
    (_, same)

opens_last : (o : Option (json.Json × List Token)) (ts : List Token) (name : List ℕ) (d : Data) → json.value max_depth ts ≡ o
    → option_and_then of_json (option_and_then (λ p. json.if_last p.0 p.1) o) ≡ Some (object (member name d no_members)) → Opens ts name
opens_last None ts name d is e = cc
opens_last (Some (j, [])) ts name d is e = opens_value ts [] j name is (named_value j name d e)
opens_last (Some (j, t ∷ rest)) ts name d is e = cc

-- a text whose tree is an object with one member begins so
pub opens_read : (bytes : List ℕ) (v : Data) (name : List ℕ) (t : shape.Shape) → read bytes ≡ Some v → shape_of v ≡ shape.object (shape.member name t shape.no_members) → Opens (tokens bytes) name
opens_read bytes v name t e s =
    let one = one_member v name t s in
    opens_last (json.value max_depth (tokens bytes)) (tokens bytes) name one.0 refl (e ∙ ap Some one.1)
