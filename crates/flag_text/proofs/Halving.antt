-- Members whose names rise: which of them a search by halving finds, and that trees read have such members.
use Rattle.std.proofs.Common.{◌≡◌, ℕ, zero, suc, ◌<◌, List, [], ◌∷◌, length, get_or, string_bytes, Bool, true, false, cond, Option, Some, None, Ordering, Less, Equal, Greater, nat_cmp, refl, sym, ap, ◌∙◌, subst, add-one, inl, inr, arith}
use Rattle.std.specs.Prelude.{IfSome}
use Rattle.std.specs.Cmp.Lexicographic.{slice_cmp}
use Rattle.std.specs.List.Sorted.{IsNonDecreasingBy}
use Rattle.std.specs.Ordering.{match_ordering, ordering_reverse, ordering_index, is_lt, is_eq}
use Rattle.std.specs.List.{AllWithin}
use Rattle.std.proofs.lemmas.Bool.{cases_lt}
use Rattle.std.proofs.lemmas.Slice.Eq.{bytes_eq-Decides}
use Rattle.std.specs.Str.{bytes_eq}
use Rattle.std.proofs.lemmas.Cmp.{nat_list_cmp_total, alike_right}
use Rattle.std.proofs.lemmas.List.Sorted.{searchable_from_sorted}
use Rattle.std.proofs.lemmas.Map.Text.{is_eq-slice_cmp}
use Rattle.flag_text.specs.Readers.{as_object, find_member}
use Rattle.flag_text.specs.Shape.{Shape, null, boolean, whole, other, text, list, object, Members, no_members, member, comes_first, names_rise, is_whole, members_are_whole, is_tidy, members_are_tidy}
use Rattle.flag_text.specs.View.{view, members_view}
use Rattle.flag_text.proofs.Bools.{both, left, right, Holds}
use Rattle.flag_text.proofs.Views.{Named}

abbrev pub name_of : Named → List ℕ
name_of m = string_bytes m.0

less_if : (o : Ordering) → match_ordering o true false false ≡ true → o ≡ Less
less_if Less e = refl
less_if Equal e = cc
less_if Greater e = cc

-- a name in front of the first of members whose names rise is in front of each
pub before_each : (k : List ℕ) (ms : List Named) → comes_first k (members_view ms) ≡ true → names_rise (members_view ms) ≡ true
    → (i : ℕ) (d : Named) → i < length ms → slice_cmp nat_cmp k (name_of (get_or ms i d)) ≡ Less
before_each k [] first rise i d h = absurd (omega arith)
before_each k (m ∷ ms) first rise zero d h = less_if (slice_cmp nat_cmp k (name_of m)) first
before_each k (m ∷ ms) first rise (suc i) d h =
    nat_list_cmp_total.trans k (name_of m) (name_of (get_or ms i d)) (less_if (slice_cmp nat_cmp k (name_of m)) first)
    (before_each (name_of m) ms (left _ _ rise) (right (comes_first (name_of m) (members_view ms)) _ rise) i d (omega arith))

not_below : (a b : List ℕ) → slice_cmp nat_cmp a b ≡ Less → is_lt (slice_cmp nat_cmp b a) ≡ false
not_below a b e = ap is_lt (nat_list_cmp_total.antisymm b a ∙ ap ordering_reverse e)

sorted_at : (ms : List Named) → names_rise (members_view ms) ≡ true → (k : ℕ) (d : Named) → suc k < length ms
    → is_lt (slice_cmp nat_cmp (name_of (get_or ms (suc k) d)) (name_of (get_or ms k d))) ≡ false
sorted_at [] rise k d h = absurd (omega arith)
sorted_at (m ∷ ms) rise zero d h =
    not_below (name_of m) (name_of (get_or ms 0 d)) (before_each (name_of m) ms (left _ _ rise) (right (comes_first (name_of m) (members_view ms)) _ rise) 0 d (omega arith))
sorted_at (m ∷ ms) rise (suc k) d h = sorted_at ms (right (comes_first (name_of m) (members_view ms)) _ rise) k d (omega arith)

pub searchable : (ms : List Named) (name : List ℕ) → names_rise (members_view ms) ≡ true
    → IsNonDecreasingBy (λ m. ordering_index (slice_cmp nat_cmp (name_of m) name)) ms
searchable ms name rise =
    searchable_from_sorted nat_list_cmp_total name_of ms name (λ k d low high. rw add-one (sorted_at ms rise k d (omega arith)))

found_first : (b : Bool) (t : Shape) (o : Option Shape) → b ≡ true → cond b (Some t) o ≡ Some t
found_first b t o e = rw e refl

passed : (b : Bool) (t : Shape) (o : Option Shape) → b ≡ false → cond b (Some t) o ≡ o
passed b t o e = rw e refl

unlike : (a b : List ℕ) (o : Ordering) → slice_cmp nat_cmp a b ≡ o → is_eq o ≡ false → bytes_eq a b ≡ false
unlike a b o e n = sym (is_eq-slice_cmp a b) ∙ (ap is_eq e ∙ n)

alike : (a b : List ℕ) → slice_cmp nat_cmp a b ≡ Equal → bytes_eq a b ≡ true
alike a b e = sym (is_eq-slice_cmp a b) ∙ ap is_eq e

pub same_name : (a b : List ℕ) → slice_cmp nat_cmp a b ≡ Equal → a ≡ b
same_name a b e = (bytes_eq-Decides a b).0 (alike a b e)

-- on both sides of the place where a name would stand, no name compares equal
pub apart : (ms : List Named) (name : List ℕ) (place : ℕ) → AllWithin (λ m. slice_cmp nat_cmp (name_of m) name ≡ Less) ms 0 place
    → AllWithin (λ m. slice_cmp nat_cmp (name_of m) name ≡ Greater) ms place (length ms)
    → (i : ℕ) (d : Named) → i < length ms → is_eq (slice_cmp nat_cmp (name_of (get_or ms i d)) name) ≡ false
apart ms name place below above i d h =
    elim (cases_lt i place) [ inl less ↦ ap is_eq (below i d (omega arith) less) | inr past ↦ ap is_eq (above i d past h) ]

-- the member that compares equal is the one that is found
pub found_at : (ms : List Named) (name : List ℕ) → names_rise (members_view ms) ≡ true → (i : ℕ) (d : Named) → i < length ms
    → slice_cmp nat_cmp (name_of (get_or ms i d)) name ≡ Equal → find_member name (members_view ms) ≡ Some (view (get_or ms i d).1)
found_at [] name rise i d h e = absurd (omega arith)
found_at (m ∷ ms) name rise zero d h e = found_first (bytes_eq (name_of m) name) (view m.1) _ (alike (name_of m) name e)
found_at (m ∷ ms) name rise (suc i) d h e =
    let rest = right (comes_first (name_of m) (members_view ms)) _ rise in
    let below = before_each (name_of m) ms (left _ _ rise) rest i d (omega arith) in
    passed (bytes_eq (name_of m) name) (view m.1) _
    (unlike (name_of m) name Less (sym (alike_right nat_list_cmp_total (name_of (get_or ms i d)) name (name_of m) e) ∙ below) refl)
    ∙ found_at ms name rest i d (omega arith) e

-- where none compares equal, none is found
pub found_none : (ms : List Named) (name : List ℕ) → ((i : ℕ) (d : Named) → i < length ms → is_eq (slice_cmp nat_cmp (name_of (get_or ms i d)) name) ≡ false)
    → find_member name (members_view ms) ≡ None
found_none [] name apart = refl
found_none (m ∷ ms) name apart =
    passed (bytes_eq (name_of m) name) (view m.1) _ (sym (is_eq-slice_cmp (name_of m) name) ∙ apart 0 m (omega arith))
    ∙ found_none ms name (λ i d h. apart (suc i) d (omega arith))

-- a whole object has members whose names rise, and whole members
pub names_rise-whole : (ms : Members) → members_are_whole ms ≡ true → names_rise ms ≡ true
names_rise-whole no_members h = refl
names_rise-whole (member k t ms) h =
    both (comes_first k ms) _ (left _ _ h) (names_rise-whole ms (right (is_whole t) _ (right (comes_first k ms) _ h)))

pub names_rise-tidy : (ms : Members) → members_are_tidy ms ≡ true → names_rise ms ≡ true
names_rise-tidy no_members h = refl
names_rise-tidy (member k t ms) h =
    both (comes_first k ms) _ (left _ _ h) (names_rise-tidy ms (right (is_tidy t) _ (right (comes_first k ms) _ h)))

Holds-chosen : (f : Shape → Bool) (b : Bool) (t : Shape) (o : Option Shape) → f t ≡ true → Holds f o → Holds f (cond b (Some t) o)
Holds-chosen f true t o h later = h
Holds-chosen f false t o h later = later

pub is_whole-find_member : (name : List ℕ) (ms : Members) → members_are_whole ms ≡ true → Holds is_whole (find_member name ms)
is_whole-find_member name no_members h = tt
is_whole-find_member name (member k t ms) h =
    let rest = right (comes_first k ms) _ h in
    Holds-chosen is_whole (bytes_eq k name) t _ (left _ _ rest) (is_whole-find_member name ms (right (is_whole t) _ rest))

pub is_tidy-find_member : (name : List ℕ) (ms : Members) → members_are_tidy ms ≡ true → Holds is_tidy (find_member name ms)
is_tidy-find_member name no_members h = tt
is_tidy-find_member name (member k t ms) h =
    let rest = right (comes_first k ms) _ h in
    Holds-chosen is_tidy (bytes_eq k name) t _ (left _ _ rest) (is_tidy-find_member name ms (right (is_tidy t) _ rest))

pub names_rise-as_object : (t : Shape) (ms : Members) → as_object t ≡ Some ms → is_whole t ≡ true → names_rise ms ≡ true
names_rise-as_object (object ms) ns e h = names_rise-whole ns (subst (λ o. IfSome o (λ ks. members_are_whole ks ≡ true)) e h)
names_rise-as_object null ns e h = cc
names_rise-as_object (boolean b) ns e h = cc
names_rise-as_object (whole n) ns e h = cc
names_rise-as_object other ns e h = cc
names_rise-as_object (text s) ns e h = cc
names_rise-as_object (list ts) ns e h = cc
