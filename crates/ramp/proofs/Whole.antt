-- A part of a tree of whole numbers is one, and so is the request of a step.
use Rattle.std.proofs.Common.{◌≡◌, ℕ, Bool, true, false, cond, List, ◌∷◌, codes, Option, Some, None, option_and_then, IfSome, Ordering, Less, Equal, Greater, refl, subst, sym, ap, ◌∙◌}
use Rattle.std.specs.Cmp.Lexicographic.{slice_cmp}
use Rattle.std.specs.Ordering.{match_ordering, nat_cmp}
use Rattle.std.specs.Str.{bytes_eq}
use Rattle.std.proofs.lemmas.Cmp.{nat_list_cmp_total}
use Rattle.std.proofs.lemmas.Slice.Eq.{bytes_eq-Decides}
use Rattle.flag_text.proofs.Bools.{both, left, right, Holds, Holds-and_then}
use Rattle.flag_text.specs.Readers.{as_list, find_member, member_of}
use Rattle.flag_text.specs.Shape.{Shape, null, boolean, whole, other, text, list, object, Items, Members, no_members, member, comes_first, is_whole, items_are_whole, members_are_whole}
use Rattle.ramp.specs.Steps.{request_with, with_totals}

either : (b : Bool) (o p : Option Shape) → Holds is_whole o → Holds is_whole p → Holds is_whole (cond b o p)
either true o p h k = h
either false o p h k = k

find_whole : (name : List ℕ) (ms : Members) → members_are_whole ms ≡ true → Holds is_whole (find_member name ms)
find_whole name no_members h = tt
find_whole name (member k t ms) h =
    either (bytes_eq k name) (Some t) (find_member name ms) (left (is_whole t) _ (right (comes_first k ms) _ h)) (find_whole name ms (right (is_whole t) _ (right (comes_first k ms) _ h)))

pub member_whole : (name : List ℕ) (t : Shape) → is_whole t ≡ true → Holds is_whole (member_of name t)
member_whole name null h = tt
member_whole name (boolean b) h = tt
member_whole name (whole n) h = tt
member_whole name other h = tt
member_whole name (text s) h = tt
member_whole name (list ts) h = tt
member_whole name (object ms) h = find_whole name ms h

list_whole : (t : Shape) → is_whole t ≡ true → Holds items_are_whole (as_list t)
list_whole null h = tt
list_whole (boolean b) h = tt
list_whole (whole n) h = tt
list_whole other h = tt
list_whole (text s) h = tt
list_whole (list ts) h = h
list_whole (object ms) h = tt

-- the list of a member
pub items_whole : (name : List ℕ) (t : Shape) → is_whole t ≡ true → Holds items_are_whole (let o : Option Items = option_and_then as_list (member_of name t) in o)
items_whole name t h = Holds-and_then is_whole items_are_whole as_list list_whole (member_of name t) (member_whole name t h)

-- ---- the request

before : (o : Ordering) → match_ordering o true false false ≡ true → o ≡ Less
before Less h = refl
before Equal h = cc
before Greater h = cc

-- what comes before `steps` comes before `totals`
comes_before : (k : List ℕ) → slice_cmp nat_cmp k (codes "steps") ≡ Less → slice_cmp nat_cmp k (codes "totals") ≡ Less
comes_before k h = nat_list_cmp_total.trans k (codes "steps") (codes "totals") h refl

first_by : (b : Bool) (k name : List ℕ) (totals t : Shape) (ms : Members) → bytes_eq name (codes "steps") ≡ b → comes_first k (member name t ms) ≡ true
    → comes_first k (cond b (member (codes "totals") totals no_members) (member name t (with_totals totals ms))) ≡ true
first_by true k name totals t ms is h =
    let same : name ≡ codes "steps" = (bytes_eq-Decides name (codes "steps")).0 is in
    let below = before (slice_cmp nat_cmp k name) h in
    let less = comes_before k (subst (λ n. slice_cmp nat_cmp k n ≡ Less) same below) in
    ap (λ o. match_ordering o true false false) less
first_by false k name totals t ms is h = h

first-with : (k : List ℕ) (totals : Shape) (ms : Members) → comes_first k ms ≡ true → comes_first k (with_totals totals ms) ≡ true
first-with k totals no_members h = refl
first-with k totals (member name t ms) h = first_by (bytes_eq name (codes "steps")) k name totals t ms refl h

whole_by : (b : Bool) (name : List ℕ) (totals t : Shape) (ms : Members) → is_whole totals ≡ true → members_are_whole (member name t ms) ≡ true → members_are_whole (with_totals totals ms) ≡ true
    → members_are_whole (cond b (member (codes "totals") totals no_members) (member name t (with_totals totals ms))) ≡ true
whole_by true name totals t ms one h rest = both (is_whole totals) true one refl
whole_by false name totals t ms one h rest =
    both (comes_first name (with_totals totals ms)) _ (first-with name totals ms (left (comes_first name ms) _ h)) (both (is_whole t) _ (left (is_whole t) _ (right (comes_first name ms) _ h)) rest)

members-with : (totals : Shape) (ms : Members) → is_whole totals ≡ true → members_are_whole ms ≡ true → members_are_whole (with_totals totals ms) ≡ true
members-with totals no_members one h = refl
members-with totals (member name t ms) one h =
    whole_by (bytes_eq name (codes "steps")) name totals t ms one h (members-with totals ms one (right (is_whole t) _ (right (comes_first name ms) _ h)))

pub request_whole : (t totals : Shape) → is_whole t ≡ true → is_whole totals ≡ true → is_whole (request_with t totals) ≡ true
request_whole null totals h one = refl
request_whole (boolean b) totals h one = refl
request_whole (whole n) totals h one = refl
request_whole other totals h one = refl
request_whole (text s) totals h one = refl
request_whole (list ts) totals h one = refl
request_whole (object ms) totals h one = members-with totals ms one h
