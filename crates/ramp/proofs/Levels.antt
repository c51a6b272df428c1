-- The request of a step nests no deeper than the text of the steps.
use Rattle.std.proofs.Common.{◌≡◌, ℕ, suc, max, ◌≤◌, ◌<◌, ◌+◌, Bool, true, false, cond, List, codes, Option, Some, None, option_and_then, refl, subst, arith}
use Rattle.std.specs.Str.{bytes_eq}
use Rattle.flag_text.specs.Readers.{as_list, find_member, member_of}
use Rattle.flag_text.specs.Reading.{max_levels}
use Rattle.flag_text.specs.Shape.{Shape, null, boolean, whole, other, text, list, object, Items, no_items, item, Members, no_members, member, levels, items_levels, members_levels}
use Rattle.ramp.specs.Steps.{request_with, with_totals}

find_levels : (name : List ℕ) (ms : Members) (t : Shape) → find_member name ms ≡ Some t → levels t ≤ members_levels ms
find_levels name no_members t h = absurd (cc)
find_levels name (member k u ms) t h = by (bytes_eq k name) h (find_levels name ms t)
  where
    by : (b : Bool) → cond b (Some u) (find_member name ms) ≡ Some t → (find_member name ms ≡ Some t → levels t ≤ members_levels ms) → levels t ≤ max (levels u) (members_levels ms)
    by true is rest = let same : u ≡ t = cc in subst (λ (x : Shape). levels x ≤ max (levels u) (members_levels ms)) same (omega arith)
    by false is rest = let later = rest is in omega (arith, later)

list_levels : (name : List ℕ) (ms : Members) (o : Option Shape) (ts : Items) → find_member name ms ≡ o → option_and_then as_list o ≡ Some ts → suc (items_levels ts) ≤ members_levels ms
list_levels name ms None ts is h = absurd (cc)
list_levels name ms (Some null) ts is h = absurd (cc)
list_levels name ms (Some (boolean b)) ts is h = absurd (cc)
list_levels name ms (Some (whole n)) ts is h = absurd (cc)
list_levels name ms (Some other) ts is h = absurd (cc)
list_levels name ms (Some (text s)) ts is h = absurd (cc)
list_levels name ms (Some (object us)) ts is h = absurd (cc)
list_levels name ms (Some (list us)) ts is h =
    let same : us ≡ ts = cc in
    let below = find_levels name ms (list us) is in
    subst (λ (x : Items). suc (items_levels x) ≤ members_levels ms) same below

-- the list of a member, two levels below
pub steps_levels : (name : List ℕ) (t : Shape) (ts : Items) → option_and_then as_list (member_of name t) ≡ Some ts → levels t ≤ max_levels → items_levels ts < max_levels
steps_levels name null ts h deep = absurd (cc)
steps_levels name (boolean b) ts h deep = absurd (cc)
steps_levels name (whole n) ts h deep = absurd (cc)
steps_levels name other ts h deep = absurd (cc)
steps_levels name (text s) ts h deep = absurd (cc)
steps_levels name (list us) ts h deep = absurd (cc)
steps_levels name (object ms) ts h deep = let below = list_levels name ms (find_member name ms) ts refl h in omega (arith, deep, below)

with_levels : (totals : Shape) (ms : Members) → members_levels (with_totals totals ms) ≤ max (members_levels ms) (levels totals)
with_levels totals no_members = omega arith
with_levels totals (member name t ms) = by (bytes_eq name (codes "steps")) (with_levels totals ms)
  where
    by : (b : Bool) → members_levels (with_totals totals ms) ≤ max (members_levels ms) (levels totals)
        → members_levels (cond b (member (codes "totals") totals no_members) (member name t (with_totals totals ms))) ≤ max (max (levels t) (members_levels ms)) (levels totals)
    by true rest = omega arith
    by false rest = omega (arith, rest)

pub request_levels : (t totals : Shape) → levels t ≤ max_levels → levels totals < max_levels → levels (request_with t totals) ≤ max_levels
request_levels null totals deep flat = omega arith
request_levels (boolean b) totals deep flat = omega arith
request_levels (whole n) totals deep flat = omega arith
request_levels other totals deep flat = omega arith
request_levels (text s) totals deep flat = omega arith
request_levels (list ts) totals deep flat = omega arith
request_levels (object ms) totals deep flat = let more = with_levels totals ms in omega (arith, deep, flat, more)
