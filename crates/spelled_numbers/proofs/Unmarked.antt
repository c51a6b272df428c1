-- A document whose numbers are all whole has no flag whose variants have floats.
use Rattle.std.proofs.Common.{◌≡◌, ℕ, Bool, true, false, cond, not, List, codes, Option, Some, None, refl, ap, ◌∙◌}
use Rattle.std.specs.List.{list_all}
use Rattle.std.specs.Str.{bytes_eq}
use Rattle.json.specs.Find.{get, get_member, later_or}
use Rattle.json.specs.Json.{Json, null, boolean, number, string, array, object, Members, no_members, member}
use Rattle.flag_text.specs.Grammar.{value_in}
use Rattle.flag_text.proofs.Bools.{Holds, both, left, right}
use Rattle.spelled_numbers.specs.Floats.{has_whole_numbers, members_have_whole_numbers}
use Rattle.spelled_numbers.specs.Marks.{are_floats_in, if_flags, if_floats, marks_among, marks_in, marks_of, marks_of_text, marks_or_none}
use Rattle.spelled_numbers.proofs.Nothing.{no_floats}

abbrev IsWholeIn : Option Json → Type 0
IsWholeIn o = Holds has_whole_numbers o

later_whole : (o p : Option Json) → IsWholeIn o → IsWholeIn p → IsWholeIn (later_or o p)
later_whole None p x y = y
later_whole (Some j) p x y = x

here_whole : (b : Bool) (j : Json) → has_whole_numbers j ≡ true → IsWholeIn (cond b (Some j) None)
here_whole true j h = h
here_whole false j h = tt

member_whole : (name : List ℕ) (ms : Members) → members_have_whole_numbers ms ≡ true → IsWholeIn (get_member name ms)
member_whole name no_members h = tt
member_whole name (member k j ms) h =
    later_whole (get_member name ms) (cond (bytes_eq k name) (Some j) None) (member_whole name ms (right (has_whole_numbers j) (members_have_whole_numbers ms) h))
    (here_whole (bytes_eq k name) j (left (has_whole_numbers j) (members_have_whole_numbers ms) h))

got_whole : (name : List ℕ) (j : Json) → has_whole_numbers j ≡ true → IsWholeIn (get name j)
got_whole name null h = tt
got_whole name (boolean b) h = tt
got_whole name (number s) h = tt
got_whole name (string s) h = tt
got_whole name (array js) h = tt
got_whole name (object ms) h = member_whole name ms h

unmarked_flag : (o : Option Json) → IsWholeIn o → if_floats o ≡ false
unmarked_flag None h = refl
unmarked_flag (Some j) h = no_floats j h

unmarked_flags : (ms : Members) → members_have_whole_numbers ms ≡ true → list_all (λ m. not m.1) (marks_of ms) ≡ true
unmarked_flags no_members h = refl
unmarked_flags (member k j ms) h =
    both (not (are_floats_in j)) (list_all (λ m. not m.1) (marks_of ms))
    (ap not (unmarked_flag (get (codes "variants") j) (got_whole (codes "variants") j (left (has_whole_numbers j) (members_have_whole_numbers ms) h))))
    (unmarked_flags ms (right (has_whole_numbers j) (members_have_whole_numbers ms) h))

among : (j : Json) → has_whole_numbers j ≡ true → list_all (λ m. not m.1) (marks_among j) ≡ true
among null h = refl
among (boolean b) h = refl
among (number s) h = refl
among (string s) h = refl
among (array js) h = refl
among (object ms) h = unmarked_flags ms h

if_there : (o : Option Json) → IsWholeIn o → list_all (λ m. not m.1) (if_flags o) ≡ true
if_there None h = refl
if_there (Some j) h = among j h

pub unmarked : (j : Json) → has_whole_numbers j ≡ true → list_all (λ m. not m.1) (marks_in j) ≡ true
unmarked j h = if_there (get (codes "flags") j) (got_whole (codes "flags") j h)

pub unmarked_text : (bytes : List ℕ) (j : Json) → value_in bytes ≡ Some j → has_whole_numbers j ≡ true → list_all (λ m. not m.1) (marks_of_text bytes) ≡ true
unmarked_text bytes j e h = ap (λ o. list_all (λ m. not m.1) (marks_or_none o)) e ∙ unmarked j h
