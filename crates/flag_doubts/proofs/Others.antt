-- What is found of a document is what is found of its flags and beside them.
use Rattle.std.proofs.Common.{◌≡◌, ◌||◌, true, codes, map, string_bytes, is_some, Some, None, refl, sym, ap, ◌∙◌, subst}
use Rattle.std.specs.BTreeMap.{get_by_text}
use Rattle.std.specs.Cmp.Lexicographic.{slice_cmp}
use Rattle.std.specs.List.{list_any}
use Rattle.std.specs.List.Sorted.{IsStrictlySortedBy}
use Rattle.std.specs.Ordering.{nat_cmp}
use Rattle.std.specs.Str.{bytes_eq}
use Rattle.json.specs.Find.{as_object, get_member}
use Rattle.json.specs.Json.{Json, null, boolean, number, string, array, object, Members}
use Rattle.member_names.specs.declared.reader.Reader.{Reader}
use Rattle.member_names.specs.Repeated.{has_twin, member_names}
use Rattle.flag_doubts.specs.AllRead.{are_all_read, takes_each}
use Rattle.flag_doubts.specs.FoundFlags.{FindsIn, FindsFlags}
use Rattle.flag_doubts.specs.Repeated.{Finds, repeats_beside}
use Rattle.flag_doubts.specs.declared.flags.RepeatedFlags.{RepeatedFlags}
use Rattle.flag_doubts.specs.declared.repeated.Repeated.{Repeated}

-- what is no object has no member that is not taken
pub none_taken : (r : Reader) (j : Json) → as_object j ≡ None → takes_each r (Some j) ≡ true
none_taken r null e = refl
none_taken r (boolean b) e = refl
none_taken r (number s) e = refl
none_taken r (string s) e = refl
none_taken r (array js) e = refl
none_taken r (object ms) e = cc

-- nor flags
pub finds_other : (j : Json) (r : RepeatedFlags) → as_object j ≡ None → FindsIn None r → FindsIn (Some j) r
finds_other null r e h = record { keys = h.keys; rising = h.rising; definitions = h.definitions; all_read = h.all_read }
finds_other (boolean b) r e h = record { keys = h.keys; rising = h.rising; definitions = h.definitions; all_read = h.all_read }
finds_other (number s) r e h = record { keys = h.keys; rising = h.rising; definitions = h.definitions; all_read = h.all_read }
finds_other (string s) r e h = record { keys = h.keys; rising = h.rising; definitions = h.definitions; all_read = h.all_read }
finds_other (array js) r e h = record { keys = h.keys; rising = h.rising; definitions = h.definitions; all_read = h.all_read }
finds_other (object ms) r e h = cc

pub finds_nothing : (j : Json) (r : Repeated) → as_object j ≡ None → Finds None r → Finds (Some j) r
finds_nothing null r e h = record { keys = h.keys; rising = h.rising; definitions = h.definitions; document = h.document; all_read = h.all_read }
finds_nothing (boolean b) r e h = record { keys = h.keys; rising = h.rising; definitions = h.definitions; document = h.document; all_read = h.all_read }
finds_nothing (number s) r e h = record { keys = h.keys; rising = h.rising; definitions = h.definitions; document = h.document; all_read = h.all_read }
finds_nothing (string s) r e h = record { keys = h.keys; rising = h.rising; definitions = h.definitions; document = h.document; all_read = h.all_read }
finds_nothing (array js) r e h = record { keys = h.keys; rising = h.rising; definitions = h.definitions; document = h.document; all_read = h.all_read }
finds_nothing (object ms) r e h = cc

pub finds_whole : (ms : Members) (flags : RepeatedFlags) (r : Repeated) → FindsFlags flags r → FindsIn (get_member (codes "flags") ms) flags
    → is_some r.document ≡ (has_twin (member_names ms) || repeats_beside ms) → r.all_read ≡ are_all_read (Some (object ms)) → Finds (Some (object ms)) r
finds_whole ms flags r same h beside read = record {
  keys = λ key. ap (λ v. list_any (bytes_eq key) (map string_bytes v.items)) same.keys ∙ h.keys key;
  rising = subst (λ v. IsStrictlySortedBy (slice_cmp nat_cmp) (map string_bytes v.items)) (sym same.keys) h.rising;
  definitions = λ key. ap (λ m. is_some (get_by_text m key)) same.definitions ∙ h.definitions key;
  document = beside;
  all_read = read;
}
