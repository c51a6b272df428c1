-- Members that stand more than once in an object within a document (RFC 8259, section 4: the names within an object should be
-- unique), of which readers keep the last alone.
use Rattle.std.specs.Prelude.{◌≡◌, ℕ, List, codes, map, string_bytes, Bool, false, not, ◌||◌, ◌&&◌, nat_lt, is_some, Option, option_and_then}
use Rattle.std.specs.BTreeMap.{get_by_text}
use Rattle.std.specs.Cmp.Lexicographic.{slice_cmp}
use Rattle.std.specs.List.{list_any}
use Rattle.std.specs.List.Sorted.{IsStrictlySortedBy}
use Rattle.std.specs.Ordering.{nat_cmp}
use Rattle.std.specs.Str.{bytes_eq}
use Rattle.json.specs.Find.{get}
use Rattle.json.specs.Json.{Json, Members, no_members, member}
use Rattle.member_names.specs.Repeated.{has_twin, json_of, member_names, repeats}
use Rattle.flag_doubts.specs.AllRead.{are_all_read}
use Rattle.flag_doubts.specs.Doubled.{count_of, members_in, names_in}
use Rattle.flag_doubts.specs.declared.repeated.Repeated.{Repeated}

-- a definition that stands under the key repeats a member
abbrev pub repeats_under : List ℕ → Members → Bool
repeats_under key no_members = false
repeats_under key (member k j ms) = (bytes_eq k key && repeats j) || repeats_under key ms

abbrev pub repeats_in_flag : Option Json → List ℕ → Bool
repeats_in_flag o key = repeats_under key (members_in (option_and_then (get (codes "flags")) o))

-- a member of another name than `flags` repeats one
abbrev pub repeats_beside : Members → Bool
repeats_beside no_members = false
repeats_beside (member k j ms) = (not (bytes_eq k (codes "flags")) && repeats j) || repeats_beside ms

-- a document repeats a member of its own, or within what stands beside its flags
abbrev pub repeats_outside : Option Json → Bool
repeats_outside o = has_twin (member_names (members_in o)) || repeats_beside (members_in o)

-- the same of the bytes of a document: of the flag of this key, and beside the flags
abbrev pub is_repeated : List ℕ → List ℕ → Bool
is_repeated bytes key = repeats_in_flag (json_of bytes) key

abbrev pub has_repeated : List ℕ → Bool
has_repeated bytes = repeats_outside (json_of bytes)

-- what is found of a document: the keys of flags that stand more than once, in their order, what repeats a member, and whether
-- each member is read
pub record Finds (o : Option Json) (r : Repeated) : Type 0 where
  pub keys : (key : List ℕ) → list_any (bytes_eq key) (map string_bytes r.keys.items) ≡ nat_lt 1 (count_of key (names_in (option_and_then (get (codes "flags")) o)))
  pub rising : IsStrictlySortedBy (slice_cmp nat_cmp) (map string_bytes r.keys.items)
  pub definitions : (key : List ℕ) → is_some (get_by_text r.definitions key) ≡ repeats_in_flag o key
  pub document : is_some r.document ≡ repeats_outside o
  pub all_read : r.all_read ≡ are_all_read o
