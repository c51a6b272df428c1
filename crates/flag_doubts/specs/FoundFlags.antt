-- What is found of the flags of a document.
use Rattle.std.specs.Prelude.{◌≡◌, ℕ, List, map, string_bytes, nat_lt, is_some, Option, Some}
use Rattle.std.specs.BTreeMap.{get_by_text}
use Rattle.std.specs.Cmp.Lexicographic.{slice_cmp}
use Rattle.std.specs.List.{list_any}
use Rattle.std.specs.List.Sorted.{IsStrictlySortedBy}
use Rattle.std.specs.Ordering.{nat_cmp}
use Rattle.std.specs.Str.{bytes_eq}
use Rattle.json.specs.Json.{Json}
use Rattle.member_names.specs.declared.reader.Reader.TheVariants as reader
use Rattle.member_names.specs.Repeated.{repeats}
use Rattle.flag_doubts.specs.AllRead.{are_definitions_read, takes_each}
use Rattle.flag_doubts.specs.Doubled.{count_of, members_in, names_in}
use Rattle.flag_doubts.specs.Repeated.{repeats_under}
use Rattle.flag_doubts.specs.declared.definition.FoundDefinition.{FoundDefinition}
use Rattle.flag_doubts.specs.declared.repeated.Repeated.{Repeated}
use Rattle.flag_doubts.specs.declared.flags.RepeatedFlags.{RepeatedFlags}

-- of a definition
pub record FindsDefinition (j : Json) (r : FoundDefinition) : Type 0 where
  pub place : is_some r.place ≡ repeats j
  pub all_read : r.all_read ≡ takes_each reader.Definition (Some j)

-- of the value of the last member `flags`, where there is one
pub record FindsIn (flags : Option Json) (r : RepeatedFlags) : Type 0 where
  pub keys : (key : List ℕ) → list_any (bytes_eq key) (map string_bytes r.keys.items) ≡ nat_lt 1 (count_of key (names_in flags))
  pub rising : IsStrictlySortedBy (slice_cmp nat_cmp) (map string_bytes r.keys.items)
  pub definitions : (key : List ℕ) → is_some (get_by_text r.definitions key) ≡ repeats_under key (members_in flags)
  pub all_read : r.all_read ≡ are_definitions_read (members_in flags)

-- the flags' part of what is found of a document
pub record FindsFlags (flags : RepeatedFlags) (r : Repeated) : Type 0 where
  pub keys : r.keys ≡ flags.keys
  pub definitions : r.definitions ≡ flags.definitions
