use Rattle.std.proofs.Common.{map, string_bytes, ap, is_some, refl}
use Rattle.std.specs.BTreeMap.{is_at}
use Rattle.std.specs.List.{list_any}
use Rattle.std.specs.Map.{lookup}
use Rattle.std.specs.Cmp.Lexicographic.{slice_cmp}
use Rattle.std.specs.Ordering.{nat_cmp}
use Rattle.std.specs.Str.{bytes_eq}
use Rattle.flag_doubts.proofs.Keys.{no_keys}
use Rattle.flag_doubts.proofs.flags.none.Goals as goal

pub returns : goal.returns
returns c = record {
  keys = λ key. ap (λ ks. list_any (bytes_eq key) (map string_bytes ks)) c.new.ensures.items;
  rising = no_keys c.new.result.items c.new.ensures.items;
  definitions = λ key. ap (λ es. is_some (lookup (is_at (λ k. slice_cmp nat_cmp key (string_bytes k))) es)) c.new-2.ensures.empty;
  all_read = refl;
}
