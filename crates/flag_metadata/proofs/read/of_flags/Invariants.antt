use Rattle.std.proofs.Common.{◌≡◌, ◌++◌, drop, fold, map, string_bytes}
use Rattle.json.specs.Value.{members_view}
use Rattle.flag_metadata.specs.Document.{broken_flags, by_key, each_flag, with_flag}
use Rattle.flag_metadata.specs.View.{flags_view}
use Rattle.flag_metadata.proofs.read.of_flags.Given as goal

abbrev pub invariant-loop-key : goal.invariant-loop-key
invariant-loop-key l =
    (fold with_flag (flags_view l.found.entries) (each_flag (members_view (drop l.key-index l.key-items))) ≡ by_key (each_flag (members_view l.key-items)))
    × (map string_bytes l.broken.items ++ broken_flags (members_view (drop l.key-index l.key-items)) ≡ broken_flags (members_view l.key-items))
