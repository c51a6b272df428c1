use Rattle.std.proofs.Common.{◌≡◌, drop}
use Rattle.std.specs.List.{list_any}
use Rattle.std.specs.Map.{keys_of}
use Rattle.std.specs.Str.{bytes_eq}
use Rattle.bucket_core.specs.Rule.{entries_view}
use Rattle.rule_switches.proofs.edit.is_among.Given as goal

-- the rest answers as the whole
abbrev pub invariant-loop-other : goal.invariant-loop-other
invariant-loop-other l = list_any (bytes_eq l.name) (keys_of (entries_view (drop l.other-index l.entries))) ≡ list_any (bytes_eq l.name) (keys_of (entries_view l.entries))
