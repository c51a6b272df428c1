use Rattle.std.proofs.Common.{◌≡◌, ◌++◌, drop, false, string_bytes}
use Rattle.bucket_core.specs.Rule.{entries_view}
use Rattle.control_flags.specs.Sites.{entries_text}
use Rattle.control_flags.proofs.rules.push_entries.Given as goal

abbrev pub invariant-loop-name : goal.invariant-loop-name
invariant-loop-name l = string_bytes l.out ++ entries_text l.later (entries_view (drop l.name-index l.entries)) ≡ string_bytes l.fn.out ++ entries_text false (entries_view l.entries)
