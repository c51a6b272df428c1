use Rattle.std.proofs.Common.{◌≡◌, ◌++◌}
use Rattle.bucket_core.specs.Rule.{AreNamed, all_named, entries_view, names_view}
use Rattle.bucket_core.proofs.names.numbered.Given as goal

-- those that were taken are named, and with the rest are the whole
abbrev pub invariant-loop-name : goal.invariant-loop-name
invariant-loop-name l = record {
  named : AreNamed (names_view l.names.items) l.places.items;
  same : all_named (names_view l.names.items) l.places.items ++ entries_view l.name-iterator.rest.items ≡ entries_view l.fn.entries.items;
}
