use Rattle.std.proofs.Common.{◌≡◌, ◌++◌, ◌<◌, length}
use Rattle.bucket_core.specs.Rule.{AreNamed, all_named, names_view}
use Rattle.rule_text.specs.Lent.{lent_view}
use Rattle.rule_text.proofs.names.numbered.Given as goal

-- those that were taken are named, and with the rest are the whole
abbrev pub invariant-loop-name : goal.invariant-loop-name
invariant-loop-name l = record {
  slots : 0 < length l.slots.items;
  named : AreNamed (names_view l.names.items) l.places.items;
  same : all_named (names_view l.names.items) l.places.items ++ lent_view l.name-iterator.rest.items ≡ lent_view l.fn.entries.items;
}
