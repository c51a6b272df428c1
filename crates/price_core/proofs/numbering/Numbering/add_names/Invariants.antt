use Rattle.std.proofs.Common.{◌≡◌, length}
use Rattle.bucket_core.specs.Rule.{names_view}
use Rattle.price_core.specs.Numbering.{Keeps, AreFirstNumbers}
use Rattle.price_core.proofs.numbering.Numbering.add_names.Given as goal

abbrev pub invariant-loop-name : goal.invariant-loop-name
invariant-loop-name l = record {
  keeps : Keeps l.fn.self l.self;
  as_many : length l.numbers.items ≡ l.name-index;
  firsts : AreFirstNumbers l.self (names_view l.names) l.numbers.items;
}
