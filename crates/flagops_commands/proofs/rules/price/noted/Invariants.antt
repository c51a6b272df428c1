use Rattle.std.proofs.Common.{◌≡◌, [], drop}
use Rattle.rule_text.specs.Texts.{texts_view}
use Rattle.flagops_commands.specs.Price.{noted_from}
use Rattle.flagops_commands.proofs.rules.price.noted.Given as goal

abbrev pub invariant-loop-key : goal.invariant-loop-key
invariant-loop-key l = noted_from l.book (texts_view (drop l.key-index l.keys)) ≡ noted_from [] (texts_view l.keys)
