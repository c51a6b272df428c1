use Rattle.std.proofs.Common.{◌≡◌, ◌++◌, drop, map, string_bytes}
use Rattle.rule_text.specs.Texts.{texts_view}
use Rattle.flagops_commands.proofs.rules.price.lent.Given as goal

abbrev pub invariant-loop-text : goal.invariant-loop-text
invariant-loop-text l = texts_view l.lent.items ++ map string_bytes (drop l.text-index l.texts) ≡ map string_bytes l.texts
