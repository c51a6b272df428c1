use Rattle.std.proofs.Common.{◌≡◌, ◌++◌, drop, string_bytes}
use Rattle.flag_metadata.specs.Spelled.{others_text}
use Rattle.flag_metadata.specs.View.{lent_view}
use Rattle.flag_metadata.proofs.object.push_others.Given as goal

abbrev pub invariant-loop-name : goal.invariant-loop-name
invariant-loop-name l = string_bytes l.text ++ others_text (lent_view (drop l.name-index l.members)) ≡ string_bytes l.initial.text ++ others_text (lent_view l.members)
