use Rattle.std.proofs.Common.{◌≡◌, ◌++◌, drop, map, string_bytes}
use Rattle.std.specs.Prelude.{option_copied}
use Rattle.ofrep_answers.specs.Bodies.{others_text}
use Rattle.ofrep_answers.proofs.text.push_others.Given as goal

abbrev pub invariant-loop-body : goal.invariant-loop-body
invariant-loop-body l = string_bytes l.text ++ others_text (option_copied l.metadata) (map string_bytes (drop l.body-index l.bodies)) ≡ string_bytes l.initial.text ++ others_text (option_copied l.metadata) (map string_bytes l.bodies)
