-- What is told by the program, without where its parts lie in memory.
use Rattle.std.specs.Prelude.{ℕ, List, Vec, option_map, string_bytes}
use Rattle.std.specs.declared.alloc.Global.{Global}
use Rattle.rule_switches.specs.Switches.{rows_view}
use Rattle.control_answers.specs.Body.{Told}
use Rattle.control_answers.specs.declared.body.Told as program

abbrev pub told_view : program.Told → Told
told_view t = record {
  snapshot = t.snapshot;
  inputs = t.inputs;
  plan = t.plan.items;
  switches = rows_view t.effect.switches.items;
  by_hand = t.effect.by_hand;
  document = option_map string_bytes t.document;
  explained = string_bytes t.explained;
  picture = string_bytes t.picture;
  token = t.token.items;
}

abbrev pub bytes_view : Vec ℕ Global → List ℕ
bytes_view v = v.items
